-- What stands around a place, as the surroundings that rows read.
use Rattle.std.specs.Prelude.{◌≡◌, ⊤}
use Rattle.fc_model.specs.Kinding.{Modules}
use Rattle.fc_model.specs.Nameless.{NoNArgs}
use Rattle.fc_model.specs.NamelessView.{nalts_of, narg_of, nbinders_of, nbinds_of, nexpr_of, njoins_of, nty_of}
use Rattle.fc_rows.specs.Surroundings.{Surroundings, apart, at_head, behind_binders, behind_binds, behind_joins, in_alternative, listed_heads, outside}
use Rattle.fc_known.specs.Counts.{counts}
use Rattle.fc_known.specs.declared.around.Around.{Around, Outside, Binders', Group', Joins', Alternative', Apart', Head', Unapplied'}
use Rattle.fc_known.specs.declared.around.Branch.{Branch}

-- behind an alternative
abbrev pub behind_alternative : Branch → Surroundings → Surroundings
behind_alternative l s = in_alternative (nexpr_of l.scrutinee.now) (nty_of l.ty.now) (listed_heads (nalts_of l.alternatives.now)) l.alternative.now.head (nbinders_of l.alternative.now.binders) s

-- where nothing is applied
abbrev pub unapplied : Surroundings → Surroundings
unapplied s = record s { arguments = NoNArgs }

-- in a definition against what modules declare
abbrev pub surroundings_of : Modules → Around → Surroundings
surroundings_of ms Outside = outside ms
surroundings_of ms (Binders' bs own p f) = behind_binders (nbinders_of bs.now) (surroundings_of ms f)
surroundings_of ms (Group' r bs p f) = behind_binds r (nbinds_of bs.now) (surroundings_of ms f)
surroundings_of ms (Joins' r t js p f) = behind_joins r (nty_of t.now) (njoins_of js.now) (surroundings_of ms f)
surroundings_of ms (Alternative' l p f) = behind_alternative l (surroundings_of ms f)
surroundings_of ms (Apart' p f) = apart (surroundings_of ms f)
surroundings_of ms (Head' a p f) = at_head (narg_of a.now) (surroundings_of ms f)
surroundings_of ms (Unapplied' p f) = unapplied (surroundings_of ms f)

-- the numbers of binders are right
abbrev pub HasCounts : Around → Type 0
HasCounts Outside = ⊤
HasCounts (Binders' bs own p f) = (own ≡ counts (nbinders_of bs.now)) × HasCounts f
HasCounts (Group' r bs p f) = HasCounts f
HasCounts (Joins' r t js p f) = HasCounts f
HasCounts (Alternative' l p f) = (l.own ≡ counts (nbinders_of l.alternative.now.binders)) × HasCounts f
HasCounts (Apart' p f) = HasCounts f
HasCounts (Head' a p f) = HasCounts f
HasCounts (Unapplied' p f) = HasCounts f
