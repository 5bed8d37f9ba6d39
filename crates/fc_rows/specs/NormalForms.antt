-- What simplifying leaves: a module in which no shrinking and no commuting row applies any more.
use Rattle.std.specs.Prelude.{◌≡◌, Bool, true, false, List}
use Rattle.fc_log.specs.declared.log.Row.{Row}
use Rattle.fc_log.specs.declared.log.Row.TheVariants as row
use Rattle.fc_log.specs.declared.log.Step.{Step}
use Rattle.fc_model.specs.Nameless.{NModule}
use Rattle.fc_rows.specs.Replaying.{Rewrites}

-- shrinking rows make a module smaller, and commuting rows move a let, or a field, to where a shrinking row may meet it; the others may make it grow, or
-- are of phases of their own
abbrev pub is_shrinking_or_commuting : Row → Bool
is_shrinking_or_commuting row.Beta = true
is_shrinking_or_commuting row.LetDead = true
is_shrinking_or_commuting row.LetAtom = true
is_shrinking_or_commuting row.LetOnce = true
is_shrinking_or_commuting row.CaseKnown = true
is_shrinking_or_commuting row.CaseEvaluated = true
is_shrinking_or_commuting row.CaseMerge = true
is_shrinking_or_commuting row.AltDead = true
is_shrinking_or_commuting row.FailAbsorb = true
is_shrinking_or_commuting row.CastRefl = true
is_shrinking_or_commuting row.CastCast = true
is_shrinking_or_commuting row.PushArgument = true
is_shrinking_or_commuting row.PushType = true
is_shrinking_or_commuting row.PushConstructor = true
is_shrinking_or_commuting row.CoercionShorter = true
is_shrinking_or_commuting row.Fold = true
is_shrinking_or_commuting row.JoinDead = true
is_shrinking_or_commuting row.JoinOnce = true
is_shrinking_or_commuting row.DefDead = true
is_shrinking_or_commuting row.AppOfLet = true
is_shrinking_or_commuting row.CaseOfLet = true
is_shrinking_or_commuting row.LetOfLet = true
is_shrinking_or_commuting row.CastOfLet = true
is_shrinking_or_commuting row.NameField = true
is_shrinking_or_commuting row.Unfold = false
is_shrinking_or_commuting row.AppOfCase = false
is_shrinking_or_commuting row.CaseOfCase = false
is_shrinking_or_commuting row.AltJoin = false
is_shrinking_or_commuting row.Contify = false
is_shrinking_or_commuting row.Split = false
is_shrinking_or_commuting row.Special = false
is_shrinking_or_commuting row.FloatOut = false
is_shrinking_or_commuting row.FloatIn = false
is_shrinking_or_commuting row.StrictLet = false

-- a module, among those of its imports, of which no such row makes another: neither at a place, nor of the module as a whole
abbrev pub IsQuiet : List NModule → NModule → Type 0
IsQuiet xs n = (s : Step) (k : NModule) → is_shrinking_or_commuting s.row ≡ true → Rewrites xs s n k → ⊥
