-- What a fact tells of a variable.
use Rattle.std.specs.Prelude.{ℕ, ◌+◌, Bool, false, nat_eq, Option, Some, None}
use Rattle.fc_syntax.specs.declared.ty.Name.{Name}
use Rattle.fc_model.specs.Kinding.{same_name}
use Rattle.fc_model.specs.Nameless.{NExpr, NLocal, NVar}
use Rattle.fc_model.specs.NamelessView.{nalts_of, nbinders_of, nexpr_of, nty_of}
use Rattle.fc_rows.specs.Surroundings.{Known, Unknown, known_in_alternative, known_of, listed_heads, moved_known}
use Rattle.fc_subst.specs.Replacements.{renaming_of}
use Rattle.fc_known.specs.declared.around.Branch.{Branch}
use Rattle.fc_known.specs.declared.knowing.Fact.{Fact}
use Rattle.fc_known.specs.declared.knowing.Fact.TheVariants as fact

-- what the scrutinee is in an alternative
abbrev pub known_there : Branch → Known
known_there l = known_in_alternative (nty_of l.ty.now) (listed_heads (nalts_of l.alternatives.now)) l.alternative.now.head (nbinders_of l.alternative.now.binders)

abbrev pub told : Fact → Known
told fact.Nothing = Unknown
told (fact.Bound e p) = moved_known (renaming_of p) (known_of (nexpr_of e.now))
told (fact.Found l p) = moved_known (renaming_of p) (known_there l)

-- whether an expression, from so many values further out, is the variable at a distance
abbrev pub is_it : NExpr → ℕ → ℕ → Bool
is_it (NLocal i) m d = nat_eq d (i + m)
is_it e m d = false

-- whether an expression is a top-level name
abbrev pub is_named : NExpr → Name → Bool
is_named (NVar n) m = same_name m n
is_named e m = false

-- what a right side tells, where one is told
abbrev pub right_side : Option NExpr → Known
right_side None = Unknown
right_side (Some e) = known_of e
