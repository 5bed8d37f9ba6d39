-- An alternative for a constructor behind lets for the constructor's terms.
use Rattle.std.specs.Prelude.{ℕ, ◌+◌, if◌then◌else◌}
use Rattle.fc_syntax.specs.declared.ty.Name.{Name}
use Rattle.fc_model.specs.Nameless.{NTy, NATerm, NArgs, NExpr, NLocal, NCon}
use Rattle.fc_model.specs.Replacing.{past_a_value, replaced, with_argument, with_arguments}
use Rattle.fc_rows.specs.Occurrences.{innermost_values, is_dead, occurrences}
use Rattle.fc_rows.specs.Shrinking.{let_of, moved_args}
use Rattle.fc_subst.specs.Replacements.{past_all}
use Rattle.fc_subst.specs.declared.shift.Shift.{Shift}

-- so many values
abbrev pub values_alone : ℕ → Shift
values_alone n = record { types = 0; coercions = 0; values = n; joins = 0 }

-- what the alternative answers with these parts in place of its binders, behind so many lets and the case binder
abbrev pub bound_in : ℕ → NArgs → NExpr → NExpr
bound_in lets parts b = replaced (with_arguments (moved_args past_a_value parts) (with_argument (NATerm (NLocal 0)) (past_all (values_alone (lets + 1))))) b

-- the same with an expression in place of the case binder
abbrev pub put_in : ℕ → NExpr → NArgs → NExpr → NExpr
put_in lets whole parts b = replaced (with_arguments parts (with_argument (NATerm whole) (past_all (values_alone lets)))) b

-- the case binder is bound to the constructor where it occurs
abbrev pub inside_lets : NTy → Name → NArgs → NArgs → ℕ → NExpr → NExpr
inside_lets t n named parts lets b =
    if is_dead (occurrences (innermost_values 1) (bound_in lets parts b))
    then put_in lets (NCon n named) parts b
    else let_of t (NCon n named) (bound_in lets parts b)
