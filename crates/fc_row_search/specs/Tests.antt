-- To which forms rows apply: what an expression must be where a row makes something of it.
use Rattle.std.specs.Prelude.{Bool, true, false, not, ◌&&◌, ◌||◌, nat_eq, Option, Some, None}
use Rattle.fc_syntax.specs.declared.ty.Name.{Name}
use Rattle.fc_log.specs.declared.log.Row.{Row}
use Rattle.fc_log.specs.declared.log.Row.TheVariants as row
use Rattle.fc_model.specs.Nameless.{NTy, NArgs, NAlts}
use Rattle.fc_model.specs.Nameless.{NExpr, NLit, NApp, NLam, NCase, NCast, NFail, NJoin}
use Rattle.fc_model.specs.Replacing.{join_count}
use Rattle.fc_rows.specs.Shrinking.{are_trivial, is_con, known}
use Rattle.fc_rows.specs.Surroundings.{Known, Unknown, Is, IsNot, Surroundings}
use Rattle.fc_forms.specs.Forms.{case_parts, construction_parts, default_body, single_binding_parts}

abbrev pub is_lambda : NExpr → Bool
is_lambda (NLam b e) = true
is_lambda e = false

abbrev pub is_failure : NExpr → Bool
is_failure (NFail t) = true
is_failure e = false

abbrev pub is_literal : NExpr → Bool
is_literal (NLit n) = true
is_literal e = false

-- a lambda that is applied
abbrev pub is_applied_lambda : NExpr → Bool
is_applied_lambda (NApp f a) = is_lambda f
is_applied_lambda e = false

-- a failure that is applied, looked at or cast
abbrev pub is_around_failure : NExpr → Bool
is_around_failure (NApp f a) = is_failure f
is_around_failure (NCase e t u alts) = is_failure e
is_around_failure (NCast e g) = is_failure e
is_around_failure e = false

abbrev pub is_cast : NExpr → Bool
is_cast (NCast e g) = true
is_cast e = false

-- one join point that is not recursive
abbrev pub is_single_join : NExpr → Bool
is_single_join (NJoin r t js e) = not r && nat_eq (join_count js) 1
is_single_join e = false

-- arguments of a constructor that are not all trivial
abbrev pub has_fields : Option (Name × NArgs) → Bool
has_fields (Some k) = not (are_trivial k.1)
has_fields None = false

abbrev pub names_fields : Option (NTy × NExpr × NExpr) → Bool
names_fields (Some b) = has_fields (construction_parts b.1)
names_fields None = false

-- a let of a constructor of which a field may get a let
abbrev pub is_let_with_fields : NExpr → Bool
is_let_with_fields e = names_fields (single_binding_parts e)

-- a value is known
abbrev pub is_known : Known → Bool
is_known Unknown = false
is_known (Is e) = true
is_known (IsNot hs) = false

abbrev pub looks_at_known : Surroundings → Option (NExpr × NTy × NTy × NAlts) → Bool
looks_at_known s (Some c) = is_con c.0 || (is_literal c.0 || is_known (known s c.0))
looks_at_known s None = false

-- a case of something known
abbrev pub is_case_of_known : Surroundings → NExpr → Bool
is_case_of_known s e = looks_at_known s (case_parts e)

abbrev pub is_some_body : Option NExpr → Bool
is_some_body (Some e) = true
is_some_body None = false

abbrev pub has_default_alone : Option (NExpr × NTy × NTy × NAlts) → Bool
has_default_alone (Some c) = is_some_body (default_body c.3)
has_default_alone None = false

-- a case with one alternative, which is the default
abbrev pub is_case_of_default : NExpr → Bool
is_case_of_default e = has_default_alone (case_parts e)

-- Whether a row that reads types may apply. Of every other row this is not asked.
abbrev pub may_apply : Row → Surroundings → NExpr → Bool
may_apply row.Beta s e = is_applied_lambda e
may_apply row.FailAbsorb s e = is_around_failure e
may_apply row.CastRefl s e = is_cast e
may_apply row.NameField s e = is_let_with_fields e
may_apply row.CaseKnown s e = is_case_of_known s e
may_apply row.CaseEvaluated s e = is_case_of_default e
may_apply row.JoinOnce s e = is_single_join e
may_apply r s e = true
