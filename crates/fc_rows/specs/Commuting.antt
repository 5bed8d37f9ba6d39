-- The commuting rows: a let moves out of what stands around it, and a field of a constructor gets a let. What a let moves past goes past its binders.
use Rattle.std.specs.Prelude.{Bool, false, if◌then◌else◌, Option, Some, None}
use Rattle.fc_model.specs.Calling.{at_type, coercion_asked, constructor, constructor_type, from_some, function_ends}
use Rattle.fc_model.specs.Kinding.{Modules}
use Rattle.fc_model.specs.Nameless.{NTy, NExpr, NLocal, NApp, NLet, NCase, NCast, NCon, NATerm, NAType, NACo, NBound, NArgs, NoNArgs, MoreNArgs, NoNBinds, MoreNBinds}
use Rattle.fc_model.specs.Replacing.{below_values, bind_count, coercion_variables, past_a_value, put_in_alts, renamed, variables}
use Rattle.fc_rows.specs.Changing.{made}
use Rattle.fc_rows.specs.Shrinking.{is_trivial, let_of, moved_arg, moved_args}
use Rattle.fc_rows.specs.Surroundings.{is_value, past_values}

-- a let that is applied
abbrev pub app_of_let : NExpr → Option NExpr
app_of_let (NApp (NLet r bs b) a) = Some (NLet r bs (NApp b (moved_arg (past_values (bind_count bs)) a)))
app_of_let e = None

-- a case that looks at a let
abbrev pub case_of_let : NExpr → Option NExpr
case_of_let (NCase (NLet r bs b) xt rt alts) =
    Some (NLet r bs (NCase b xt rt (put_in_alts variables coercion_variables (below_values variables coercion_variables 1 (past_values (bind_count bs))) alts)))
case_of_let e = None

-- a let that is cast
abbrev pub cast_of_let : NExpr → Option NExpr
cast_of_let (NCast (NLet r bs b) g) = Some (NLet r bs (NCast b g))
cast_of_let e = None

-- a value, behind any number of lets
abbrev pub is_value_behind_lets : NExpr → Bool
is_value_behind_lets (NLet r bs e) = is_value_behind_lets e
is_value_behind_lets e = is_value e

-- a let of a value that stands behind lets
abbrev pub let_of_let : NExpr → Option NExpr
let_of_let (NLet false (MoreNBinds (NBound t (NLet r bs e)) NoNBinds) b) =
    if is_value_behind_lets e then Some (NLet r bs (let_of t e (renamed (below_values variables coercion_variables 1 (past_values (bind_count bs))) b))) else None
let_of_let e = None

-- the first term among arguments that is not trivial, with the type that is asked of it
abbrev pub first_field : NTy → NArgs → Option (NTy × NExpr)
first_field t NoNArgs = None
first_field t (MoreNArgs (NATerm a) rest) = from_some (λ e. if is_trivial a then first_field e.1 rest else Some (e.0, a)) (function_ends t)
first_field t (MoreNArgs (NAType u) rest) = from_some (λ v. first_field v rest) (at_type t u)
first_field t (MoreNArgs (NACo g) rest) = from_some (λ p. first_field p.3 rest) (coercion_asked t)

-- arguments past one value more, with its variable in place of the first term that is not trivial
abbrev pub with_first_named : NArgs → NArgs
with_first_named NoNArgs = NoNArgs
with_first_named (MoreNArgs (NATerm a) rest) =
    if is_trivial a then MoreNArgs (NATerm (renamed past_a_value a)) (with_first_named rest) else MoreNArgs (NATerm (NLocal 0)) (moved_args past_a_value rest)
with_first_named (MoreNArgs (NAType u) rest) = MoreNArgs (moved_arg past_a_value (NAType u)) (with_first_named rest)
with_first_named (MoreNArgs (NACo g) rest) = MoreNArgs (moved_arg past_a_value (NACo g)) (with_first_named rest)

-- a let of a constructor: its first field that is not trivial gets a let of its own
abbrev pub name_field : Modules → NExpr → Option NExpr
name_field ms (NLet false (MoreNBinds (NBound t (NCon n args)) NoNBinds) b) =
    from_some (λ k. made (λ f. let_of f.0 f.1 (let_of t (NCon n (with_first_named args)) (renamed (below_values variables coercion_variables 1 past_a_value) b)))
    (first_field (constructor_type n k) args)) (constructor ms n)
name_field ms e = None
