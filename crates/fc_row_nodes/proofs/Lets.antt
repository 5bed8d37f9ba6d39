-- What stands behind lets for the terms among arguments, and arguments that are named or stand for parameters.
use Rattle.std.proofs.Common.{◌≡◌, ◌≤◌, ◌+◌, ℕ, suc, Bool, true, false, List, [], ◌∷◌, ◌++◌, map, Some, refl, ap, arith}
use Rattle.fc_model.specs.Calling.{at_type, coercion_asked, function_ends, over_binders}
use Rattle.fc_model.specs.Kinding.{param_kinds}
use Rattle.fc_model.specs.Nameless.{NTy, NTForall, NBinder, NBValue, NBType, NBCo, NParam, NParamOf, NATerm, NAType, NACo, NArgs, NoNArgs, MoreNArgs, NExpr}
use Rattle.fc_model.specs.Replacing.{renamed}
use Rattle.fc_model.specs.Substituting.{instantiated, substituted_type, type_for_innermost, types_below}
use Rattle.fc_model.proofs.CallsKept.{from_some_inv}
use Rattle.fc_model.proofs.Sameness.{false_true}
use Rattle.fc_rows.specs.Changing.{made}
use Rattle.fc_rows.specs.Shrinking.{behind_lets, let_of, named_arguments, pair_with, without_first}
use Rattle.fc_rows.specs.Surroundings.{past_values}
use Rattle.fc_row_nodes.specs.Nodes.{args_nodes, counted_binders, fields_nodes, nodes}
use Rattle.fc_row_nodes.proofs.Made.{made_inv, none_some, some_some}
use Rattle.fc_row_nodes.proofs.Replaced.{AreLight, renamed_nodes}

-- COUNTS

-- how many terms and coercions are among arguments
abbrev pub counted : NArgs → ℕ
counted NoNArgs = 0
counted (MoreNArgs (NATerm e) rest) = 1 + counted rest
counted (MoreNArgs (NAType t) rest) = counted rest
counted (MoreNArgs (NACo g) rest) = 1 + counted rest

pub pair_counted : (bs : List NBinder) (args : NArgs) → pair_with bs args ≡ true → counted args ≡ counted_binders bs
pair_counted [] NoNArgs h = refl
pair_counted (NBValue t ∷ bs) (MoreNArgs (NATerm e) rest) h = ap (λ n. 1 + n) (pair_counted bs rest h)
pair_counted (NBType k ∷ bs) (MoreNArgs (NAType t) rest) h = omega (arith, pair_counted bs rest h)
pair_counted (NBCo r t u ∷ bs) (MoreNArgs (NACo g) rest) h = ap (λ n. 1 + n) (pair_counted bs rest h)
pair_counted bs args h = false_true h

pub args_in_fields : (args : NArgs) → args_nodes args ≤ fields_nodes args
args_in_fields NoNArgs = omega arith
args_in_fields (MoreNArgs (NATerm e) rest) = omega (arith, args_in_fields rest)
args_in_fields (MoreNArgs (NAType t) rest) = omega (arith, args_in_fields rest)
args_in_fields (MoreNArgs (NACo g) rest) = omega (arith, args_in_fields rest)

-- named arguments as fields
pub named_nodes : (args : NArgs) → fields_nodes (named_arguments args) ≡ counted args
named_nodes NoNArgs = refl
named_nodes (MoreNArgs (NATerm e) rest) = omega (arith, named_nodes rest)
named_nodes (MoreNArgs (NAType t) rest) = omega (arith, named_nodes rest)
named_nodes (MoreNArgs (NACo g) rest) = omega (arith, named_nodes rest)

named_counted : (args : NArgs) → counted (named_arguments args) ≡ counted args
named_counted NoNArgs = refl
named_counted (MoreNArgs (NATerm e) rest) = ap (λ n. 1 + n) (named_counted rest)
named_counted (MoreNArgs (NAType t) rest) = named_counted rest
named_counted (MoreNArgs (NACo g) rest) = ap (λ n. 1 + n) (named_counted rest)

pub named_light : (args : NArgs) → AreLight (named_arguments args)
named_light NoNArgs = tt
named_light (MoreNArgs (NATerm e) rest) = (omega arith, named_light rest)
named_light (MoreNArgs (NAType t) rest) = named_light rest
named_light (MoreNArgs (NACo g) rest) = named_light rest

pub rest_light : (ps : List NParam) (args : NArgs) → AreLight args → AreLight (without_first ps args)
rest_light [] args h = h
rest_light (p ∷ ps) NoNArgs h = tt
rest_light (p ∷ ps) (MoreNArgs (NATerm e) rest) h = rest_light ps rest h.1
rest_light (p ∷ ps) (MoreNArgs (NAType t) rest) h = rest_light ps rest h
rest_light (p ∷ ps) (MoreNArgs (NACo g) rest) h = rest_light ps rest h

-- LETS

-- a let for each term, and then the body
pub lets_nodes : (i : ℕ) (t : NTy) (args : NArgs) (b f : NExpr) → behind_lets i t args b ≡ Some f → nodes f ≤ (counted args + args_nodes args) + nodes b
lets_nodes i t NoNArgs b f h = omega (arith, ap nodes (some_some h))
lets_nodes i t (MoreNArgs (NATerm a) rest) b f h =
    let e = from_some_inv (λ e. made (let_of e.0 (renamed (past_values i) a)) (behind_lets (suc i) e.1 rest b)) (function_ends t) f h in
    let m = made_inv (let_of e.0.0 (renamed (past_values i) a)) (behind_lets (suc i) e.0.1 rest b) f e.2 in
    omega (arith, ap nodes m.2, lets_nodes (suc i) e.0.1 rest b m.0 m.1, renamed_nodes (past_values i) a)
lets_nodes i t (MoreNArgs (NAType u) rest) b f h =
    let v = from_some_inv (λ v. behind_lets i v rest b) (at_type t u) f h in
    omega (arith, lets_nodes i v.0 rest b f v.2)
lets_nodes i t (MoreNArgs (NACo g) rest) b f h =
    let p = from_some_inv (λ p. behind_lets i p.3 rest b) (coercion_asked t) f h in
    omega (arith, lets_nodes i p.0.3 rest b f p.2)

-- PARAMETERS

-- a type asks a type for each parameter first
abbrev pub asks_types : List NParam → NTy → Bool
asks_types [] t = true
asks_types (p ∷ ps) (NTForall k t) = asks_types ps t
asks_types (p ∷ ps) t = false

asked_still : (ps : List NParam) (s : ℕ → NTy) (t : NTy) → asks_types ps t ≡ true → asks_types ps (substituted_type s t) ≡ true
asked_still [] s t h = refl
asked_still (p ∷ ps) s (NTForall k t) h = asked_still ps (types_below s) t h
asked_still (p ∷ ps) s t h = false_true h

pub parameters_asked : (ps : List NParam) (bs : List NBinder) (t : NTy) → asks_types ps (over_binders (map NBType (param_kinds ps) ++ bs) t) ≡ true
parameters_asked [] bs t = refl
parameters_asked (NParamOf k r ∷ ps) bs t = parameters_asked ps bs t

-- no term stands for a parameter
pub rest_counted : (ps : List NParam) (i : ℕ) (t : NTy) (args : NArgs) (b f : NExpr) → asks_types ps t ≡ true → behind_lets i t args b ≡ Some f
    → counted (without_first ps (named_arguments args)) ≡ counted args
rest_counted [] i t args b f q h = named_counted args
rest_counted (p ∷ ps) i t NoNArgs b f q h = refl
rest_counted (p ∷ ps) i (NTForall k t) (MoreNArgs (NATerm a) rest) b f q h = none_some h
rest_counted (p ∷ ps) i (NTForall k t) (MoreNArgs (NAType u) rest) b f q h = rest_counted ps i (instantiated u t) rest b f (asked_still ps (type_for_innermost u) t q) h
rest_counted (p ∷ ps) i (NTForall k t) (MoreNArgs (NACo g) rest) b f q h = none_some h
rest_counted (p ∷ ps) i t args b f q h = false_true q
