-- What an alternative counts that is found, with what is put in for what it binds.
use Rattle.std.proofs.Common.{◌≡◌, ◌≤◌, ◌+◌, ◌*◌, ℕ, Bool, true, false, if◌then◌else◌, List, Some, refl, ap, arith}
use Rattle.fc_syntax.specs.declared.expr.Head.TheVariants as head
use Rattle.fc_syntax.specs.declared.ty.Name.{Name}
use Rattle.fc_model.specs.Calling.{Constructor, constructed_type, constructor_type}
use Rattle.fc_model.specs.Kinding.{Modules}
use Rattle.fc_model.specs.Nameless.{NTy, NBinder, NATerm, NBranch, NExpr, NLocal, NVar, NLit, NCon, NArgs, MoreNArgs, NAlts, NoNAlts, MoreNAlts}
use Rattle.fc_model.specs.Replacing.{below_binders, below_values, coercion_variables, past_a_value, renamed, replaced, unchanged, variables, with_arguments}
use Rattle.fc_model.proofs.Sameness.{false_true}
use Rattle.fc_rows.specs.Occurrences.{innermost_values, is_dead, occurrences}
use Rattle.fc_rows.specs.Shrinking.{alternative_of, at_constructor, at_variable, behind_lets}
use Rattle.fc_rows.specs.Shrinking.{is_evaluated_atom, is_trivial, let_of, moved_args, named_arguments, pair_with, same_head, term_count, without_first}
use Rattle.fc_rows.specs.Surroundings.{Surroundings, past_values}
use Rattle.fc_row_nodes.specs.Nodes.{alts_nodes, counted_binders, fields_nodes, nodes}
use Rattle.fc_row_nodes.proofs.AtOnce.{put_at_once}
use Rattle.fc_row_nodes.proofs.Lets.{args_in_fields, counted, lets_nodes, named_light, named_nodes, pair_counted, parameters_asked, rest_counted, rest_light}
use Rattle.fc_row_nodes.proofs.Made.{either_way, if_some_inv, none_some, some_some}
use Rattle.fc_row_nodes.proofs.Replaced.{AreLight, arguments_light, dead_put, light_nodes, moved_light, renamed_nodes, unchanged_light}
use Rattle.fc_row_nodes.proofs.Within.{field}

-- ALTERNATIVES THAT ARE FOUND

-- what an alternative of a constructor counts is all there
pub constructor_nodes : (n : Name) (alts : NAlts) (a : List NBinder × NExpr) → alternative_of (head.Con n) alts ≡ Some a → (1 + 2 * counted_binders a.0) + nodes a.1 ≤ alts_nodes alts
constructor_nodes n NoNAlts a q = none_some q
constructor_nodes n (MoreNAlts (NBranch head.Default cs c) rest) a q = omega (arith, constructor_nodes n rest a q)
constructor_nodes n (MoreNAlts (NBranch (head.Lit m) cs c) rest) a q = omega (arith, constructor_nodes n rest a q)
constructor_nodes n (MoreNAlts (NBranch (head.Con m) cs c) rest) a q =
    either_way (λ x. (1 + 2 * counted_binders x.0) + nodes x.1 ≤ alts_nodes (MoreNAlts (NBranch (head.Con m) cs c) rest)) (same_head (head.Con n) (head.Con m)) (Some (cs, c)) (alternative_of (head.Con n) rest) a q
    (λ x. omega (arith, ap (λ y. nodes y.1) (some_some x), ap (λ y. counted_binders y.0) (some_some x)))
    (λ x. omega (arith, constructor_nodes n rest a x))

-- ONE ALTERNATIVE

pub variable_nodes : (y f : NExpr) (parts : NArgs) (a : List NBinder × NExpr) → field y ≤ 1 → AreLight parts → at_variable y parts a ≡ Some f → nodes f ≤ nodes a.1
variable_nodes y f parts (bs, b) one light h =
    let put = with_arguments (MoreNArgs (NATerm y) parts) unchanged in
    let m = if_some_inv (pair_with bs parts) (Some (replaced put b)) f h in
    omega (arith, ap nodes (some_some m.1), light_nodes put (arguments_light (MoreNArgs (NATerm y) parts) unchanged (one, light) unchanged_light) b)

either_body : (d : Bool) (a b : NExpr) (n : ℕ) → (d ≡ true → nodes a ≤ n) → nodes b ≤ n → nodes (if d then a else b) ≤ n
either_body true a b n first second = first refl
either_body false a b n first second = second

-- the body at named parts, with the constructor put in for the case binder or bound to it
at_parts_nodes : (xt : NTy) (n : Name) (args parts : NArgs) (body : NExpr) → AreLight parts
    → nodes (if is_dead (occurrences (innermost_values 1) (replaced (with_arguments (moved_args past_a_value parts) unchanged) body))
    then replaced (with_arguments (MoreNArgs (NATerm (NCon n (named_arguments args))) parts) unchanged) body
    else let_of xt (NCon n (named_arguments args)) (replaced (with_arguments (moved_args past_a_value parts) unchanged) body)) ≤ (2 + counted args) + nodes body
at_parts_nodes xt n args parts body light =
    let con = NCon n (named_arguments args) in
    let past = with_arguments (moved_args past_a_value parts) unchanged in
    let inner = replaced past body in
    let least = light_nodes past (arguments_light (moved_args past_a_value parts) unchanged (moved_light past_a_value parts light) unchanged_light) body in
    either_body (is_dead (occurrences (innermost_values 1) inner)) (replaced (with_arguments (MoreNArgs (NATerm con) parts) unchanged) body) (let_of xt con inner) ((2 + counted args) + nodes body)
    (λ dead. omega (arith, ap nodes (put_at_once con parts body), dead_put con inner dead, least))
    (omega (arith, named_nodes args, least))

pub constructor_made : (xt : NTy) (n : Name) (args : NArgs) (k : Constructor) (a : List NBinder × NExpr) (f : NExpr) → at_constructor xt n args k a ≡ Some f
    → nodes f ≤ (2 + fields_nodes args) + (2 * counted_binders a.0 + nodes a.1)
constructor_made xt n args k (bs, b) f h =
    let named = named_arguments args in
    let parts = without_first k.params named in
    let r = below_binders variables coercion_variables bs (below_values variables coercion_variables 1 (past_values (term_count args))) in
    let body = renamed r b in
    let inner = if is_dead (occurrences (innermost_values 1) (replaced (with_arguments (moved_args past_a_value parts) unchanged) body))
    then replaced (with_arguments (MoreNArgs (NATerm (NCon n named)) parts) unchanged) body
    else let_of xt (NCon n named) (replaced (with_arguments (moved_args past_a_value parts) unchanged) body) in
    let m = if_some_inv (pair_with bs parts) (behind_lets 0 (constructor_type n k) args inner) f h in
    let asks = parameters_asked k.params _ (constructed_type n k) in
    let rest = rest_counted k.params 0 (constructor_type n k) args inner f asks m.1 in
    omega (arith, lets_nodes 0 (constructor_type n k) args inner f m.1, at_parts_nodes xt n args parts body (rest_light k.params named (named_light args)), pair_counted bs parts m.0, rest, args_in_fields args, renamed_nodes r b)

-- WHAT IS EVALUATED

pub atom_trivial : (ms : Modules) (s : Surroundings) (e : NExpr) → is_evaluated_atom ms s e ≡ true → is_trivial e ≡ true
atom_trivial ms s (NLocal i) h = refl
atom_trivial ms s (NVar n) h = refl
atom_trivial ms s (NLit z) h = refl
atom_trivial ms s e h = false_true h
