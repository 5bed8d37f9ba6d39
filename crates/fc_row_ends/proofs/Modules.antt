-- Each step of a shrinking or a commuting row lowers a number of the module, and so they come to an end.
use Rattle.std.proofs.Common.{◌≡◌, ◌≤◌, ◌+◌, ◌&&◌, ℕ, zero, suc, Bool, true, false, if◌then◌else◌, List, [], ◌∷◌, Option, Some, bytes_eq, refl, ap, arith, inl, inr}
use Rattle.std.specs.List.{list_all}
use Rattle.fc_syntax.specs.Tree.{Word}
use Rattle.fc_log.specs.declared.log.Row.{Row}
use Rattle.fc_log.specs.declared.log.Row.TheVariants as row
use Rattle.fc_log.specs.declared.log.Step.{Step}
use Rattle.fc_model.specs.Kinding.{Modules, decls_at}
use Rattle.fc_model.specs.Nameless.{NDecl, NData, NNew, NFamily, NAxiom, NDef, NWrap, NExpr, NModule, NModuleOf}
use Rattle.fc_model.proofs.CallsKept.{from_some_inv}
use Rattle.fc_reaching.specs.Reaching.{decls_in, defined_words}
use Rattle.fc_rows.specs.ChangingCoercions.{as_they_are}
use Rattle.fc_rows.specs.Dropping.{with_needed}
use Rattle.fc_row_nodes.specs.Nodes.{module_nodes}
use Rattle.fc_rows.specs.Replaying.{Rewrites, at_a_place, of_the_module, at_end, past_mark, past_step}
use Rattle.fc_rows.specs.Rewriting.{changed_decls, changed_module, changed_right, looked_at, row_result, without_definitions}
use Rattle.fc_rows.specs.Surroundings.{Surroundings, outside}
use Rattle.fc_row_nodes.proofs.Made.{either_way, made_inv, none_some}
use Rattle.fc_row_ends.specs.Ending.{NoEndlessSteps}
use Rattle.fc_row_ends.specs.Growth.{ReplaysRaiseNoNodes, RowsRaiseNoNodes}
use Rattle.fc_row_ends.proofs.AtPlaces.{Lifts, change_lifts, lifts_on}
use Rattle.fc_row_ends.proofs.CaseRows.{case_evaluated_falls, case_known_falls}
use Rattle.fc_row_ends.proofs.Counted.{module_counted}
use Rattle.fc_row_ends.proofs.Descents.{Before, Never, all_before, all_never, no_descent}
use Rattle.fc_row_ends.proofs.Drops.{Drops, Falls, by_around, by_casts, by_fields, by_forms, by_lets, by_nodes, falls_too}
use Rattle.fc_row_ends.proofs.LetRows.{app_of_let_falls, case_of_let_falls, cast_of_let_falls, let_dead_falls, let_of_let_falls, let_once_falls, name_field_falls}
use Rattle.fc_row_ends.proofs.Numbers.{Number, Nodes, Forms, Fields, Lets, Around, Casts, in_decl, in_decls, in_module, outermost, plain_extra}
use Rattle.fc_row_ends.proofs.SimpleRows.{RowFalls, alt_dead_falls, beta_falls, case_merge_falls, cast_cast_falls, cast_refl_falls, fail_absorb_falls, join_dead_falls, join_once_falls, let_atom_falls, nothing_falls}

-- ROWS

-- of a row that is not defined yet there is no step
row_falls : (ms : Modules) (r : Row) (i : ℕ) → RowFalls (row_result ms r i)
row_falls ms row.Beta i = beta_falls ms
row_falls ms row.LetDead i = let_dead_falls
row_falls ms row.LetAtom i = let_atom_falls
row_falls ms row.LetOnce i = let_once_falls
row_falls ms row.CaseKnown i = case_known_falls ms
row_falls ms row.CaseEvaluated i = case_evaluated_falls ms
row_falls ms row.CaseMerge i = case_merge_falls
row_falls ms row.AltDead i = alt_dead_falls i
row_falls ms row.FailAbsorb i = fail_absorb_falls ms
row_falls ms row.CastRefl i = cast_refl_falls ms
row_falls ms row.CastCast i = cast_cast_falls
row_falls ms row.PushArgument i = nothing_falls
row_falls ms row.PushType i = nothing_falls
row_falls ms row.PushConstructor i = nothing_falls
row_falls ms row.CoercionShorter i = nothing_falls
row_falls ms row.Fold i = nothing_falls
row_falls ms row.JoinDead i = join_dead_falls
row_falls ms row.JoinOnce i = join_once_falls
row_falls ms row.DefDead i = nothing_falls
row_falls ms row.AppOfLet i = app_of_let_falls
row_falls ms row.CaseOfLet i = case_of_let_falls
row_falls ms row.LetOfLet i = let_of_let_falls
row_falls ms row.CastOfLet i = cast_of_let_falls
row_falls ms row.NameField i = name_field_falls ms
row_falls ms row.Unfold i = nothing_falls
row_falls ms row.AppOfCase i = nothing_falls
row_falls ms row.CaseOfCase i = nothing_falls
row_falls ms row.AltJoin i = nothing_falls
row_falls ms row.Contify i = nothing_falls
row_falls ms row.Split i = nothing_falls
row_falls ms row.Special i = nothing_falls
row_falls ms row.FloatOut i = nothing_falls
row_falls ms row.FloatIn i = nothing_falls
row_falls ms row.StrictLet i = nothing_falls

-- A CHANGE OF A DEFINITION

-- each number is lower by so much in declarations, and in a module
abbrev DeclsDrop : List NDecl → List NDecl → Number → ℕ → Type 0
DeclsDrop ds cs n c = in_decls n cs + c ≤ in_decls n ds

abbrev ModuleDrops : NModule → NModule → Number → ℕ → Type 0
ModuleDrops m k n c = in_module n k + c ≤ in_module n m

module _ (row : Surroundings → NExpr → Option NExpr) (s : Surroundings) where
  right_lifts : (p : List ℕ) (e f : NExpr) → changed_right row as_they_are s p e ≡ Some f → Lifts row (λ n c. Drops n c e f)
  right_lifts [] e f h = none_some h
  right_lifts (zero ∷ p) e f h = none_some h
  right_lifts (suc zero ∷ p) e f h = change_lifts row s p e f h
  right_lifts (suc (suc i) ∷ p) e f h = none_some h

  decls_lift : (w : Word) (p : List ℕ) (ds cs : List NDecl) → changed_decls row as_they_are s w p ds ≡ Some cs → Lifts row (DeclsDrop ds cs)
  decls_lift w p [] cs h = none_some h
  decls_lift w p (NDef x t e ∷ ds) cs h =
      either_way (λ y. Lifts row (DeclsDrop (NDef x t e ∷ ds) y)) (bytes_eq x w) _ _ cs h
      (λ k.
      let m = made_inv (λ f. NDef x t f ∷ ds) (changed_right row as_they_are s p e) cs k in
      lifts_on row (right_lifts p e m.0 m.1) (λ n c d. omega (arith, ap (in_decls n) m.2, d.whole (outermost n))))
      (λ k.
      let m = made_inv (λ rest. NDef x t e ∷ rest) (changed_decls row as_they_are s w p ds) cs k in
      lifts_on row (decls_lift w p ds m.0 m.1) (λ n c d. omega (arith, ap (in_decls n) m.2, d)))
  decls_lift w p (NWrap x t e ∷ ds) cs h =
      either_way (λ y. Lifts row (DeclsDrop (NWrap x t e ∷ ds) y)) (bytes_eq x w) _ _ cs h
      (λ k.
      let m = made_inv (λ f. NWrap x t f ∷ ds) (changed_right row as_they_are s p e) cs k in
      lifts_on row (right_lifts p e m.0 m.1) (λ n c d. omega (arith, ap (in_decls n) m.2, d.whole (outermost n))))
      (λ k.
      let m = made_inv (λ rest. NWrap x t e ∷ rest) (changed_decls row as_they_are s w p ds) cs k in
      lifts_on row (decls_lift w p ds m.0 m.1) (λ n c d. omega (arith, ap (in_decls n) m.2, d)))
  decls_lift w p (NData x ps ks ∷ ds) cs h =
      let m = made_inv (λ rest. NData x ps ks ∷ rest) (changed_decls row as_they_are s w p ds) cs h in
      lifts_on row (decls_lift w p ds m.0 m.1) (λ n c d. omega (arith, ap (in_decls n) m.2, d))
  decls_lift w p (NNew x ps t con ∷ ds) cs h =
      let m = made_inv (λ rest. NNew x ps t con ∷ rest) (changed_decls row as_they_are s w p ds) cs h in
      lifts_on row (decls_lift w p ds m.0 m.1) (λ n c d. omega (arith, ap (in_decls n) m.2, d))
  decls_lift w p (NFamily x ps k ∷ ds) cs h =
      let m = made_inv (λ rest. NFamily x ps k ∷ rest) (changed_decls row as_they_are s w p ds) cs h in
      lifts_on row (decls_lift w p ds m.0 m.1) (λ n c d. omega (arith, ap (in_decls n) m.2, d))
  decls_lift w p (NAxiom x ps t u ∷ ds) cs h =
      let m = made_inv (λ rest. NAxiom x ps t u ∷ rest) (changed_decls row as_they_are s w p ds) cs h in
      lifts_on row (decls_lift w p ds m.0 m.1) (λ n c d. omega (arith, ap (in_decls n) m.2, d))

change_falls : (row : Surroundings → NExpr → Option NExpr) → RowFalls row → (xs : List NModule) (w : Word) (p : List ℕ) (m k : NModule) → changed_module row as_they_are xs w p m ≡ Some k
    → Falls (ModuleDrops m k)
change_falls row falls xs w p (NModuleOf x imports exports hidden ds) k h =
    let s = outside (decls_at (NModuleOf x imports exports hidden ds ∷ xs)) in
    let q = made_inv (λ cs. NModuleOf x imports exports hidden cs) (changed_decls row as_they_are s w p ds) k h in
    let v = decls_lift row s w p ds q.0 q.1 in
    falls_too (λ n c d. let e = v.lifts n c d in omega (arith, ap (in_module n) q.2, e)) (falls v.at v.part v.new v.is)

-- DEFINITIONS THAT GO

-- one definition, with whether its word is kept and whether all others are
one_definition : (b all : Bool) (d : NDecl) (ds cs : List NDecl) → 1 ≤ in_decl Nodes d → in_decls Nodes cs + plain_extra all ≤ in_decls Nodes ds
    → in_decls Nodes (if b then d ∷ cs else cs) + plain_extra (b && all) ≤ in_decls Nodes (d ∷ ds)
one_definition true all d ds cs some h = omega (arith, h)
one_definition false all d ds cs some h = omega (arith, h, some)

definitions_fall : (keep : Word → Bool) (ds : List NDecl) → in_decls Nodes (without_definitions keep ds) + plain_extra (list_all keep (defined_words ds)) ≤ in_decls Nodes ds
definitions_fall keep [] = omega arith
definitions_fall keep (NDef x t e ∷ ds) =
    one_definition (keep x) (list_all keep (defined_words ds)) (NDef x t e) ds (without_definitions keep ds) (omega arith) (definitions_fall keep ds)
definitions_fall keep (NWrap x t e ∷ ds) =
    one_definition (keep x) (list_all keep (defined_words ds)) (NWrap x t e) ds (without_definitions keep ds) (omega arith) (definitions_fall keep ds)
definitions_fall keep (NData x ps cs ∷ ds) = omega (arith, definitions_fall keep ds)
definitions_fall keep (NNew x ps t con ∷ ds) = omega (arith, definitions_fall keep ds)
definitions_fall keep (NFamily x ps k ∷ ds) = omega (arith, definitions_fall keep ds)
definitions_fall keep (NAxiom x ps t u ∷ ds) = omega (arith, definitions_fall keep ds)

needed_falls : (keep : Word → Bool) (m : NModule) → list_all keep (defined_words (decls_in m)) ≡ false → in_module Nodes (with_needed keep m) + 1 ≤ in_module Nodes m
needed_falls keep (NModuleOf x imports exports hidden ds) some = omega (arith, definitions_fall keep ds, ap plain_extra some)

-- STEPS

step_falls : (xs : List NModule) (s : Step) (m k : NModule) → Rewrites xs s m k → Falls (ModuleDrops m k)
step_falls xs s m k (at_a_place r w p h limits) =
    let q = from_some_inv (λ q. changed_module (row_result (decls_at (m ∷ xs)) r q.1) as_they_are xs w q.0 m) (looked_at r p) k h in
    change_falls (row_result (decls_at (m ∷ xs)) r q.0.1) (row_falls (decls_at (m ∷ xs)) r q.0.1) xs w q.0.0 m k q.2
step_falls xs s m k (of_the_module drops) = by_nodes (omega (arith, ap (in_module Nodes) drops.left, needed_falls drops.keep m drops.some))

-- the first number at least does not rise
nodes_among : {V : Number → ℕ → Type 0} → Falls V → (c : ℕ) × V Nodes c
nodes_among (by_nodes a) = (1, a)
nodes_among (by_forms a b) = (0, a)
nodes_among (by_fields a b c) = (0, a)
nodes_among (by_lets a b c d) = (0, a)
nodes_among (by_around a b c d e) = (0, a)
nodes_among (by_casts a b c d e f) = (0, a)

step_raises_none : (xs : List NModule) (s : Step) (m k : NModule) → Rewrites xs s m k → module_nodes k ≤ module_nodes m
step_raises_none xs s m k h = let v = nodes_among (step_falls xs s m k h) in omega (arith, v.1, module_counted m, module_counted k)

pub rows_raise_no_nodes : RowsRaiseNoNodes
rows_raise_no_nodes xs s m k shrinks h = step_raises_none xs s m k h

pub replays_raise_no_nodes : ReplaysRaiseNoNodes
replays_raise_no_nodes xs es m k at_end = omega arith
replays_raise_no_nodes xs es m k (past_mark {es = more} p rest) = replays_raise_no_nodes xs more m k rest
replays_raise_no_nodes xs es m k (past_step {es = more} {k = n} s step rest) = omega (arith, step_raises_none xs s m n step, replays_raise_no_nodes xs more n k rest)

-- the six numbers
abbrev numbers : NModule → ℕ × (ℕ × (ℕ × (ℕ × (ℕ × (ℕ × Unit {0})))))
numbers m = (in_module Nodes m, (in_module Forms m, (in_module Fields m, (in_module Lets m, (in_module Around m, (in_module Casts m, tt))))))

abbrev IsLower : ℕ × (ℕ × (ℕ × (ℕ × (ℕ × (ℕ × Unit {0}))))) → ℕ × (ℕ × (ℕ × (ℕ × (ℕ × (ℕ × Unit {0}))))) → Type 0
IsLower = Before (Before (Before (Before (Before (Before Never)))))

lower : (m k : NModule) → Falls (ModuleDrops m k) → IsLower (numbers k) (numbers m)
lower m k (by_nodes a) = inl a
lower m k (by_forms a b) = inr (a, inl b)
lower m k (by_fields a b c) = inr (a, inr (b, inl c))
lower m k (by_lets a b c d) = inr (a, inr (b, inr (c, inl d)))
lower m k (by_around a b c d e) = inr (a, inr (b, inr (c, inr (d, inl e))))
lower m k (by_casts a b c d e f) = inr (a, inr (b, inr (c, inr (d, inr (e, inl f)))))

pub steps_end : NoEndlessSteps
steps_end xs ms ss shrinks steps =
    let two = all_before (Before Never) (all_before Never all_never) in
    let four = all_before (Before (Before (Before Never))) (all_before (Before (Before Never)) two) in
    let six = all_before (Before (Before (Before (Before (Before Never))))) (all_before (Before (Before (Before (Before Never)))) four) in
    no_descent IsLower (λ i. numbers (ms i)) (λ i. lower (ms i) (ms (suc i)) (step_falls xs (ss i) (ms i) (ms (suc i)) (steps i))) (numbers (ms 0)) (six (numbers (ms 0))) 0 refl
