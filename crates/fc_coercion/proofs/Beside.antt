-- Two coercions beside each other, and coercions one after the other.
use Rattle.std.proofs.Common.{◌≡◌, refl, ap, ℕ, ◌+◌, ◌<◌, List, [], ◌∷◌, ◌++◌, drop, get_or, length, Result, Ok, Err}
use Rattle.fc_syntax.specs.Tree.{Kind}
use Rattle.fc_syntax.specs.declared.co.Co as G
use Rattle.fc_model.specs.Coercing.{Ends, all_ends_or_fault, ends_or_fault, then_ends}
use Rattle.fc_model.specs.Faulting.{F, and_then, under}
use Rattle.fc_model.specs.Kinding.{Modules}
use Rattle.fc_model.specs.NamelessView.{nco_of, ncos_of}
use Rattle.fc_model.specs.Says.{Refuses, Says}
use Rattle.fc_model.specs.declared.flaw.Flawed.{Flawed}
use Rattle.fc_model.proofs.Lists.{drop_item}
use Rattle.fc_lint_context.proofs.Faults.{fails}
use Rattle.fc_coercion.specs.Pairs.{with_ends}

-- TWO COERCIONS

both_then : {Y : Type 0} (r s : Result Ends F) (go : Ends → Ends → Result Y F)
    → and_then r (λ e. and_then s (λ d. go e d)) ≡ and_then (and_then {X = Ends} {Y = Ends × Ends} r (λ e. and_then {X = Ends} {Y = Ends × Ends} s (λ d. Ok (e, d))))
    (λ p. go p.0 p.1)
both_then (Ok e) (Ok d) go = refl
both_then (Ok e) (Err f) go = refl
both_then (Err f) s go = refl

-- what stands on two coercions is refused where they are, and is what stands on what they prove
module _ {X : Type 0} (v : X → Ends) (a : Result X Flawed) (r s : Result Ends F) (go : Ends → Ends → Result Ends F) where
  pub both_fail : (f : Flawed) → Refuses f (and_then {X = Ends} {Y = Ends × Ends} r (λ e. and_then {X = Ends} {Y = Ends × Ends} s (λ d. Ok (e, d)))) → a ≡ Err f → Says v a (and_then r (λ e. and_then s (λ d. go e d)))
  both_fail f h is = rw (both_then r s go) (fails _ _ _ _ _ h is)

  pub both_prove : (e d : Ends) → and_then {X = Ends} {Y = Ends × Ends} r (λ e. and_then {X = Ends} {Y = Ends × Ends} s (λ d. Ok (e, d))) ≡ Ok (e, d) → Says v a (go e d) → Says v a (and_then r (λ e. and_then s (λ d. go e d)))
  both_prove e d p said = rw (both_then r s go, p) said

-- SEVERAL COERCIONS

one_more : {X : Type 0} (xs : List X) (x : X) (ys : List X) → xs ++ x ∷ ys ≡ (xs ++ x ∷ []) ++ ys
one_more [] x ys = refl
one_more (y ∷ xs) x ys = ap (λ r. y ∷ r) (one_more xs x ys)

append_none : {X : Type 0} (xs : List X) → xs ++ [] ≡ xs
append_none [] = refl
append_none (x ∷ xs) = ap (λ r. x ∷ r) (append_none xs)

with_more : (items : List Ends) (e : Ends) (r : Result (List Ends) F) → with_ends items (then_ends e r) ≡ with_ends (items ++ e ∷ []) r
unfolding with_ends
with_more items e (Ok es) = ap (λ x. Ok x) (one_more items e es)
with_more items e (Err f) = refl

pub with_end : (items : List Ends) → with_ends items (Ok []) ≡ Ok items
unfolding with_ends
with_end items = ap (λ x. Ok x) (append_none items)

pub with_none : (r : Result (List Ends) F) → with_ends [] r ≡ r
unfolding with_ends
with_none (Ok es) = refl
with_none (Err f) = refl

with_then : (items : List Ends) (h : Result Ends F) (r : Result (List Ends) F)
    → with_ends items (and_then h (λ e. then_ends e r)) ≡ and_then h (λ e. with_ends (items ++ e ∷ []) r)
unfolding with_ends
with_then items (Ok e) r = with_more items e r
with_then items (Err f) r = refl

-- one more
pub all_step : (ms : Modules) (ks : List Kind) (cs items : List Ends) (i : ℕ) (gs : List (G.Co ℕ)) (k : ℕ) (g : G.Co ℕ) → k < length gs → g ≡ get_or gs k g
    → with_ends items (all_ends_or_fault ms ks cs i (ncos_of (drop k gs))) ≡ and_then (under i (ends_or_fault ms ks cs (nco_of g))) (λ e. with_ends (items ++ e ∷ []) (all_ends_or_fault ms ks cs (i + 1) (ncos_of (drop (k + 1) gs))))
all_step ms ks cs items i gs k g low is = rw (drop_item gs k g low is) (with_then items _ _)
