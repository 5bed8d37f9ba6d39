-- The last dot of a word.
use Rattle.std.proofs.Common.{◌≡◌, ℕ, ◌+◌, ◌<◌, Bool, true, false, List, [], ◌∷◌, length, refl, sym, ◌∙◌, ap, arith, ltb-true, lt-ltb, take, ◌≤◌, zero, suc, add-zero}
use Rattle.std.specs.Prelude.{not, nat_lt, reverse, cond, ◌||◌, ◌↔◌}
use Rattle.std.specs.List.{list_any, prefix_len, suffix_len}
use Rattle.std.proofs.lemmas.Bool.Decides.{nat_tests}
use Rattle.std.proofs.lemmas.List.{length-reverse}
use Rattle.std.proofs.lemmas.List.Sorted.{IsPermutation-reverse, list_any-IsPermutation}
use Rattle.fc_syntax.specs.Tokens.{is_dot}

any_step : (b : Bool) (r : Bool) (n m : ℕ) → r ≡ nat_lt n m → (b || r) ≡ nat_lt (cond (not b) (1 + n) 0) (1 + m)
any_step true r n m e = sym (lt-ltb 0 (1 + m) (omega arith))
any_step false r n m e = e ∙ grind (arith, nat_tests)

-- some element passes exactly where the run of those that do not ends before the end
any_by_run : {X : Type 0} (p : X → Bool) (xs : List X) → list_any p xs ≡ nat_lt (prefix_len (λ x. not (p x)) xs) (length xs)
any_by_run p [] = refl
any_by_run p (x ∷ xs) =
    let e : 1 + length xs ≡ length (x ∷ xs) = omega arith in
    any_step (p x) (list_any p xs) (prefix_len (λ x. not (p x)) xs) (length xs) (any_by_run p xs) ∙ ap (nat_lt (cond (not (p x)) (1 + prefix_len (λ x. not (p x)) xs) 0)) e

pub any_by_last : {X : Type 0} (p : X → Bool) (xs : List X) → list_any p xs ≡ nat_lt (suffix_len (λ x. not (p x)) xs) (length xs)
any_by_last p xs =
    list_any-IsPermutation p xs (reverse xs) (IsPermutation-reverse xs)
    ∙ (any_by_run p (reverse xs) ∙ ap (nat_lt (suffix_len (λ x. not (p x)) xs)) (length-reverse xs))

-- a word has a dot exactly where its last part begins after its first byte
pub dotted : (w : List ℕ) (n : ℕ) → n + suffix_len (λ b. not (is_dot b)) w ≡ length w → (list_any is_dot w ≡ true) ↔ (0 < n)
dotted w n e =
    let q = any_by_last is_dot w in (
      (λ h. let l = ltb-true (suffix_len (λ b. not (is_dot b)) w) (length w) (sym q ∙ h) in omega arith),
      (λ h. q ∙ lt-ltb (suffix_len (λ b. not (is_dot b)) w) (length w) (omega arith)),
    )

pub undotted : (w : List ℕ) (n : ℕ) → n ≤ 0 → n + suffix_len (λ b. not (is_dot b)) w ≡ length w + suffix_len (λ b. not (is_dot b)) (take n w) → (list_any is_dot w ≡ true) ↔ (0 < n)
undotted w zero h e = dotted w zero (e ∙ add-zero (length w))
undotted w (suc n) h e = absurd (omega arith)
