-- The place of the case around an alternative, by the last number of the place of the alternative.
use Rattle.std.proofs.Common.{◌≡◌, ℕ, zero, suc, ◌-◌, ◌<◌, ◌≤◌, List, [], ◌∷◌, ◌++◌, Some, None, refl, sym, ap, ◌∙◌, arith}
use Rattle.fc_model.specs.Calling.{from_some}
use Rattle.fc_rows.specs.Changing.{made}
use Rattle.fc_rows.specs.Rewriting.{alternative_number, before_last, last_part}
use Rattle.fc_apply.specs.Steps.{case_around}

pub last_is : (before : List ℕ) (x : ℕ) → last_part (before ++ x ∷ []) ≡ Some (before, x)
last_is [] x = refl
last_is (y ∷ before) x = ap (before_last y) (last_is before x)

no_number : (x : ℕ) → x < 3 → alternative_number x ≡ None
no_number zero less = refl
no_number (suc zero) less = refl
no_number (suc (suc zero)) less = refl
no_number (suc (suc (suc x))) less = absurd (omega (arith, less))

number : (x : ℕ) → 3 ≤ x → alternative_number x ≡ Some (x - 3)
number zero more = absurd (omega (arith, more))
number (suc zero) more = absurd (omega (arith, more))
number (suc (suc zero)) more = absurd (omega (arith, more))
number (suc (suc (suc x))) more = ap Some (omega arith)

module _ (p before : List ℕ) (x : ℕ) (is : p ≡ before ++ x ∷ []) where
  around : case_around p ≡ made (λ i. (before, i)) (alternative_number x)
  around = ap case_around is ∙ ap (from_some (λ q. made (λ i. (q.0, i)) (alternative_number q.1))) (last_is before x)

  pub no_case : x < 3 → None ≡ case_around p
  no_case less = sym (around ∙ ap (made (λ i. (before, i))) (no_number x less))

  pub the_case : 3 ≤ x → Some (before, x - 3) ≡ case_around p
  the_case more = sym (around ∙ ap (made (λ i. (before, i))) (number x more))
