-- Whether a type mentions one of the innermost type variables: where it does not, it is one from outside, past them.
use Rattle.std.proofs.Common.{◌≡◌, ℕ, zero, suc, ◌+◌, ◌-◌, ◌≤◌, Bool, true, false, ◌&&◌, nat_le, nat_lt, refl, sym, ap, ◌∙◌, arith}
use Rattle.std.proofs.lemmas.Bool.{or_parts}
use Rattle.std.proofs.lemmas.Bool.Decides.{nat_tests}
use Rattle.fc_model.specs.Nameless.{NTy, NTVar, NTCon, NTInt, NTApp, NTFun, NTForall, NTCoForall}
use Rattle.fc_model.specs.Substituting.{has_innermost, raised_type, renamed_type, renaming_below}
use Rattle.fc_model.proofs.Raised.{raised_has_none}
use Rattle.fc_type_scope.proofs.Raising.{renamed_compose}

-- the renaming keeps all but the m variables behind b binders
abbrev Keeps : ℕ → ℕ → (ℕ → ℕ) → Type 0
Keeps m b r = (i : ℕ) → (b ≤ i → b + m ≤ i) → r i ≡ i

variable_passes : (m b i : ℕ) → (nat_le b i && nat_lt i (b + m)) ≡ false → b ≤ i → b + m ≤ i
variable_passes m b i h l = grind (arith, nat_tests)

keeps_below : (m b : ℕ) (r : ℕ → ℕ) → Keeps m b r → Keeps m (suc b) (renaming_below r)
keeps_below m b r k zero p = refl
keeps_below m b r k (suc i) p = ap suc (k i (λ l. omega (arith, p (omega arith))))

kept : (m b : ℕ) (r : ℕ → ℕ) → Keeps m b r → (t : NTy) → has_innermost m b t ≡ false → renamed_type r t ≡ t
kept m b r k (NTVar i) h = ap NTVar (k i (variable_passes m b i h))
kept m b r k (NTCon n) h = refl
kept m b r k NTInt h = refl
kept m b r k (NTApp t u) h = let p = or_parts (has_innermost m b t) (has_innermost m b u) h in cc (kept m b r k t p.0, kept m b r k u p.1)
kept m b r k (NTFun t u) h = let p = or_parts (has_innermost m b t) (has_innermost m b u) h in cc (kept m b r k t p.0, kept m b r k u p.1)
kept m b r k (NTForall j t) h = ap (λ x. NTForall j x) (kept m (suc b) (renaming_below r) (keeps_below m b r k) t h)
kept m b r k (NTCoForall o t u v) h =
    let p = or_parts _ (has_innermost m b v) h in
    let q = or_parts (has_innermost m b t) (has_innermost m b u) p.0 in
    cc (kept m b r k t q.0, kept m b r k u q.1, kept m b r k v p.1)

-- a type that has none of the m innermost variables is one from outside, past them
pub from_outside : (m : ℕ) (t : NTy) → has_innermost m 0 t ≡ false → t ≡ raised_type m (renamed_type (λ i. i - m) t)
from_outside m t h = sym (renamed_compose (λ i. i - m) (λ i. i + m) t ∙ kept m 0 (λ i. (i - m) + m) (λ i p. let l : m ≤ i = omega (arith, p (omega arith)) in omega arith) t h)

-- a test that is false just for types from outside
pub escapes_is : (b : Bool) (m : ℕ) (t u : NTy) → (b ≡ false → t ≡ raised_type m u) → (b ≡ true → (v : NTy) → t ≡ raised_type m v → ⊥) → b ≡ has_innermost m 0 t
escapes_is false m t u f g = sym (ap (has_innermost m 0) (f refl) ∙ raised_has_none m u)
escapes_is true m t u f g = by (has_innermost m 0 t) refl
  where
    by : (c : Bool) → has_innermost m 0 t ≡ c → true ≡ c
    by true e = refl
    by false e = absurd (g refl (renamed_type (λ i. i - m) t) (from_outside m t e))
