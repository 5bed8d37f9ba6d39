-- Numbers that are compared from the first on fall only so often.
use Rattle.std.proofs.Common.{◌≡◌, ◌≤◌, ◌+◌, ℕ, zero, suc, arith, subst, ◌⊎◌, inl, inr, refl}

-- FALLING WITHOUT END

-- what falls, falls to what is reached
pub data Reached {X : Type 0} (Below : X → X → Type 0) : X → Type 0 where
  reached : {x : X} → ((y : X) → Below y x → Reached Below y) → Reached Below x

pub no_descent : {X : Type 0} (Below : X → X → Type 0) (f : ℕ → X) → ((i : ℕ) → Below (f (suc i)) (f i)) → (x : X) → Reached Below x → (i : ℕ) → f i ≡ x → ⊥
no_descent Below f falls x (reached r) i is = no_descent Below f falls (f (suc i)) (r (f (suc i)) (subst (Below (f (suc i))) is (falls i))) (suc i) refl

-- A NUMBER BEFORE OTHERS

-- the number falls, or it does not rise and what comes behind it falls
abbrev pub Before : {X : Type 0} → (X → X → Type 0) → ℕ × X → ℕ × X → Type 0
Before Below y x = (y.0 + 1 ≤ x.0) ⊎ ((y.0 + 0 ≤ x.0) × Below y.1 x.1)

module _ {X : Type 0} (Below : X → X → Type 0) (all : (x : X) → Reached Below x) where
  -- with what all is reached that has a lower number
  with_lower : (m : ℕ) → ((p : ℕ × X) → p.0 + 1 ≤ m → Reached (Before Below) p) → (x : X) → Reached Below x → (a : ℕ) → a ≤ m → Reached (Before Below) (a, x)
  with_lower m lower x (reached r) a low = reached (λ y below. elim below [
    | inl less ↦ lower y (omega (arith, less, low))
    | inr b ↦ with_lower m lower y.1 (r y.1 b.1) y.0 (omega (arith, b.0, low))
  ])

  under : (m : ℕ) (p : ℕ × X) → p.0 + 1 ≤ m → Reached (Before Below) p
  under zero p low = absurd (omega (arith, low))
  under (suc m) p low = with_lower m (under m) p.1 (all p.1) p.0 (omega (arith, low))

  pub all_before : (p : ℕ × X) → Reached (Before Below) p
  all_before p = under (suc p.0) p (omega arith)

-- nothing falls below nothing
abbrev pub Never : Unit {0} → Unit {0} → Type 0
Never y x = ⊥

pub all_never : (x : Unit {0}) → Reached Never x
all_never x = reached (λ y below. absurd below)
