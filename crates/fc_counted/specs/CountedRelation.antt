-- The counted relation: one term is under another up to a count, in a program each. It is a step-indexed logical relation: a count of
-- steps is what it goes down by.
use Rattle.std.specs.Prelude.{◌≡◌, ℕ, zero, suc, ◌-◌, ◌<◌, ◌≤◌, List, [], ◌∷◌, ℤ}
use Rattle.fc_syntax.specs.declared.ty.Name.{Name}
use Rattle.fc_model.specs.Stepping.{Program, Reaches}
use Rattle.fc_model.specs.Terms.{Sort, Lifted, Unlifted, Term, Lit, Var, Lam, Con, Terms, Nil, Cons, sub, push, InRange, IsSorted}

-- a relation of terms at each count
abbrev pub Counted : Type 1
Counted = ℕ → Term → Term → Type 0

-- Two arguments of a sort fit at a count: lifted ones are closed and sorted, and related at each count up to it; unlifted ones are
-- equal literals.
abbrev pub Fit : Counted → ℕ → Sort → Term → Term → Type 0
Fit R i Lifted a b = IsSorted [] a × IsSorted [] b × ((l : ℕ) → l ≤ i → R l a b)
Fit R i Unlifted a b = (z : ℤ) × InRange z × (a ≡ Lit z) × (b ≡ Lit z)

-- lifted fields are related at each count below m, unlifted ones are equal
abbrev pub AgreesAt : Counted → ℕ → Sort → Term → Term → Type 0
AgreesAt R m Lifted a b = (i : ℕ) → i < m → R i a b
AgreesAt R m Unlifted a b = a ≡ b

abbrev pub FieldsAgree : Counted → ℕ → List Sort → Terms → Terms → Type 0
FieldsAgree R m [] Nil Nil = Unit {0}
FieldsAgree R m (s ∷ ss) (Cons a ts) (Cons b us) = AgreesAt R m s a b × FieldsAgree R m ss ts us
FieldsAgree R m [] Nil (Cons b us) = ⊥
FieldsAgree R m [] (Cons a ts) us = ⊥
FieldsAgree R m (s ∷ ss) Nil us = ⊥
FieldsAgree R m (s ∷ ss) (Cons a ts) Nil = ⊥

-- two heads agree below the count m
pub data Agree (R : Counted) (m : ℕ) : Term → Term → Type 0 where
  literals_agree : (z : ℤ) → Agree R m (Lit z) (Lit z)
  constructors_agree : (c : Name) (ss : List Sort) (ts us : Terms) → FieldsAgree R m ss ts us → Agree R m (Con c ss ts) (Con c ss us)
  lambdas_agree : (s : Sort) (b d : Term) → ((i : ℕ) → i < m → (x y : Term) → Fit R i s x y → R i (sub (push x Var) b) (sub (push y Var) d)) → Agree R m (Lam s b) (Lam s d)

-- at the count k, where R is the relation at the counts below it
abbrev pub Above : Program → Program → ℕ → Counted → Term → Term → Type 0
Above P Q k R t u = (j : ℕ) → j < k → (h : Term) → Reaches P t j h → (i : ℕ) × (g : Term) × Reaches Q u i g × Agree R (k - j) h g

-- the relation at all counts below n, one above the other
unfoldable pub UnderTower : Program → Program → ℕ → ℕ → Term → Term → Type 0
UnderTower P Q zero k t u = Unit {0}
UnderTower P Q (suc n) k t u = Above P Q k (UnderTower P Q n) t u

-- Where t comes to a head in less than k steps, u comes to one that agrees with it below what is left of k. The law `UnderUnfolds`
-- says it without the tower.
unfoldable pub Under : Program → Program → ℕ → Term → Term → Type 0
unfolding UnderTower
Under P Q k t u = UnderTower P Q (suc k) k t u
