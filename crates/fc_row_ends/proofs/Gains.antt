-- What the occurrences of something add where it is put in: m, and x more where it is an argument of a constructor.
use Rattle.std.proofs.Common.{◌≡◌, ◌≤◌, ◌+◌, ℕ, Bool, true, false, refl, arith, ◌⊎◌, inl, inr, if◌then◌else◌}
use Rattle.fc_model.specs.Nameless.{NBinder, NBValue, NBType, NBCo}
use Rattle.fc_rows.specs.Occurrences.{and_further, as_field, below_lambda, inside}
use Rattle.fc_rows.specs.declared.occurrence.Occurrence.{Occurrence}
use Rattle.fc_rows.specs.declared.occurrence.Occurrence.TheVariants.{Dead, Once, OnceAsField, OnceInside, Many}
use Rattle.fc_row_nodes.proofs.Gains.{is_many}

abbrev pub gain : ℕ → ℕ → Occurrence → ℕ
gain m x Dead = 0
gain m x Once = m
gain m x OnceAsField = m + x
gain m x OnceInside = m + x
gain m x Many = m + x

-- at most once, or nothing is put in
abbrev pub IsFew : ℕ → ℕ → Occurrence → Type 0
IsFew m x d = (m + x ≡ 0) ⊎ (is_many d ≡ false)

pub no_gain : (d : Occurrence) → gain 0 0 d ≡ 0
no_gain Dead = refl
no_gain Once = refl
no_gain OnceAsField = refl
no_gain OnceInside = refl
no_gain Many = refl

gain_at_most : (m x : ℕ) (d : Occurrence) → gain m x d ≤ m + x
gain_at_most m x Dead = omega arith
gain_at_most m x d = omega arith

-- TWO PIECES

-- what occurs in two pieces together adds what it adds in each
pub record Shared (m x : ℕ) (a b : Occurrence) : Type 0 where
  pub first : IsFew m x a
  pub second : IsFew m x b
  pub gains : gain m x a + gain m x b ≤ gain m x (and_further a b)

-- in both
in_both : (m x : ℕ) (a b : Occurrence) → is_many (and_further a b) ≡ true → IsFew m x (and_further a b) → Shared m x a b
in_both m x a b many (inl none) = record { first = inl none; second = inl none; gains = omega (arith, none, gain_at_most m x a, gain_at_most m x b) }
in_both m x a b many (inr few) = absurd (cc)

pub shared : (m x : ℕ) (a b : Occurrence) → IsFew m x (and_further a b) → Shared m x a b
shared m x Dead b few = record { first = inr refl; second = few; gains = omega arith }
shared m x Once Dead few = record { first = few; second = inr refl; gains = omega arith }
shared m x OnceAsField Dead few = record { first = few; second = inr refl; gains = omega arith }
shared m x OnceInside Dead few = record { first = few; second = inr refl; gains = omega arith }
shared m x Many Dead few = record { first = few; second = inr refl; gains = omega arith }
shared m x a b few = in_both m x a b refl few

-- ANOTHER COUNT OF ONE PIECE

-- the piece adds no more than what it is counted as
pub record CountsAs (m x : ℕ) (a b : Occurrence) : Type 0 where
  pub few : IsFew m x b → IsFew m x a
  pub most : gain m x a ≤ gain m x b

as_itself : (m x : ℕ) (d : Occurrence) → CountsAs m x d d
as_itself m x d = record { few = λ h. h; most = omega arith }

pub counts_inside : (m x : ℕ) (d : Occurrence) → CountsAs m x d (inside d)
counts_inside m x Dead = record { few = λ h. h; most = omega arith }
counts_inside m x d = record { few = λ h. h; most = omega arith }

counts_as_field : (m x : ℕ) (d : Occurrence) → CountsAs m x d (as_field d)
counts_as_field m x Dead = record { few = λ h. h; most = omega arith }
counts_as_field m x d = record { few = λ h. h; most = omega arith }

pub counts_in_field : (m x : ℕ) (b : Bool) (d : Occurrence) → CountsAs m x d (if b then as_field d else d)
counts_in_field m x true d = counts_as_field m x d
counts_in_field m x false d = as_itself m x d

pub counts_below : (m x : ℕ) (b : NBinder) (d : Occurrence) → CountsAs m x d (below_lambda b d)
counts_below m x (NBValue t) d = counts_inside m x d
counts_below m x (NBType k) d = as_itself m x d
counts_below m x (NBCo r t u) d = counts_inside m x d
