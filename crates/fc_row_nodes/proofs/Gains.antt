-- What the occurrences of something add where m terms more are put in for it.
use Rattle.std.proofs.Common.{◌≡◌, ◌≤◌, ◌+◌, ℕ, Bool, true, false, refl, arith, ◌⊎◌, inl, inr, if◌then◌else◌}
use Rattle.fc_model.specs.Nameless.{NBinder, NBValue, NBType, NBCo}
use Rattle.fc_rows.specs.Occurrences.{and_further, as_field, below_lambda, inside}
use Rattle.fc_rows.specs.declared.occurrence.Occurrence.{Occurrence}
use Rattle.fc_rows.specs.declared.occurrence.Occurrence.TheVariants.{Dead, Once, OnceAsField, OnceInside, Many}

abbrev pub gain : ℕ → Occurrence → ℕ
gain m Dead = 0
gain m Once = m
gain m OnceAsField = m
gain m OnceInside = m
gain m Many = m

abbrev pub is_many : Occurrence → Bool
is_many Dead = false
is_many Once = false
is_many OnceAsField = false
is_many OnceInside = false
is_many Many = true

-- at most once, or nothing more is put in
abbrev pub IsFew : ℕ → Occurrence → Type 0
IsFew m d = (m ≡ 0) ⊎ (is_many d ≡ false)

pub gain_at_most : (m : ℕ) (d : Occurrence) → gain m d ≤ m
gain_at_most m Dead = omega arith
gain_at_most m d = omega arith

pub no_gain : (d : Occurrence) → gain 0 d ≡ 0
no_gain Dead = refl
no_gain d = refl

-- TWO PIECES

-- what occurs in two pieces together adds what it adds in each
pub record Shared (m : ℕ) (a b : Occurrence) : Type 0 where
  pub first : IsFew m a
  pub second : IsFew m b
  pub gains : gain m a + gain m b ≤ gain m (and_further a b)

-- in both
in_both : (m : ℕ) (a b : Occurrence) → gain m a ≡ m → gain m b ≡ m → is_many (and_further a b) ≡ true → gain m (and_further a b) ≡ m → IsFew m (and_further a b) → Shared m a b
in_both m a b x y many z (inl none) = record { first = inl none; second = inl none; gains = omega (arith, x, y, z, none) }
in_both m a b x y many z (inr few) = absurd (cc)

pub shared : (m : ℕ) (a b : Occurrence) → IsFew m (and_further a b) → Shared m a b
shared m Dead b few = record { first = inr refl; second = few; gains = omega arith }
shared m Once Dead few = record { first = few; second = inr refl; gains = omega arith }
shared m OnceAsField Dead few = record { first = few; second = inr refl; gains = omega arith }
shared m OnceInside Dead few = record { first = few; second = inr refl; gains = omega arith }
shared m Many Dead few = record { first = few; second = inr refl; gains = omega arith }
shared m a b few = in_both m a b refl refl refl refl few

-- ANOTHER COUNT OF ONE PIECE

-- the piece adds as much, counted so or so
pub record CountsAs (m : ℕ) (a b : Occurrence) : Type 0 where
  pub few : IsFew m b → IsFew m a
  pub same : gain m a ≡ gain m b

pub as_itself : (m : ℕ) (d : Occurrence) → CountsAs m d d
as_itself m d = record { few = λ h. h; same = refl }

pub counts_inside : (m : ℕ) (d : Occurrence) → CountsAs m d (inside d)
counts_inside m Dead = record { few = λ h. h; same = refl }
counts_inside m d = record { few = λ h. h; same = refl }

counts_as_field : (m : ℕ) (d : Occurrence) → CountsAs m d (as_field d)
counts_as_field m Dead = record { few = λ h. h; same = refl }
counts_as_field m d = record { few = λ h. h; same = refl }

pub counts_in_field : (m : ℕ) (b : Bool) (d : Occurrence) → CountsAs m d (if b then as_field d else d)
counts_in_field m true d = counts_as_field m d
counts_in_field m false d = as_itself m d

pub counts_below : (m : ℕ) (b : NBinder) (d : Occurrence) → CountsAs m d (below_lambda b d)
counts_below m (NBValue t) d = counts_inside m d
counts_below m (NBType k) d = as_itself m d
counts_below m (NBCo r t u) d = counts_inside m d
