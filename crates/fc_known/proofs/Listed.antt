-- What is told of the items of a list, by distance: the last item is the innermost one, and others are further out.
use Rattle.std.proofs.Common.{◌≡◌, ◌+◌, ◌-◌, ◌<◌, ℕ, zero, suc, Some, List, [], ◌∷◌, length, get_or, refl, ap, ◌∙◌, arith}
use Rattle.std.specs.Prelude.{slice_get}
use Rattle.std.proofs.lemmas.Option.{slice_get_read}

pub record Listed {X K : Type 0} (told : X → K) (all : List X → (ℕ → K) → ℕ → K) : Type 0 where
  pub before : K → (ℕ → K) → ℕ → K
  pub first : (k : K) (f : ℕ → K) → before k f 0 ≡ k
  pub others : (k : K) (f : ℕ → K) (i : ℕ) → before k f (suc i) ≡ f i
  pub none : (f : ℕ → K) (i : ℕ) → all [] f i ≡ f i
  pub more : (x : X) (xs : List X) (f : ℕ → K) (i : ℕ) → all (x ∷ xs) f i ≡ all xs (before (told x) f) i

module _ {X K : Type 0} {told : X → K} {all : List X → (ℕ → K) → ℕ → K} (law : Listed told all) where
  pub past_all : (xs : List X) (f : ℕ → K) (i : ℕ) → all xs f (i + length xs) ≡ f i
  past_all [] f i = law.none f (i + 0) ∙ ap f (omega arith)
  past_all (x ∷ xs) f i =
      law.more x xs f (i + suc (length xs)) ∙ ap (all xs (law.before (told x) f)) (omega arith) ∙ past_all xs (law.before (told x) f) (suc i) ∙ law.others (told x) f i

  one_of_all : (xs : List X) (f : ℕ → K) (n i : ℕ) (x : X) → slice_get xs n ≡ Some x → i + suc n ≡ length xs → all xs f i ≡ told x
  one_of_all [] f n i x is whole = cc
  one_of_all (y ∷ ys) f zero i x is whole =
      let same : y ≡ x = cc in
      let here : i ≡ 0 + length ys = omega (arith, whole) in
      law.more y ys f i ∙ ap (all ys (law.before (told y) f)) here ∙ past_all ys (law.before (told y) f) 0 ∙ law.first (told y) f ∙ ap told same
  one_of_all (y ∷ ys) f (suc n) i x is whole = law.more y ys f i ∙ one_of_all ys (law.before (told y) f) n i x is (omega (arith, whole))

  -- the one that code reads at a distance
  pub read_of_all : (xs : List X) (f : ℕ → K) (m d : ℕ) (x : X) → m ≡ length xs → d < m → x ≡ get_or xs (m - 1 - d) x → all xs f d ≡ told x
  read_of_all xs f m d x many near read =
      let there : slice_get xs (m - 1 - d) ≡ Some x = slice_get_read xs (length xs) (m - 1 - d) x refl (omega (arith, many, near)) read in
      one_of_all xs f (m - 1 - d) d x there (omega (arith, many, near))
