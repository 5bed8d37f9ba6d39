-- What a table of words finds.
use Rattle.std.proofs.Common.{◌≡◌, ℕ, Bool, true, false, List, [], ◌∷◌, Option, Some, if◌then◌else◌, refl, ap, ◌∙◌, arith}
use Rattle.std.specs.List.{find}
use Rattle.std.specs.Str.{bytes_eq}
use Rattle.std.proofs.lemmas.Slice.Eq.{bytes_eq-Decides}

bytes_same : (v w : List ℕ) → bytes_eq v w ≡ true → v ≡ w
bytes_same v w h = grind (arith, bytes_eq-Decides v w)

found_first : {X : Type 0} (f : X → List ℕ) (w : List ℕ) (k x : X) (b : Bool) (rest : Option X) → bytes_eq w (f k) ≡ b → (rest ≡ Some x → w ≡ f x) → (if b then Some k else rest) ≡ Some x → w ≡ f x
found_first f w k x true rest same later h = bytes_same w (f k) same ∙ ap f (let e : k ≡ x = cc in e)
found_first f w k x false rest same later h = later h

-- the word that is found for another has its bytes
pub found_word : {X : Type 0} (f : X → List ℕ) (w : List ℕ) (xs : List X) (x : X) → find (λ k. bytes_eq w (f k)) xs ≡ Some x → w ≡ f x
found_word f w [] x h = cc
found_word f w (k ∷ ks) x h = found_first f w k x (bytes_eq w (f k)) (find (λ k. bytes_eq w (f k)) ks) refl (λ g. found_word f w ks x g) h
