-- What passes for each item of a list passes at a number.
use Rattle.std.proofs.Common.{◌≡◌, ℕ, ◌<◌, Bool, true, List, [], ◌∷◌, length, get_or, arith, zero, suc}
use Rattle.std.specs.List.{list_all}
use Rattle.std.proofs.lemmas.Bool.{and_parts}

pub each_at : {X : Type 0} (p : X → Bool) (xs : List X) (i : ℕ) (d : X) → i < length xs → list_all p xs ≡ true → p (get_or xs i d) ≡ true
each_at p [] i d h a = absurd (omega arith)
each_at p (x ∷ xs) zero d h a = (and_parts (p x) (list_all p xs) a).0
each_at p (x ∷ xs) (suc i) d h a = each_at p xs i d (omega arith) (and_parts (p x) (list_all p xs) a).1
