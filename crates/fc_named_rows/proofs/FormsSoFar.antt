-- Forms that are found so far, before those that are still to come.
use Rattle.std.proofs.Common.{◌≡◌, ◌∙◌, List, [], ◌∷◌, ◌++◌, append_assoc, Result, Ok, Err, refl, ap}
use Rattle.fc_model.specs.Linting.{InModule}
use Rattle.fc_model.specs.Nameless.{NModule}
use Rattle.fc_named_rows.specs.Among.{before_others}

abbrev pub before_all : List NModule → Result (List NModule) InModule → Result (List NModule) InModule
before_all ns (Ok ks) = Ok (ns ++ ks)
before_all ns (Err e) = Err e

same_form : (a b : NModule) (e : Result NModule InModule) → e ≡ Ok b → e ≡ Ok a → a ≡ b
same_form a b e g h = cc

-- one form more
pub goes_on : (ns : List NModule) (x : NModule) (r : Result NModule InModule) (others : Result (List NModule) InModule) → r ≡ Ok x
    → before_all (ns ++ x ∷ []) others ≡ before_all ns (before_others r others)
goes_on ns x (Ok y) (Ok ks) h = ap (λ zs. Ok zs) (append_assoc ns (x ∷ []) ks) ∙ ap (λ z. Ok (ns ++ z ∷ ks)) (same_form x y (Ok y) refl h)
goes_on ns x (Ok y) (Err e) h = refl
goes_on ns x (Err e) others h = absurd cc
