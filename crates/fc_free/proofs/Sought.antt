-- Items that are gone through until one is found.
use Rattle.std.proofs.Common.{◌≡◌, ◌<◌, ◌+◌, ℕ, sym, ap, ◌∙◌, drop, get_or, List, ◌∷◌, length, Bool, true, false, if◌then◌else◌}
use Rattle.fc_model.proofs.Lists.{drop_item}

-- `f` says whether one of the items is sought, and `g` whether one item is: it is found, or is not
pub sought_here : {X : Type 0} (f : List X → Bool) (g : X → Bool) → ((x : X) (xs : List X) → f (x ∷ xs) ≡ (if g x then true else f xs)) → (items : List X) (i : ℕ) (x : X)
    → f (drop i items) ≡ f items → i < length items → x ≡ get_or items i x → g x ≡ true → true ≡ f items
sought_here f g law items i x so_far within is found =
    sym (ap (λ b. if b then true else f (drop (i + 1) items)) found) ∙ sym (law x (drop (i + 1) items)) ∙ sym (ap f (drop_item items i x within is)) ∙ so_far

pub sought_behind : {X : Type 0} (f : List X → Bool) (g : X → Bool) → ((x : X) (xs : List X) → f (x ∷ xs) ≡ (if g x then true else f xs)) → (items : List X) (i : ℕ) (x : X)
    → f (drop i items) ≡ f items → i < length items → x ≡ get_or items i x → g x ≡ false → f (drop (i + 1) items) ≡ f items
sought_behind f g law items i x so_far within is none =
    sym (ap (λ b. if b then true else f (drop (i + 1) items)) none) ∙ sym (law x (drop (i + 1) items)) ∙ sym (ap f (drop_item items i x within is)) ∙ so_far
