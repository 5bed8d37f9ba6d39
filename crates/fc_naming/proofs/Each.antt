-- Lists whose items belong together one by one, which grow in a loop.
use Rattle.std.proofs.Common.{◌≡◌, ◌<◌, ◌≤◌, ◌+◌, ◌++◌, ℕ, List, [], ◌∷◌, take, length, get_or, sym, subst}
use Rattle.std.proofs.lemmas.List.{take_all}
use Rattle.fc_used_words.proofs.Collecting.{take_item}

pub data AreEach {X Y : Type 0} (R : X → Y → Type 0) : List X → List Y → Type 0 where
  each_none : AreEach R [] []
  each_more : {x : X} {y : Y} {xs : List X} {ys : List Y} → R x y → AreEach R xs ys → AreEach R (x ∷ xs) (y ∷ ys)

each_end : {X Y : Type 0} {R : X → Y → Type 0} (xs : List X) (ys : List Y) (x : X) (y : Y) → AreEach R xs ys → R x y → AreEach R (xs ++ x ∷ []) (ys ++ y ∷ [])
each_end xs ys x y each_none r = each_more r each_none
each_end xs ys x y (each_more q rest) r = each_more q (each_end _ _ x y rest r)

-- one item more of a list that is built in a loop
pub each_step : {X Y : Type 0} (R : X → Y → Type 0) (items : List X) (i : ℕ) (x : X) (out more : List Y) (y : Y) → i < length items → x ≡ get_or items i x → AreEach R (take i items) out
    → R x y → more ≡ out ++ y ∷ [] → AreEach R (take (i + 1) items) more
each_step R items i x out more y low is so_far r pushed =
    subst (λ ys. AreEach R (take (i + 1) items) ys) (sym pushed) (subst (λ xs. AreEach R xs (out ++ y ∷ [])) (sym (take_item items i x low is)) (each_end (take i items) out x y so_far r))

pub each_start : {X Y : Type 0} {R : X → Y → Type 0} (items : List X) (out : List Y) → out ≡ [] → AreEach R (take 0 items) out
each_start {R = R} items out e = subst (λ ys. AreEach R [] ys) (sym e) each_none

pub each_all : {X Y : Type 0} {R : X → Y → Type 0} (items : List X) (i : ℕ) (out : List Y) → length items ≤ i → AreEach R (take i items) out → AreEach R items out
each_all {R = R} items i out h q = subst (λ xs. AreEach R xs out) (take_all i items h) q
