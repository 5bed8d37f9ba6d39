-- Items that are not marked move into room for as many.
use Rattle.std.proofs.Common.{◌≡◌, ◌∙◌, ◌+◌, ◌<◌, ◌≤◌, ℕ, zero, suc, Bool, true, false, cond, not, List, [], ◌∷◌, ◌++◌, drop, get_or, length, map, take, refl, sym, ap, arith, append_assoc}
use Rattle.std.specs.Prelude.{slice_set}
use Rattle.std.specs.List.{count_by}
use Rattle.std.proofs.lemmas.List.{append-nil, drop_all, drop_more, length-append, length-take, take_all, take_more_set}
use Rattle.std.proofs.lemmas.List.Sums.{sum_by-cons}
use Rattle.fc_def_dead.specs.Dead.{without_marked}

-- as many are left as marks are false
pub left_count : {X : Type 0} (bs : List Bool) (xs : List X) → length bs ≡ length xs → count_by not bs ≡ length (without_marked bs xs)
left_count [] xs same = refl
left_count (b ∷ bs) [] same = absurd (omega (arith, same))
left_count (true ∷ bs) (x ∷ xs) same = left_count bs xs (omega (arith, same))
left_count (false ∷ bs) (x ∷ xs) same =
    let on : 1 + length (without_marked bs xs) ≡ suc (length (without_marked bs xs)) = omega arith in
    sum_by-cons (λ b. cond (not b) 1 0) false bs ∙ ap (λ n. 1 + n) (left_count bs xs (omega (arith, same))) ∙ on

pub without-map : {X Y : Type 0} (f : X → Y) (bs : List Bool) (xs : List X) → map f (without_marked bs xs) ≡ without_marked bs (map f xs)
without-map f [] xs = refl
without-map f (b ∷ bs) [] = refl
without-map f (true ∷ bs) (x ∷ xs) = without-map f bs xs
without-map f (false ∷ bs) (x ∷ xs) = ap (λ ys. f x ∷ ys) (without-map f bs xs)

-- an item at a number, for each default
pub record IsItem {X : Type 0} (xs : List X) (i : ℕ) : Type 0 where
  pub item : X
  pub here : (z : X) → get_or xs i z ≡ item
  pub first : drop i xs ≡ item ∷ drop (i + 1) xs

pub item_at : {X : Type 0} (xs : List X) (i : ℕ) → i < length xs → IsItem xs i
item_at [] i low = absurd (omega arith)
item_at (x ∷ xs) zero low = record { item = x; here = λ z. refl; first = refl }
item_at (x ∷ xs) (suc i) low =
    let later = item_at xs i (omega arith) in
    let on : suc i + 1 ≡ suc (i + 1) = omega arith in
    record { item = later.item; here = later.here; first = later.first ∙ ap (λ n. later.item ∷ drop n (x ∷ xs)) (sym on) }

module _ {X : Type 0} (marks : List Bool) (from to target : List X) (at i : ℕ) where
  -- what is left of a list of which some items have moved
  pub not_marked : (low : i < length marks) → length from ≡ length marks → get_or marks i false ≡ false → (f : IsItem from i) → without_marked (drop i marks) (drop i from) ≡ f.item ∷ without_marked (drop (i + 1) marks) (drop (i + 1) from)
  not_marked low same is f =
      ap (λ bs. without_marked bs (drop i from)) (drop_more marks i false low ∙ ap (λ b. b ∷ drop (i + 1) marks) is)
      ∙ ap (λ xs. without_marked (false ∷ drop (i + 1) marks) xs) f.first

  pub is_marked : (low : i < length marks) → length from ≡ length marks → get_or marks i false ≡ true → without_marked (drop i marks) (drop i from) ≡ without_marked (drop (i + 1) marks) (drop (i + 1) from)
  is_marked low same is =
      let f = item_at from i (omega (arith, same, low)) in
      ap (λ bs. without_marked bs (drop i from)) (drop_more marks i false low ∙ ap (λ b. b ∷ drop (i + 1) marks) is)
      ∙ ap (λ xs. without_marked (true ∷ drop (i + 1) marks) xs) f.first

  -- there is room for one that is not marked
  pub has_room : i < length marks → length from ≡ length marks → get_or marks i false ≡ false → take at to ++ without_marked (drop i marks) (drop i from) ≡ target → length to ≡ length target → at < length to
  has_room low same is moved room =
      let f = item_at from i (omega (arith, same, low)) in
      let rest = without_marked (drop (i + 1) marks) (drop (i + 1) from) in
      let more : take at to ++ f.item ∷ rest ≡ target = ap (λ xs. take at to ++ xs) (sym (not_marked low same is f)) ∙ moved in
      let count : length (take at to) + suc (length rest) ≡ length to = sym (length-append (take at to) (f.item ∷ rest)) ∙ ap length more ∙ sym room in
      omega (arith, count, length-take at to)

  -- one moves
  pub one_moved : (from' to' : List X) → i < length marks → length from ≡ length marks → get_or marks i false ≡ false → at < length to → take at to ++ without_marked (drop i marks) (drop i from) ≡ target
      → drop (i + 1) from' ≡ drop (i + 1) from → ((z : X) → to' ≡ slice_set to at (get_or from i z)) → take (at + 1) to' ++ without_marked (drop (i + 1) marks) (drop (i + 1) from') ≡ target
  one_moved from' to' low same is room moved behind set =
      let f = item_at from i (omega (arith, same, low)) in
      let rest = without_marked (drop (i + 1) marks) (drop (i + 1) from) in
      let set_to : to' ≡ slice_set to at f.item = set f.item ∙ ap (slice_set to at) (f.here f.item) in
      ap (λ xs. take (at + 1) to' ++ without_marked (drop (i + 1) marks) xs) behind
      ∙ ap (λ xs. take (at + 1) xs ++ rest) set_to ∙ ap (λ xs. xs ++ rest) (take_more_set to at f.item room) ∙ append_assoc (take at to) (f.item ∷ []) rest
      ∙ ap (λ xs. take at to ++ xs) (sym (not_marked low same is f)) ∙ moved

  -- one stays behind
  pub none_moved : i < length marks → length from ≡ length marks → get_or marks i false ≡ true → take at to ++ without_marked (drop i marks) (drop i from) ≡ target
      → take at to ++ without_marked (drop (i + 1) marks) (drop (i + 1) from) ≡ target
  none_moved low same is moved = ap (λ xs. take at to ++ xs) (sym (is_marked low same is)) ∙ moved

  -- all are moved
  pub all_moved : length marks ≤ i → take at to ++ without_marked (drop i marks) (drop i from) ≡ target → length to ≡ length target → to ≡ target
  all_moved end moved room =
      let none : without_marked (drop i marks) (drop i from) ≡ [] = ap (λ bs. without_marked bs (drop i from)) (drop_all i marks end) in
      let full : take at to ≡ target = sym (append-nil (take at to)) ∙ ap (λ xs. take at to ++ xs) (sym none) ∙ moved in
      let count : length (take at to) ≡ length to = ap length full ∙ sym room in
      sym (take_all at to (omega (arith, count, length-take at to))) ∙ full
