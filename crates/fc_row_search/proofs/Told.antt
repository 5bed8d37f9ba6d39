-- What is found, told of the right side: of the first of two, of parts, and of a part.
use Rattle.std.proofs.Common.{◌≡◌, ◌+◌, ◌-◌, ◌<◌, ◌≤◌, ℕ, zero, suc, true, nat_eq, length, take, List, [], ◌∷◌, ◌++◌, Option, Some, None, refl, sym, ap, ◌∙◌, arith, append_assoc}
use Rattle.std.specs.Option.{option_map}
use Rattle.std.specs.Prelude.{drop, slice_get, slice_index_or}
use Rattle.std.proofs.lemmas.Option.{none-some, same_Some}
use Rattle.fc_log.specs.declared.log.Row.{Row}
use Rattle.fc_log.specs.declared.log.Row.TheVariants as row
use Rattle.fc_model.specs.Calling.{first_of, from_some}
use Rattle.fc_model.specs.Nameless.{NExpr}
use Rattle.fc_model.proofs.Sameness.{nat_eq_eq}
use Rattle.fc_rows.specs.Surroundings.{Surroundings, outside}
use Rattle.fc_parts.specs.Found.{found}
use Rattle.fc_search_laws.specs.Searching.{Answered, Applies, Quiet, Beyond, alternatives_of, begun, first_part, found_within, here, in_order, into, or_quiet, part_count, part_place, rows_tried, searched, searched_below}
use Rattle.fc_search_laws.proofs.Places.{found_behind}
use Rattle.fc_search_laws.proofs.Rows.{IsLoud, Only, applied_loud, here_loud, rows_loud}
use Rattle.fc_search_laws.proofs.Searched.{loud_within, parts_loud}
use Rattle.fc_row_search.specs.Frames.{child, inner, outer}
use Rattle.fc_row_search.specs.Spots.{IsPart, IsSpot, applying_of, child_at, dead_at, here_at, modules_of, one_in, part_at, parts_at, place_of, rows_at, search_at, told_at, tried_at, two_in}
use Rattle.fc_row_search.specs.declared.spots.Applying.{Applying}
use Rattle.fc_row_search.specs.declared.spots.Spot.{Spot}
use Rattle.fc_row_search.proofs.Framed.{found_child, with_frame}

-- ONE OF TWO

loud_quiet : {P : Type 0} → Only IsLoud (Some Quiet) → P
loud_quiet loud = absurd (loud Quiet refl)

pub told_first : (p : List ℕ) (o q : Option Answered) → Only IsLoud o → found_within p (first_of o q) ≡ first_of (found_within p o) (found_within p q)
told_first p None q loud = refl
told_first p (Some (Applies r i t x)) q loud = refl
told_first p (Some Quiet) q loud = loud_quiet loud
told_first p (Some Beyond) q loud = refl

told_quiet : (p : List ℕ) (o : Option Answered) → found_within p (or_quiet o) ≡ found_within p o
told_quiet p None = refl
told_quiet p (Some a) = refl

-- PLACES

-- what is found within a part of a part
pub told_within : (p q : List ℕ) (o : Option Answered) → found_within p (found_within q o) ≡ found_within (p ++ q) o
told_within p q None = refl
told_within p q (Some (Applies r i t x)) = ap (λ z. Some (Applies r i z x)) (sym (append_assoc p q t))
told_within p q (Some Quiet) = refl
told_within p q (Some Beyond) = refl

-- PARTS

module _ (x : Spot) (n : ℕ) (e : NExpr) where
  -- a part in which the search does not begin
  pub parts_past : (m k : ℕ) (from : List ℕ) → begun (part_place k e) from ≡ None → parts_at x n (suc m) k from e ≡ parts_at x n m (suc k) from e
  parts_past m k from is = rw is refl

  -- a part in which it does
  pub parts_next : (m k : ℕ) (from rest : List ℕ) → begun (part_place k e) from ≡ Some rest → parts_at x n (suc m) k from e ≡ first_of (child_at x n k rest e) (parts_at x n m (suc k) [] e)
  parts_next m k from rest is = rw is (told_first (place_of x.path.now) _ _ (loud_within (part_place k e) _))

  -- THE WHOLE

  -- the first row here
  abbrev pub rows_here : Option Answered
  rows_here = told_at x (here (modules_of x.search.now) x.room x.search.now.spare (here_at x) e)

  pub here_told : rows_here ≡ first_of (rows_at x rows_tried e) (dead_at x (alternatives_of e) 0 e)
  here_told = told_first (place_of x.path.now) _ _ (rows_loud (modules_of x.search.now) x.room x.search.now.spare (here_at x) e rows_tried)

  searched_is : (m : ℕ) (from : List ℕ) → m ≡ suc n
      → searched (modules_of x.search.now) x.search.now.spare m from (here_at x) e
      ≡ in_order from (here (modules_of x.search.now) m x.search.now.spare (here_at x) e) (first_part (one_in x n) (two_in x n) (part_count e) 0 from (here_at x) e)
  searched_is m from is = rw is refl

  pub rows_first : n + 1 ≡ x.room → search_at x [] e ≡ first_of rows_here (parts_at x n (part_count e) 0 [] e)
  rows_first room =
      ap (found_within (place_of x.path.now)) (searched_is x.room [] (omega (arith, room)))
      ∙ told_quiet (place_of x.path.now) _
      ∙ told_first (place_of x.path.now) _ _ (here_loud (modules_of x.search.now) x.room x.search.now.spare (here_at x) e)

  pub parts_first : (i : ℕ) (p : List ℕ) → n + 1 ≡ x.room → search_at x (i ∷ p) e ≡ first_of (parts_at x n (part_count e) 0 (i ∷ p) e) rows_here
  parts_first i p room =
      ap (found_within (place_of x.path.now)) (searched_is x.room (i ∷ p) (omega (arith, room)))
      ∙ told_quiet (place_of x.path.now) _
      ∙ told_first (place_of x.path.now) _ _ (parts_loud (one_in x n) (two_in x n) (here_at x) e (part_count e) 0 (i ∷ p))

  -- A PART

  -- what is found in a part where no expression is, and where one is
  pub child_none : (k : ℕ) (from : List ℕ) → child k e ≡ None → child_at x n k from e ≡ None
  child_none k from none =
      ap (λ o. told_at x (found_within (part_place k e) (from_some (λ t. into (one_in x n) (two_in x n) from (part_place k e) t.0 t.1) o)))
      (found_child (here_at x) k e ∙ ap (with_frame (inner k e (outer k e (here_at x)))) none)

  pub child_some : (k : ℕ) (from : List ℕ) (f : NExpr) → child k e ≡ Some f → child_at x n k from e ≡ part_at x n (part_place k e) from (inner k e (outer k e (here_at x))) f
  child_some k from f some =
      ap (λ o. told_at x (found_within (part_place k e) (from_some (λ t. into (one_in x n) (two_in x n) from (part_place k e) t.0 t.1) o)))
      (found_child (here_at x) k e ∙ ap (with_frame (inner k e (outer k e (here_at x)))) some)

  pub child_stands : (k : ℕ) (f : NExpr) → IsSpot x e → child k e ≡ Some f → IsPart x (part_place k e) (inner k e (outer k e (here_at x))) f
  child_stands k f at some =
      found_behind (outside (modules_of x.search.now)) (place_of x.path.now) (part_place k e) _ (here_at x) e at.stands
      ∙ found_child (here_at x) k e
      ∙ ap (with_frame (inner k e (outer k e (here_at x)))) some

  -- WHERE TWO NUMBERS LEAD

  -- what is found two numbers further in, told of the right side
  pub two_told : (m i j : ℕ) (from : List ℕ) (s : Surroundings) (f : NExpr) → m + 1 ≡ n
      → found_within ((place_of x.path.now ++ i ∷ []) ++ j ∷ []) (searched (modules_of x.search.now) x.search.now.spare m from s f) ≡ part_at x n (i ∷ j ∷ []) from s f
  two_told m i j from s f is =
      let less : n ≡ suc m = omega (arith, is) in
      ap (λ p. found_within p (searched (modules_of x.search.now) x.search.now.spare m from s f)) (append_assoc (place_of x.path.now) (i ∷ []) (j ∷ []))
      ∙ ap (λ k. found_within (place_of x.path.now ++ i ∷ j ∷ []) (searched_below (modules_of x.search.now) x.search.now.spare k from s f)) (sym less)
      ∙ sym (told_within (place_of x.path.now) (i ∷ j ∷ []) (two_in x n from s f))

-- ROWS, ONE AFTER THE OTHER

module _ (x : Spot) (e : NExpr) where
  pub rows_next : (r : Row) (rs : List Row) → rows_at x (r ∷ rs) e ≡ first_of (tried_at x r 0 e) (rows_at x rs e)
  rows_next r rs = told_first (place_of x.path.now) _ _ (applied_loud (modules_of x.search.now) x.room x.search.now.spare (here_at x) e r 0)

  pub dead_next : (m i : ℕ) → dead_at x (suc m) i e ≡ first_of (tried_at x row.AltDead i e) (dead_at x m (suc i) e)
  dead_next m i = told_first (place_of x.path.now) _ _ (applied_loud (modules_of x.search.now) x.room x.search.now.spare (here_at x) e row.AltDead i)

  pub here_by_row : (a : Answered) → rows_at x rows_tried e ≡ Some a → rows_here x 0 e ≡ Some a
  here_by_row a is = here_told x 0 e ∙ ap (λ o. first_of o (dead_at x (alternatives_of e) 0 e)) is

  pub here_by_dead : rows_at x rows_tried e ≡ None → rows_here x 0 e ≡ dead_at x (alternatives_of e) 0 e
  here_by_dead is = here_told x 0 e ∙ ap (λ o. first_of o (dead_at x (alternatives_of e) 0 e)) is

  pub dead_first : (m i : ℕ) (a : Answered) → tried_at x row.AltDead i e ≡ Some a → dead_at x (suc m) i e ≡ Some a
  dead_first m i a is = dead_next m i ∙ ap (λ o. first_of o (dead_at x m (suc i) e)) is

  pub dead_none : (m i : ℕ) → tried_at x row.AltDead i e ≡ None → dead_at x (suc m) i e ≡ dead_at x m (suc i) e
  dead_none m i is = dead_next m i ∙ ap (λ o. first_of o (dead_at x m (suc i) e)) is

  pub tried_first : (r : Row) (rs : List Row) (a : Answered) → tried_at x r 0 e ≡ Some a → rows_at x (r ∷ rs) e ≡ Some a
  tried_first r rs a is = rows_next r rs ∙ ap (λ o. first_of o (rows_at x rs e)) is

  pub tried_none : (r : Row) (rs : List Row) → tried_at x r 0 e ≡ None → rows_at x (r ∷ rs) e ≡ rows_at x rs e
  tried_none r rs is = rows_next r rs ∙ ap (λ o. first_of o (rows_at x rs e)) is

pub drop_next : {X : Type 0} (n : ℕ) (xs : List X) (y : X) → slice_get xs n ≡ Some y → drop n xs ≡ y ∷ drop (suc n) xs
drop_next n [] y is = absurd (none-some _ is)
drop_next zero (x ∷ xs) y is = let same : x ≡ y = same_Some _ _ is in ap (λ z. z ∷ xs) same
drop_next (suc n) (x ∷ xs) y is = drop_next n xs y is

-- WHAT IS LEFT IN A LOOP

module _ (x : Spot) (e : NExpr) where
  pub rows_step_none : (k : ℕ) (r : Row) → slice_get rows_tried k ≡ Some r → tried_at x r 0 e ≡ None → rows_at x (drop k rows_tried) e ≡ rows_at x (drop (k + 1) rows_tried) e
  rows_step_none k r at is =
      let more : suc k ≡ k + 1 = omega arith in
      ap (λ rs. rows_at x rs e) (drop_next k rows_tried r at) ∙ tried_none x e r (drop (suc k) rows_tried) is ∙ ap (λ j. rows_at x (drop j rows_tried) e) more

  pub rows_step_found : (k : ℕ) (r : Row) (a : Answered) → slice_get rows_tried k ≡ Some r → tried_at x r 0 e ≡ Some a → rows_at x (drop k rows_tried) e ≡ Some a
  rows_step_found k r a at is = ap (λ rs. rows_at x rs e) (drop_next k rows_tried r at) ∙ tried_first x e r (drop (suc k) rows_tried) a is

  pub dead_step_none : (n i : ℕ) → i < n → tried_at x row.AltDead i e ≡ None → dead_at x (n - i) i e ≡ dead_at x (n - (i + 1)) (i + 1) e
  dead_step_none n i below is =
      let left : n - i ≡ suc (n - (i + 1)) = omega (arith, below) in
      let more : suc i ≡ i + 1 = omega arith in
      ap (λ m. dead_at x m i e) left ∙ dead_none x e (n - (i + 1)) i is ∙ ap (λ j. dead_at x (n - (i + 1)) j e) more

  pub dead_step_found : (n i : ℕ) (a : Answered) → i < n → tried_at x row.AltDead i e ≡ Some a → dead_at x (n - i) i e ≡ Some a
  dead_step_found n i a below is =
      let left : n - i ≡ suc (n - (i + 1)) = omega (arith, below) in
      ap (λ m. dead_at x m i e) left ∙ dead_first x e (n - (i + 1)) i a is

module _ (x : Spot) (n : ℕ) (e : NExpr) (m k : ℕ) (below : k < m) where
  left_is : m - k ≡ suc (m - (k + 1))
  left_is = omega (arith, below)

  more_is : suc k ≡ k + 1
  more_is = omega arith

  pub parts_step_past : (from : List ℕ) → begun (part_place k e) from ≡ None → parts_at x n (m - k) k from e ≡ parts_at x n (m - (k + 1)) (k + 1) from e
  parts_step_past from is = ap (λ j. parts_at x n j k from e) left_is ∙ parts_past x n e (m - (k + 1)) k from is ∙ ap (λ j. parts_at x n (m - (k + 1)) j from e) more_is

  pub parts_step_none : (from rest : List ℕ) → begun (part_place k e) from ≡ Some rest → child_at x n k rest e ≡ None → parts_at x n (m - k) k from e ≡ parts_at x n (m - (k + 1)) (k + 1) [] e
  parts_step_none from rest is none =
      ap (λ j. parts_at x n j k from e) left_is
      ∙ parts_next x n e (m - (k + 1)) k from rest is
      ∙ ap (λ o. first_of o (parts_at x n (m - (k + 1)) (suc k) [] e)) none
      ∙ ap (λ j. parts_at x n (m - (k + 1)) j [] e) more_is

  pub parts_step_found : (from rest : List ℕ) (a : Answered) → begun (part_place k e) from ≡ Some rest → child_at x n k rest e ≡ Some a → parts_at x n (m - k) k from e ≡ Some a
  parts_step_found from rest a is some =
      ap (λ j. parts_at x n j k from e) left_is ∙ parts_next x n e (m - (k + 1)) k from rest is ∙ ap (λ o. first_of o (parts_at x n (m - (k + 1)) (suc k) [] e)) some

-- THE WHOLE, FROM A PLACE ON

pub nil_of : (xs : List ℕ) → nat_eq (length xs) 0 ≡ true → xs ≡ []
nil_of [] is = refl
nil_of (x ∷ xs) is = let none : length (x ∷ xs) ≡ 0 = nat_eq_eq (length (x ∷ xs)) 0 is in absurd (omega (arith, none))

module _ (x : Spot) (n : ℕ) (e : NExpr) (room : n + 1 ≡ x.room) where
  pub whole_found : (from : List ℕ) (a : Answered) → from ≡ [] → rows_here x 0 e ≡ Some a → search_at x from e ≡ Some a
  whole_found from a none is = ap (λ p. search_at x p e) none ∙ rows_first x n e room ∙ ap (λ o. first_of o (parts_at x n (part_count e) 0 [] e)) is

  pub whole_parts : (from : List ℕ) → from ≡ [] → rows_here x 0 e ≡ None → search_at x from e ≡ parts_at x n (part_count e) 0 from e
  whole_parts from none is =
      ap (λ p. search_at x p e) none
      ∙ rows_first x n e room
      ∙ ap (λ o. first_of o (parts_at x n (part_count e) 0 [] e)) is
      ∙ ap (λ p. parts_at x n (part_count e) 0 p e) (sym none)

  pub later_found : (from : List ℕ) (a : Answered) → (from ≡ [] → ⊥) → parts_at x n (part_count e) 0 from e ≡ Some a → search_at x from e ≡ Some a
  later_found [] a some is = absurd (some refl)
  later_found (i ∷ p) a some is = parts_first x n e i p room ∙ ap (λ o. first_of o (rows_here x 0 e)) is

  pub later_here : (from : List ℕ) → (from ≡ [] → ⊥) → parts_at x n (part_count e) 0 from e ≡ None → search_at x from e ≡ rows_here x 0 e
  later_here [] some is = absurd (some refl)
  later_here (i ∷ p) some is = parts_first x n e i p room ∙ ap (λ o. first_of o (rows_here x 0 e)) is

-- ROWS THAT ARE THE FIRST AND THE OTHERS

take_all : {X : Type 0} (xs : List X) → take (length xs) xs ≡ xs
take_all [] = refl
take_all (x ∷ xs) = ap (λ z. x ∷ z) (take_all xs)

rows_split : (rs : List Row) (z : Row) → 1 ≤ length rs → rs ≡ slice_index_or rs 0 z ∷ take (length rs - 1) (drop 1 rs)
rows_split [] z some = absurd (omega (arith, some))
rows_split (r ∷ rs) z some =
    let less : length (r ∷ rs) - 1 ≡ length rs = omega arith in
    ap (λ xs. r ∷ xs) (sym (ap (λ n. take n rs) less ∙ take_all rs))

-- the first of some rows, and where it does not apply, the others
module _ (x : Spot) (e : NExpr) (rs : List Row) (z : Row) (some : 1 ≤ length rs) (o : Option Applying) (is : option_map applying_of o ≡ tried_at x (slice_index_or rs 0 z) 0 e) where
  pub head_found : (f : Applying) → o ≡ Some f → rows_at x rs e ≡ Some (applying_of f)
  head_found f found =
      ap (λ qs. rows_at x qs e) (rows_split rs z some)
      ∙ tried_first x e (slice_index_or rs 0 z) (take (length rs - 1) (drop 1 rs)) (applying_of f) (sym is ∙ ap (option_map applying_of) found)

  pub head_none : o ≡ None → rows_at x rs e ≡ rows_at x (take (length rs - 1) (drop 1 rs)) e
  head_none none =
      ap (λ qs. rows_at x qs e) (rows_split rs z some)
      ∙ tried_none x e (slice_index_or rs 0 z) (take (length rs - 1) (drop 1 rs)) (sym is ∙ ap (option_map applying_of) none)

  pub fewer : length (take (length rs - 1) (drop 1 rs)) < length rs
  fewer = let split : length rs ≡ length (slice_index_or rs 0 z ∷ take (length rs - 1) (drop 1 rs)) = ap length (rows_split rs z some) in omega (arith, split)
