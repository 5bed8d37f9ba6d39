-- Rows at the end of a list of rows, and where they are found again.
use Rattle.std.proofs.Common.{◌≡◌, ◌∙◌, Bool, true, false, List, [], ◌∷◌, ◌++◌, refl, ap, Option}
use Rattle.std.specs.Prelude.{option_and_then, slice_get, unwrap_or, ◌||◌, if◌then◌else◌, find}
use Rattle.std.specs.Str.{bytes_eq}
use Rattle.clap.specs.Walk.{Row, Text, at_row, has_row}

-- the row of an id
abbrev pub row_in : Text → List Row → Option Row
row_in id rows = find (λ r. bytes_eq r.id id) rows

-- its first value
abbrev pub first_text : Option Row → Text
first_text o = unwrap_or (option_and_then (λ r. slice_get r.values 0) o) []

-- a row that is not there comes at the end
at_row_by : (b : Bool) (id : Text) (change : Row → List Row) (missing rs : List Row) (r : Row) → (b || has_row id rs) ≡ false
    → (has_row id rs ≡ false → at_row id change missing rs ≡ rs ++ missing) → (if b then change r ++ rs else r ∷ at_row id change missing rs) ≡ r ∷ (rs ++ missing)
at_row_by true id change missing rs r e more = cc
at_row_by false id change missing rs r e more = ap (λ (t : List Row). r ∷ t) (more e)

pub at_absent : (id : Text) (change : Row → List Row) (missing rows : List Row) → has_row id rows ≡ false → at_row id change missing rows ≡ rows ++ missing
at_absent id change missing [] e = refl
at_absent id change missing (r ∷ rs) e = at_row_by (bytes_eq r.id id) id change missing rs r e (λ k. at_absent id change missing rs k)

-- and what stands behind rows of other ids is changed
past_by : (b : Bool) (id : Text) (change : Row → List Row) (missing rs last : List Row) (r : Row) → (b || has_row id rs) ≡ false
    → (has_row id rs ≡ false → at_row id change missing (rs ++ last) ≡ rs ++ at_row id change missing last)
    → (if b then change r ++ (rs ++ last) else r ∷ at_row id change missing (rs ++ last)) ≡ r ∷ (rs ++ at_row id change missing last)
past_by true id change missing rs last r e more = cc
past_by false id change missing rs last r e more = ap (λ (t : List Row). r ∷ t) (more e)

pub at_past : (id : Text) (change : Row → List Row) (missing rows last : List Row) → has_row id rows ≡ false
    → at_row id change missing (rows ++ last) ≡ rows ++ at_row id change missing last
at_past id change missing [] last e = refl
at_past id change missing (r ∷ rs) last e = past_by (bytes_eq r.id id) id change missing rs last r e (λ k. at_past id change missing rs last k)

either_false : (a b c : Bool) → (a || b) ≡ false → c ≡ false → (a || (b || c)) ≡ false
either_false true b c e f = cc
either_false false true c e f = cc
either_false false false c e f = f

or_assoc : (a b c : Bool) → (a || (b || c)) ≡ ((a || b) || c)
or_assoc true b c = refl
or_assoc false b c = refl

pub has_row_append : (id : Text) (xs ys : List Row) → has_row id (xs ++ ys) ≡ (has_row id xs || has_row id ys)
has_row_append id [] ys = refl
has_row_append id (x ∷ xs) ys = ap (λ b. bytes_eq x.id id || b) (has_row_append id xs ys) ∙ or_assoc (bytes_eq x.id id) (has_row id xs) (has_row id ys)

-- one more row of another id
pub absent_push : (id : Text) (rows : List Row) (r : Row) → has_row id rows ≡ false → bytes_eq r.id id ≡ false → has_row id (rows ++ r ∷ []) ≡ false
absent_push id rows r absent other = has_row_append id rows (r ∷ []) ∙ ap (λ b. b || (bytes_eq r.id id || false)) absent ∙ ap (λ b. b || false) other
