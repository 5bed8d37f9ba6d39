-- What a search, a write and a push make of the map of a list of entries.
use Rattle.std.proofs.Common.{◌≡◌, ℕ, Bool, true, false, List, [], ◌∷◌, ◌++◌, length, Option, Some, None, find, position, slice_get, get_or, cond, nat_lt, set, refl, sym, ap, ◌∙◌, arith, string_bytes, if◌then◌else◌}
use Rattle.std.specs.Str.{bytes_eq}
use Rattle.std.specs.List.{position_or_len}
use Rattle.std.specs.Option.{option_or}
use Rattle.std.proofs.lemmas.List.Folds.{find_at, find-set, find_past, find-append}
use Rattle.std.proofs.lemmas.List.Quantifiers.{position-Some}
use Rattle.std.proofs.lemmas.List.Sums.{position_or_len_is}
use Rattle.std.proofs.lemmas.Option.{slice_get-get_or, slice_get_past, none-some}
use Rattle.std.proofs.lemmas.Bool.{ltb-false}
use Rattle.std.proofs.lemmas.Slice.Eq.{bytes_eq-Decides}
use Rattle.fc_files.specs.Outside.{FileMap, put}
use Rattle.fc_files.specs.Entries.{Entry, bytes_found, is_named, map_of}

-- the place that was found, in the form that the lemmas on `find` take
place_found : (es : List Entry) (n : List ℕ) (i : ℕ) (d : Entry) → position (is_named n) es ≡ Some i → position_or_len (is_named n) es ≡ i
place_found es n i d at =
    let first = position-Some (is_named n) es i d at in
    position_or_len_is (is_named n) es i d (omega (arith, first.0)) first.2 (λ _. first.1)

-- a name that was found holds the bytes at its place
pub map_of-found : (es : List Entry) (n : List ℕ) (i : ℕ) (d : Entry) → position (is_named n) es ≡ Some i → map_of es n ≡ Some (get_or es i d).1.items
map_of-found es n i d at =
    let first = position-Some (is_named n) es i d at in
    ap bytes_found (find_at (is_named n) es ∙ ap (slice_get es) (place_found es n i d at) ∙ slice_get-get_or es i d first.0)

-- by whether the place of a name that was not found lies within the list
find_nothing : (es : List Entry) (n : List ℕ) (within : Bool) → nat_lt (position_or_len (is_named n) es) (length es) ≡ within → position (is_named n) es ≡ None → find (is_named n) es ≡ None
find_nothing es n true is none =
    absurd (none-some _ (sym none ∙ ap (λ b. cond b (Some (position_or_len (is_named n) es)) None) is))
find_nothing es n false is none = find_at (is_named n) es ∙ slice_get_past es _ (ltb-false _ _ is)

-- a name that was not found holds nothing
pub map_of-absent : (es : List Entry) (n : List ℕ) → position (is_named n) es ≡ None → map_of es n ≡ None
map_of-absent es n none = ap bytes_found (find_nothing es n _ refl none)

-- a value that is the new bytes at the name, and the old entry elsewhere, is that of the map with these bytes
put_at : (n v q : List ℕ) (m : FileMap) (r : Option (List ℕ)) (same : Bool) → bytes_eq n q ≡ same → (n ≡ q → r ≡ Some v) → (bytes_eq n q ≡ false → r ≡ m q) → r ≡ put n v m q
put_at n v q m r true is hit miss =
    hit ((bytes_eq-Decides n q).0 is) ∙ sym (ap (λ b. if b then Some v else m q) is)
put_at n v q m r false is hit miss = miss is ∙ sym (ap (λ b. if b then Some v else m q) is)

-- a write at the place of the name
pub map_of-set : (es : List Entry) (n v : List ℕ) (i : ℕ) (d y : Entry) → position (is_named n) es ≡ Some i → y.0 ≡ (get_or es i d).0 → y.1.items ≡ v → map_of (set es i y) ≡ put n v (map_of es)
map_of-set es n v i d y at same bytes =
    let first = position-Some (is_named n) es i d at in
    let old : string_bytes (get_or es i d).0 ≡ n = (bytes_eq-Decides _ n).0 first.1 in
    let own : string_bytes y.0 ≡ n = ap string_bytes same ∙ old in
    let point : (q : List ℕ) → map_of (set es i y) q ≡ put n v (map_of es) q = λ q.
    put_at n v q (map_of es) _ (bytes_eq n q) refl
    (λ k. ap bytes_found (find-set (is_named q) es i y (sym (ap (λ t. position_or_len (is_named t) es) (sym k) ∙ place_found es n i d at)) first.0 ((bytes_eq-Decides _ q).1 (own ∙ k))) ∙ ap Some bytes)
    (λ k. ap bytes_found (find_past (is_named q) es i y d (ap (λ t. bytes_eq t q) old ∙ k) (ap (λ t. bytes_eq t q) own ∙ k))) in
    λ k q. point q k

-- where the rest has nothing, the answer is the first list's
or_none : (o : Option Entry) → option_or o None ≡ o
or_none None = refl
or_none (Some x) = refl

-- what is found in a list with one more entry, by whether that has the name
find_pushed : (es : List Entry) (q : List ℕ) (y : Entry) (b : Bool) → is_named q y ≡ b → find (is_named q) (es ++ y ∷ []) ≡ option_or (find (is_named q) es) (cond b (Some y) None)
find_pushed es q y b is =
    find-append (is_named q) es (y ∷ []) ∙ ap (λ b. option_or (find (is_named q) es) (cond b (Some y) None)) is

-- a push of an entry of a name that was not found
pub map_of-push : (es : List Entry) (n v : List ℕ) (y : Entry) → position (is_named n) es ≡ None → string_bytes y.0 ≡ n → y.1.items ≡ v → map_of (es ++ y ∷ []) ≡ put n v (map_of es)
map_of-push es n v y none own bytes =
    let point : (q : List ℕ) → map_of (es ++ y ∷ []) q ≡ put n v (map_of es) q = λ q.
    put_at n v q (map_of es) _ (bytes_eq n q) refl
    (λ k. ap bytes_found (find_pushed es q y true ((bytes_eq-Decides _ q).1 (own ∙ k))
    ∙ ap (λ o. option_or o (Some y)) (ap (λ t. find (is_named t) es) (sym k) ∙ find_nothing es n _ refl none))
    ∙ ap Some bytes)
    (λ k. ap bytes_found (find_pushed es q y false (ap (λ t. bytes_eq t q) own ∙ k) ∙ or_none _)) in
    λ k q. point q k
