-- The names of modules, which are cut at their dots.
use Rattle.std.proofs.Common.{◌≡◌, ℕ, ◌+◌, ◌-◌, Bool, true, false, List, [], ◌∷◌, ◌++◌, reverse, length, drop, refl, sym, ◌∙◌, ap, arith, append_assoc, length-append, take_at, drop_at, zero-add}
use Rattle.std.specs.Prelude.{◌&&◌, ◌||◌, ◌==◌, not, cond, All}
use Rattle.std.specs.List.{list_all, list_any, slice_split, onto_first, prefix_len, suffix_len, before_last, after_last}
use Rattle.std.proofs.lemmas.Bool.{and_parts, and_from, true≢false, cond-true, cond-false}
use Rattle.std.proofs.lemmas.Bool.Decides.{nat_tests}
use Rattle.std.proofs.lemmas.List.{length_push, length-reverse, reverse-append}
use Rattle.std.proofs.lemmas.List.Elements.{All-nil, All-cons, All-head, All-tail, All-append}
use Rattle.std.proofs.lemmas.List.Splits.{length-slice_split}
use Rattle.std.specs.List.{count_by}
use Rattle.fc_syntax.specs.Tokens.{is_dot, is_module_byte, is_module_name, is_module_part, is_name_byte, is_plain, is_upper_letter, is_upper_name}
use Rattle.fc_syntax.proofs.NameWords.{all_follows}

or_parts : (x y : Bool) → (x || y) ≡ false → (x ≡ false) × (y ≡ false)
or_parts true y h = absurd (true≢false h)
or_parts false y h = (refl, h)

pub or_right : (x y : Bool) → y ≡ true → (x || y) ≡ true
or_right true y h = refl
or_right false y h = h

or_none : (x : Bool) → (x || false) ≡ true → x ≡ true
or_none true h = refl
or_none false h = h

-- no byte is a dot
no_dot : (c : List ℕ) → list_any is_dot c ≡ false → All (λ x. not (is_dot x) ≡ true) c
no_dot [] h = All-nil (λ x. not (is_dot x) ≡ true)
no_dot (b ∷ bs) h = let p = or_parts (is_dot b) (list_any is_dot bs) h in All-cons (λ x. not (is_dot x) ≡ true) b bs (ap not p.0) (no_dot bs p.1)

All-reverse : (P : ℕ → Type 0) (xs : List ℕ) → All P xs → All P (reverse xs)
All-reverse P [] h = h
All-reverse P (x ∷ xs) h = rw (reverse-append (x ∷ []) xs) (All-append P (reverse xs) (x ∷ []) (All-reverse P xs (All-tail P x xs h)) (All-cons P x [] (All-head P x xs h) (All-nil P)))

prefix_whole : (p : ℕ → Bool) (xs ys : List ℕ) → All (λ x. p x ≡ true) xs → prefix_len p (xs ++ ys) ≡ length xs + prefix_len p ys
prefix_whole p [] ys h = sym (zero-add _)
prefix_whole p (x ∷ xs) ys h =
    let more = prefix_whole p xs ys (All-tail (λ y. p y ≡ true) x xs h) in
    cond-true (p x) _ 0 (All-head (λ y. p y ≡ true) x xs h) ∙ omega arith

suffix_len_at : (p : ℕ → Bool) (xs : List ℕ) (y : ℕ) (ys : List ℕ) → p y ≡ false → All (λ x. p x ≡ true) ys → suffix_len p (xs ++ y ∷ ys) ≡ length ys
suffix_len_at p xs y ys stop h =
    let turned : reverse (xs ++ y ∷ ys) ≡ reverse ys ++ (y ∷ reverse xs) =
    reverse-append xs (y ∷ ys) ∙ ap (λ zs. zs ++ reverse xs) (reverse-append (y ∷ []) ys) ∙ append_assoc (reverse ys) (y ∷ []) (reverse xs) in
    let none : prefix_len p (y ∷ reverse xs) ≡ 0 = cond-false (p y) _ 0 stop in
    ap (prefix_len p) turned ∙ prefix_whole p (reverse ys) _ (All-reverse (λ x. p x ≡ true) ys h) ∙ omega (arith, length-reverse ys)

-- what stands before and behind the last dot
pub before_dot : (xs ys : List ℕ) → list_any is_dot ys ≡ false → before_last is_dot (xs ++ 46 ∷ ys) ≡ xs
before_dot xs ys h = take_at xs (46 ∷ ys) _ (omega (arith, suffix_len_at (λ x. not (is_dot x)) xs 46 ys refl (no_dot ys h), length-append xs (46 ∷ ys)))

pub behind_dot : (xs ys : List ℕ) → list_any is_dot ys ≡ false → after_last is_dot (xs ++ 46 ∷ ys) ≡ ys
behind_dot xs ys h =
    let n = length (xs ++ 46 ∷ ys) - suffix_len (λ x. not (is_dot x)) (xs ++ 46 ∷ ys) in
    ap (drop n) (sym (append_assoc xs (46 ∷ []) ys))
    ∙ drop_at (xs ++ 46 ∷ []) ys n (omega (arith, suffix_len_at (λ x. not (is_dot x)) xs 46 ys refl (no_dot ys h), length-append xs (46 ∷ ys), length_push xs 46))

pub has_dot : (xs ys : List ℕ) → list_any is_dot (xs ++ 46 ∷ ys) ≡ true
has_dot [] ys = refl
has_dot (x ∷ xs) ys = or_right (is_dot x) (list_any is_dot (xs ++ 46 ∷ ys)) (has_dot xs ys)

-- a word that has a dot, cut at its last one
pub record CutAt (w : List ℕ) : Type 0 where
  pub front : List ℕ
  pub last : List ℕ
  pub whole : w ≡ front ++ 46 ∷ last
  pub rest : list_any is_dot last ≡ false

is_46 : (b : ℕ) → is_dot b ≡ true → b ≡ 46
is_46 b h = grind (arith, nat_tests)

cut_at : (b : ℕ) (bs : List ℕ) (d : Bool) → list_any is_dot bs ≡ d → (is_dot b || d) ≡ true → (list_any is_dot bs ≡ true → CutAt bs) → CutAt (b ∷ bs)
cut_at b bs true e h k = let c = k e in record { front = b ∷ c.front; last = c.last; whole = ap (λ x. b ∷ x) c.whole; rest = c.rest }
cut_at b bs false e h k = record { front = []; last = bs; whole = ap (λ x. x ∷ bs) (is_46 b (or_none (is_dot b) h)); rest = e }

pub cut_last : (w : List ℕ) → list_any is_dot w ≡ true → CutAt w
cut_last [] h = absurd (true≢false (sym h))
cut_last (b ∷ bs) h = cut_at b bs (list_any is_dot bs) refl h (cut_last bs)

-- the parts of a word that is cut at a dot
onto : (b n : ℕ) (xs ys : List (List ℕ)) → length xs ≡ n + 1 → onto_first b (xs ++ ys) ≡ onto_first b xs ++ ys
onto b n [] ys e = absurd (omega (arith, e))
onto b n (x ∷ xs) ys e = refl

split_by : (d : Bool) (b n : ℕ) (xs ys : List (List ℕ)) → length xs ≡ n + 1 → cond d ([] ∷ (xs ++ ys)) (onto_first b (xs ++ ys)) ≡ cond d ([] ∷ xs) (onto_first b xs) ++ ys
split_by true b n xs ys e = refl
split_by false b n xs ys e = onto b n xs ys e

split_append : (a c : List ℕ) → slice_split is_dot (a ++ 46 ∷ c) ≡ slice_split is_dot a ++ slice_split is_dot c
split_append [] c = refl
split_append (b ∷ a) c =
    ap (λ x. cond (is_dot b) ([] ∷ x) (onto_first b x)) (split_append a c) ∙ split_by (is_dot b) b (count_by is_dot a) (slice_split is_dot a) (slice_split is_dot c) (length-slice_split is_dot a)

one_part_by : (d : Bool) (b : ℕ) (bs : List ℕ) → d ≡ false → cond d ([] ∷ bs ∷ []) (onto_first b (bs ∷ [])) ≡ (b ∷ bs) ∷ []
one_part_by true b bs e = absurd (true≢false e)
one_part_by false b bs e = refl

one_part : (c : List ℕ) → list_any is_dot c ≡ false → slice_split is_dot c ≡ c ∷ []
one_part [] h = refl
one_part (b ∷ bs) h = let p = or_parts (is_dot b) (list_any is_dot bs) h in ap (λ x. cond (is_dot b) ([] ∷ x) (onto_first b x)) (one_part bs p.1) ∙ one_part_by (is_dot b) b bs p.0

all_append : (xs ys : List (List ℕ)) → list_all is_module_part (xs ++ ys) ≡ true → (list_all is_module_part xs ≡ true) × (list_all is_module_part ys ≡ true)
all_append [] ys h = (refl, h)
all_append (x ∷ xs) ys h =
    let p = and_parts (is_module_part x) (list_all is_module_part (xs ++ ys)) h in
    let q = all_append xs ys p.1 in
    (and_from (is_module_part x) (list_all is_module_part xs) p.0 q.0, q.1)

pub module_part : (c : List ℕ) → is_module_name c ≡ true → list_any is_dot c ≡ false → is_module_part c ≡ true
module_part c h e = (and_parts (is_module_part c) true (sym (ap (list_all is_module_part) (one_part c e)) ∙ h)).0

pub module_parts : (a c : List ℕ) → is_module_name (a ++ 46 ∷ c) ≡ true → list_any is_dot c ≡ false → (is_module_name a ≡ true) × (is_module_part c ≡ true)
module_parts a c h e =
    let p = all_append (slice_split is_dot a) (slice_split is_dot c) (sym (ap (list_all is_module_part) (split_append a c)) ∙ h) in
    (p.0, module_part c p.1 e)

-- the bytes of a module's name
upper_is_plain : (b : ℕ) → is_upper_letter b ≡ true → is_plain b ≡ true
upper_is_plain b h = grind (arith, nat_tests)

module_byte_is_plain : (b : ℕ) → is_module_byte b ≡ true → is_plain b ≡ true
module_byte_is_plain b h = grind (arith, nat_tests)

dot_is_plain : (b : ℕ) → is_dot b ≡ true → is_plain b ≡ true
dot_is_plain b h = grind (arith, nat_tests)

part_is_plain : (w : List ℕ) → is_module_part w ≡ true → list_all is_plain w ≡ true
part_is_plain [] h = refl
part_is_plain (b ∷ bs) h =
    let p = and_parts (is_upper_letter b) (list_all is_module_byte bs) h in
    and_from (is_plain b) (list_all is_plain bs) (upper_is_plain b p.0) (all_follows is_module_byte is_plain module_byte_is_plain bs p.1)

parts_are_plain : (ws : List (List ℕ)) → list_all is_module_part ws ≡ true → list_all (list_all is_plain) ws ≡ true
parts_are_plain [] h = refl
parts_are_plain (w ∷ ws) h =
    let p = and_parts (is_module_part w) (list_all is_module_part ws) h in
    and_from (list_all is_plain w) (list_all (list_all is_plain) ws) (part_is_plain w p.0) (parts_are_plain ws p.1)

front_is_plain : (b : ℕ) (ws : List (List ℕ)) → list_all (list_all is_plain) (onto_first b ws) ≡ true → (is_plain b ≡ true) × (list_all (list_all is_plain) ws ≡ true)
front_is_plain b [] h = ((and_parts (is_plain b) true (and_parts (is_plain b && true) true h).0).0, refl)
front_is_plain b (w ∷ ws) h =
    let p = and_parts (is_plain b && list_all is_plain w) (list_all (list_all is_plain) ws) h in
    let q = and_parts (is_plain b) (list_all is_plain w) p.0 in
    (q.0, and_from (list_all is_plain w) (list_all (list_all is_plain) ws) q.1 p.1)

plain_by : (d : Bool) (b : ℕ) (bs : List ℕ) → is_dot b ≡ d → list_all (list_all is_plain) (cond d ([] ∷ slice_split is_dot bs) (onto_first b (slice_split is_dot bs))) ≡ true
    → (list_all (list_all is_plain) (slice_split is_dot bs) ≡ true → list_all is_plain bs ≡ true) → list_all is_plain (b ∷ bs) ≡ true
plain_by true b bs e h k = and_from (is_plain b) (list_all is_plain bs) (dot_is_plain b e) (k h)
plain_by false b bs e h k = let p = front_is_plain b (slice_split is_dot bs) h in and_from (is_plain b) (list_all is_plain bs) p.0 (k p.1)

pub whole_is_plain : (w : List ℕ) → list_all (list_all is_plain) (slice_split is_dot w) ≡ true → list_all is_plain w ≡ true
whole_is_plain [] h = refl
whole_is_plain (b ∷ bs) h = plain_by (is_dot b) b bs refl h (whole_is_plain bs)

pub module_is_plain : (m : List ℕ) → is_module_name m ≡ true → list_all is_plain m ≡ true
module_is_plain m h = whole_is_plain m (parts_are_plain (slice_split is_dot m) h)

-- it starts with an upper letter
start_front : (b : ℕ) (ws : List (List ℕ)) → list_all is_module_part (onto_first b ws) ≡ true → is_upper_letter b ≡ true
start_front b [] h = (and_parts (is_upper_letter b) true (and_parts (is_upper_letter b && true) true h).0).0
start_front b (w ∷ ws) h = (and_parts (is_upper_letter b) (list_all is_module_byte w) (and_parts (is_upper_letter b && list_all is_module_byte w) (list_all is_module_part ws) h).0).0

start_by : (d : Bool) (b : ℕ) (ws : List (List ℕ)) → list_all is_module_part (cond d ([] ∷ ws) (onto_first b ws)) ≡ true → is_upper_letter b ≡ true
start_by true b ws h = absurd (true≢false (sym h))
start_by false b ws h = start_front b ws h

pub module_starts : (b : ℕ) (bs : List ℕ) → is_module_name (b ∷ bs) ≡ true → is_upper_letter b ≡ true
module_starts b bs h = start_by (is_dot b) b (slice_split is_dot bs) h

pub part_is_upper : (m : List ℕ) → is_module_part m ≡ true → is_upper_name m ≡ true
part_is_upper [] h = h
part_is_upper (b ∷ bs) h =
    let p = and_parts (is_upper_letter b) (list_all is_module_byte bs) h in
    and_from (is_upper_letter b) (list_all is_name_byte bs) p.0 (all_follows is_module_byte is_name_byte (λ b h. ap (λ x. ((x || b == 39) || b == 35) || b == 36) h) bs p.1)
