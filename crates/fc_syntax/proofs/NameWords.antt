-- Names as words of a text: they are plain, and no literal, number or sign is one.
use Rattle.std.proofs.Common.{◌≡◌, ℕ, suc, zero, ◌-◌, ◌<◌, Bool, true, false, List, [], ◌∷◌, length, take, drop, get_or, refl, sym, ◌∙◌, ap, arith, cond, if◌then◌else◌}
use Rattle.std.specs.Prelude.{Ok, ◌&&◌, ◌||◌, ◌==◌, not, nat_le}
use Rattle.std.specs.List.{list_all, list_any, suffix_len, after_last, before_last}
use Rattle.std.proofs.lemmas.Bool.{and_parts, true≢false}
use Rattle.std.proofs.lemmas.Bool.Decides.{nat_tests}
use Rattle.std.proofs.lemmas.List.Sums.{suffix_len_is}
use Rattle.fc_syntax.specs.declared.token.TokenKind.TheVariants as kind
use Rattle.fc_syntax.specs.Tokens.{is_plain, is_digit, is_digits, is_dot, is_name, is_name_byte, starts_names, is_lower_letter, is_upper_letter, is_lower_name, is_upper_name, is_plain_name, is_literal, is_number, is_sign, is_module_name, word_kind, without_minus, without_hash, ends_with_hash}

start_is_plain : (b : ℕ) → starts_names b ≡ true → is_plain b ≡ true
start_is_plain b h = grind (arith, nat_tests)

start_is_no_digit : (b : ℕ) → starts_names b ≡ true → is_digit b ≡ false
start_is_no_digit b h = grind (arith, nat_tests)

start_is_no_minus : (b : ℕ) → starts_names b ≡ true → (b == 45) ≡ false
start_is_no_minus b h = grind (arith, nat_tests)

start_is_no_dot : (b : ℕ) → starts_names b ≡ true → is_dot b ≡ false
start_is_no_dot b h = grind (arith, nat_tests)

pub name_byte_is_plain : (b : ℕ) → is_name_byte b ≡ true → is_plain b ≡ true
name_byte_is_plain b h = grind (arith, nat_tests)

name_byte_is_no_dot : (b : ℕ) → is_name_byte b ≡ true → is_dot b ≡ false
name_byte_is_no_dot b h = grind (arith, nat_tests)

-- a test that follows from another one
pub all_follows : (p q : ℕ → Bool) → ((b : ℕ) → p b ≡ true → q b ≡ true) → (bs : List ℕ) → list_all p bs ≡ true → list_all q bs ≡ true
all_follows p q f [] h = refl
all_follows p q f (b ∷ bs) h =
    let parts = and_parts (p b) (list_all p bs) h in
    ap (λ x. x && list_all q bs) (f b parts.0) ∙ all_follows p q f bs parts.1

or_left : (x y : Bool) → x ≡ true → (x || y) ≡ true
or_left x y h = ap (λ b. b || y) h

lower_starts : (b : ℕ) → ((is_lower_letter b || b == 95) || b == 36) ≡ true → starts_names b ≡ true
lower_starts b h = or_left ((is_lower_letter b || b == 95) || b == 36) (is_upper_letter b) h

pub upper_starts : (b : ℕ) → is_upper_letter b ≡ true → starts_names b ≡ true
upper_starts b h = grind (arith, nat_tests)

-- what a lower or an upper name is made of
pub record IsNameOf (b : ℕ) (bs : List ℕ) : Type 0 where
  pub start : starts_names b ≡ true
  pub others : list_all is_name_byte bs ≡ true

name_parts_at : (b : ℕ) (bs : List ℕ) (l : Bool) → is_lower_name (b ∷ bs) ≡ l → (l || is_upper_name (b ∷ bs)) ≡ true → IsNameOf b bs
name_parts_at b bs true e h = let parts = and_parts ((is_lower_letter b || b == 95) || b == 36) (list_all is_name_byte bs) e in record { start = lower_starts b parts.0; others = parts.1 }
name_parts_at b bs false e h = let parts = and_parts (is_upper_letter b) (list_all is_name_byte bs) h in record { start = upper_starts b parts.0; others = parts.1 }

pub name_parts : (b : ℕ) (bs : List ℕ) → is_plain_name (b ∷ bs) ≡ true → IsNameOf b bs
name_parts b bs h = name_parts_at b bs (is_lower_name (b ∷ bs)) refl h

from_parts : (l u t : Bool) → (l || u) ≡ true → t ≡ true → ((l && t) || (u && t)) ≡ true
from_parts true u true h e = refl
from_parts false true true h e = refl
from_parts false false t h e = absurd (true≢false (sym h))
from_parts l u false h e = absurd (true≢false (sym e))

pub name_from_parts : (b : ℕ) (bs : List ℕ) → starts_names b ≡ true → list_all is_name_byte bs ≡ true → is_plain_name (b ∷ bs) ≡ true
name_from_parts b bs s h = from_parts ((is_lower_letter b || b == 95) || b == 36) (is_upper_letter b) (list_all is_name_byte bs) s h

pub name_is_plain : (b : ℕ) (bs : List ℕ) → IsNameOf b bs → list_all is_plain (b ∷ bs) ≡ true
name_is_plain b bs n = ap (λ x. x && list_all is_plain bs) (start_is_plain b n.start) ∙ all_follows is_name_byte is_plain name_byte_is_plain bs n.others

-- no literal
not_digits : (b : ℕ) (bs : List ℕ) → starts_names b ≡ true → is_digits (b ∷ bs) ≡ false
not_digits b bs h = ap (λ x. x && list_all is_digit bs) (start_is_no_digit b h)

not_digits_behind : (b : ℕ) (bs : List ℕ) → starts_names b ≡ true → is_digits (without_minus (b ∷ bs)) ≡ false
not_digits_behind b bs h = ap (λ x. is_digits (cond x bs (b ∷ bs))) (start_is_no_minus b h) ∙ not_digits b bs h

not_digits_before : (b : ℕ) (bs : List ℕ) → starts_names b ≡ true → is_digits (without_minus (without_hash (b ∷ bs))) ≡ false
not_digits_before b [] h = refl
not_digits_before b (c ∷ cs) h =
    let e : length (b ∷ c ∷ cs) - 1 ≡ length (c ∷ cs) = omega arith in
    ap (λ n. is_digits (without_minus (take n (b ∷ c ∷ cs)))) e ∙ not_digits_behind b (take (length cs) (c ∷ cs)) h

and_false : (x y : Bool) → y ≡ false → (x && y) ≡ false
and_false true y h = h
and_false false y h = refl

not_literal : (b : ℕ) (bs : List ℕ) → starts_names b ≡ true → is_literal (b ∷ bs) ≡ false
not_literal b bs h = and_false (ends_with_hash (b ∷ bs)) _ (not_digits_before b bs h)

-- no qualified name
not_dotted : (bs : List ℕ) → list_all (λ b. not (is_dot b)) bs ≡ true → list_any is_dot bs ≡ false
not_dotted [] h = refl
not_dotted (b ∷ bs) h = not_dotted_at (is_dot b) bs h (not_dotted bs)
  where
    not_dotted_at : (x : Bool) (bs : List ℕ) → (not x && list_all (λ b. not (is_dot b)) bs) ≡ true → (list_all (λ b. not (is_dot b)) bs ≡ true → list_any is_dot bs ≡ false) → (x || list_any is_dot bs) ≡ false
    not_dotted_at true bs h ih = absurd (true≢false (sym h))
    not_dotted_at false bs h ih = ih h

all_at : (p : ℕ → Bool) (xs : List ℕ) (k d : ℕ) → list_all p xs ≡ true → k < length xs → p (get_or xs k d) ≡ true
all_at p [] k d h lt = absurd (omega arith)
all_at p (x ∷ xs) zero d h lt = (and_parts (p x) (list_all p xs) h).0
all_at p (x ∷ xs) (suc k) d h lt = all_at p xs k d (and_parts (p x) (list_all p xs) h).1 (omega arith)

whole_last : (bs : List ℕ) → list_all (λ b. not (is_dot b)) bs ≡ true → after_last is_dot bs ≡ bs
whole_last bs h =
    let e : suffix_len (λ b. not (is_dot b)) bs ≡ length bs - 0 = suffix_len_is (λ b. not (is_dot b)) bs 0 0 (omega arith) (λ k low lt. all_at (λ b. not (is_dot b)) bs k 0 h lt) (λ lt. absurd (omega arith)) in
    let z : length bs - suffix_len (λ b. not (is_dot b)) bs ≡ 0 = omega arith in
    ap (λ n. drop n bs) z

no_dots : (b : ℕ) (bs : List ℕ) → IsNameOf b bs → list_all (λ b. not (is_dot b)) (b ∷ bs) ≡ true
no_dots b bs n =
    ap (λ x. not x && list_all (λ b. not (is_dot b)) bs) (start_is_no_dot b n.start)
    ∙ all_follows is_name_byte (λ b. not (is_dot b)) (λ b h. ap not (name_byte_is_no_dot b h)) bs n.others

pub undotted : (b : ℕ) (bs : List ℕ) → is_plain_name (b ∷ bs) ≡ true → list_any is_dot (b ∷ bs) ≡ false
undotted b bs h = not_dotted (b ∷ bs) (no_dots b bs (name_parts b bs h))

pub name_is_name : (b : ℕ) (bs : List ℕ) → is_plain_name (b ∷ bs) ≡ true → is_name (b ∷ bs) ≡ true
name_is_name b bs h =
    let w = b ∷ bs in
    let apart = no_dots b bs (name_parts b bs h) in
    let rest = is_module_name (before_last is_dot w) in
    ap (λ x. x && (not (list_any is_dot w) || rest)) (ap is_plain_name (whole_last w apart) ∙ h)
    ∙ ap (λ x. not x || rest) (not_dotted w apart)

by_tests : {X : Type 0} (l n w s : Bool) (a b c d : X) → l ≡ false → n ≡ false → w ≡ true → (if l then a else if n then b else if w || s then c else d) ≡ c
by_tests true n w s a b c d l e h = absurd (true≢false l)
by_tests false true w s a b c d l e h = absurd (true≢false e)
by_tests false false true s a b c d l e h = refl
by_tests false false false s a b c d l e h = absurd (true≢false (sym h))

-- what starts as a name does, and is one, is a word
pub starting_kind : (at b : ℕ) (bs : List ℕ) → starts_names b ≡ true → is_name (b ∷ bs) ≡ true → word_kind at (b ∷ bs) ≡ Ok kind.Word
starting_kind at b bs h k =
    by_tests (is_literal (b ∷ bs)) (is_number (b ∷ bs)) (is_name (b ∷ bs)) (is_sign (b ∷ bs)) _ _ _ _
    (not_literal b bs h) (ap (λ x. x && nat_le (length (b ∷ bs)) 9) (not_digits b bs h)) k

pub name_kind : (at b : ℕ) (bs : List ℕ) → is_plain_name (b ∷ bs) ≡ true → word_kind at (b ∷ bs) ≡ Ok kind.Word
name_kind at b bs h = starting_kind at b bs (name_parts b bs h).start (name_is_name b bs h)
