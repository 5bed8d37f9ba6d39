-- Printed numbers, paths and literals are part numbers, paths and literals, and write what was printed.
use Rattle.std.proofs.Common.{◌≡◌, ℕ, ◌^◌, ◌<◌, Bool, true, false, List, [], ◌∷◌, ◌++◌, length, map, get_or, refl, sym, ◌∙◌, ap, arith, le-leb, lt-ltb, ltb-true, zero, suc, ℤ, pos}
use Rattle.std.specs.Prelude.{All, Ok, Err, ◌==◌, nat_le, nat_lt, codes, negsuc}
use Rattle.std.specs.Fmt.{decimal, signed_decimal}
use Rattle.std.specs.List.{list_all, slice_split}
use Rattle.std.specs.Str.{bytes_eq}
use Rattle.std.specs.Str.Parse.{digits_value}
use Rattle.std.proofs.lemmas.Bool.{and_parts, and_from, true≢false}
use Rattle.std.proofs.lemmas.Bool.Decides.{nat_tests}
use Rattle.std.proofs.lemmas.Fmt.{decimal_digit, decimal_nonempty, digits_decimal, digits_value-decimal, first_decimal, length-decimal-le}
use Rattle.std.proofs.lemmas.List.Elements.{All-nil, All-cons, All-head, All-tail}
use Rattle.std.proofs.lemmas.List.Splits.{slice_split_at, slice_split_none}
use mir.Syntax.{w64}
use mir.Val.{SFits}
use Rattle.fc_syntax.specs.declared.token.TokenKind.TheVariants as kind
use Rattle.fc_syntax.specs.Tokens.{is_digit, is_digits, is_dot, is_in_range, is_literal, is_number, is_name, is_sign, literal_value, without_minus, word_kind}
use Rattle.fc_lex.proofs.Literals.{own, literal_parses, without_last}
use Rattle.fc_lex.proofs.Printed.{digits_from, printed_literal}
use Rattle.fc_read_parts.proofs.Names.{start_is_not}
use Rattle.fc_log.specs.Grammar.{is_part_number, is_path, is_written_literal, no_leading_zero, path_of}
use Rattle.fc_log.specs.Texts.{IsPath, path_text}

-- NUMBERS

all_digits : (n : ℕ) → n < 2 ^ 64 → list_all is_digit (decimal n) ≡ true
all_digits n h = digits_decimal own n h

no_zero_by_first : (w : List ℕ) → 48 < get_or w 0 0 → no_leading_zero w ≡ true
no_zero_by_first [] h = refl
no_zero_by_first (b ∷ []) h = refl
no_zero_by_first (b ∷ c ∷ bs) h = grind (arith, nat_tests)

pub no_zero : (n : ℕ) → n < 2 ^ 64 → no_leading_zero (decimal n) ≡ true
no_zero zero h = ap no_leading_zero (decimal_digit 0 (omega arith))
no_zero (suc n) h = no_zero_by_first (decimal (suc n)) (first_decimal (suc n) (omega arith) h)

pub part_number : (n : ℕ) → n < 10 ^ 9 → is_part_number (decimal n) ≡ true
part_number n h =
    let small : n < 2 ^ 64 = omega arith in
    let d = digits_from (decimal n) (all_digits n small) (decimal_nonempty n small) in
    let l : nat_le (length (decimal n)) 9 ≡ true = le-leb (length (decimal n)) 9 (length-decimal-le 9 n (omega arith) h small) in
    and_from (is_number (decimal n)) (no_leading_zero (decimal n)) (and_from (is_digits (decimal n)) (nat_le (length (decimal n)) 9) d l) (no_zero n small)

-- PATHS

no_dot : (b : ℕ) → is_digit b ≡ true → is_dot b ≡ false
no_dot b h = grind (arith, nat_tests)

no_dots : (w : List ℕ) → list_all is_digit w ≡ true → All (λ b. is_dot b ≡ false) w
no_dots [] h = All-nil (λ b. is_dot b ≡ false)
no_dots (b ∷ bs) h =
    let p = and_parts (is_digit b) (list_all is_digit bs) h in
    All-cons (λ b. is_dot b ≡ false) b bs (no_dot b p.0) (no_dots bs p.1)

decimal_undotted : (n : ℕ) → n < 10 ^ 9 → All (λ b. is_dot b ≡ false) (decimal n)
decimal_undotted n h = no_dots (decimal n) (all_digits n (omega arith))

path_parts : (n : ℕ) (ns : List ℕ) → n < 10 ^ 9 → All (λ n. n < 10 ^ 9) ns → slice_split is_dot (path_text (n ∷ ns)) ≡ map decimal (n ∷ ns)
path_parts n [] h a = slice_split_none is_dot (decimal n) (decimal_undotted n h)
path_parts n (m ∷ ns) h a =
    slice_split_at is_dot (decimal n) 46 (path_text (m ∷ ns)) (decimal_undotted n h) refl
    ∙ ap (λ ws. decimal n ∷ ws) (path_parts m ns (All-head (λ n. n < 10 ^ 9) m ns a) (All-tail (λ n. n < 10 ^ 9) m ns a))

all_parts : (ns : List ℕ) → All (λ n. n < 10 ^ 9) ns → list_all is_part_number (map decimal ns) ≡ true
all_parts [] a = refl
all_parts (n ∷ ns) a =
    and_from (is_part_number (decimal n)) (list_all is_part_number (map decimal ns)) (part_number n (All-head (λ n. n < 10 ^ 9) n ns a))
    (all_parts ns (All-tail (λ n. n < 10 ^ 9) n ns a))

all_values : (ns : List ℕ) → All (λ n. n < 10 ^ 9) ns → map (digits_value 10) (map decimal ns) ≡ ns
all_values [] a = refl
all_values (n ∷ ns) a =
    let h : n < 10 ^ 9 = All-head (λ n. n < 10 ^ 9) n ns a in
    let v : digits_value 10 (decimal n) ≡ n = digits_value-decimal own n (omega arith) in
    rw (v, all_values ns (All-tail (λ n. n < 10 ^ 9) n ns a)) refl

pub path_is : (ns : List ℕ) → IsPath ns → is_path (path_text ns) ≡ true
path_is [] h = absurd (omega (arith, h.some_part))
path_is (n ∷ ns) h =
    let s = path_parts n ns (All-head (λ n. n < 10 ^ 9) n ns h.each) (All-tail (λ n. n < 10 ^ 9) n ns h.each) in
    ap (list_all is_part_number) s ∙ all_parts (n ∷ ns) h.each

pub path_value : (ns : List ℕ) → IsPath ns → path_of (path_text ns) ≡ ns
path_value [] h = absurd (omega (arith, h.some_part))
path_value (n ∷ ns) h =
    let s = path_parts n ns (All-head (λ n. n < 10 ^ 9) n ns h.each) (All-tail (λ n. n < 10 ^ 9) n ns h.each) in
    ap (map (digits_value 10)) s ∙ all_values (n ∷ ns) h.each

-- LITERALS

-- a word that is a literal by its kind
pub record IsLiteralOf (w : List ℕ) (z : ℤ) : Type 0 where
  pub shape : is_literal w ≡ true
  pub in_range : is_in_range w ≡ true
  pub value : literal_value w ≡ z

by_kind : (w : List ℕ) (z : ℤ) (p q r s : Bool) → is_literal w ≡ p → is_in_range w ≡ q → is_number w ≡ r → (is_name w ≡ s) → word_kind 0 w ≡ Ok (kind.Literal z) → IsLiteralOf w z
by_kind w z true true r s e f g h k = let v : word_kind 0 w ≡ Ok (kind.Literal (literal_value w)) = rw (e, f) refl in record { shape = e; in_range = f; value = cc }
by_kind w z true false r s e f g h k = absurd (let v = rw (e, f) at k in cc)
by_kind w z false q true s e f g h k = absurd (let v = rw (e, g) at k in cc)
by_kind w z false q false true e f g h k = absurd (let v = rw (e, g, h) at k in cc)
by_kind w z false q false false e f g h k = no_sign (is_sign w) refl where
  no_sign : (t : Bool) → is_sign w ≡ t → IsLiteralOf w z
  no_sign true i = absurd (let v = rw (e, g, h, i) at k in cc)
  no_sign false i = absurd (let v = rw (e, g, h, i) at k in cc)

pub printed_is : (z : ℤ) → SFits w64 z → IsLiteralOf (signed_decimal z ++ 35 ∷ []) z
printed_is z h = let w = signed_decimal z ++ 35 ∷ [] in by_kind w z (is_literal w) (is_in_range w) (is_number w) (is_name w) refl refl refl refl (printed_literal 0 z h)

digit_no_minus : (b : ℕ) → is_digit b ≡ true → (b == 45) ≡ false
digit_no_minus b h = grind (arith, nat_tests)

-- a numeral without a minus
pub record IsUnsigned (w : List ℕ) : Type 0 where
  pub kept : without_minus w ≡ w
  pub no_minus_zero : bytes_eq (w ++ 35 ∷ []) (codes "-0#") ≡ false

unsigned : (w : List ℕ) → is_digits w ≡ true → IsUnsigned w
unsigned [] d = absurd (true≢false (sym d))
unsigned (b ∷ bs) d =
    let e : (b == 45) ≡ false = digit_no_minus b (and_parts (is_digit b) (list_all is_digit bs) d).0 in
    record { kept = rw e refl; no_minus_zero = start_is_not 45 b (bs ++ 35 ∷ []) (48 ∷ 35 ∷ []) e }

minus_not_zero : (w : List ℕ) → 48 < get_or w 0 0 → bytes_eq ((45 ∷ w) ++ 35 ∷ []) (codes "-0#") ≡ false
minus_not_zero [] h = absurd (omega arith)
minus_not_zero (b ∷ bs) h = let e : (b == 48) ≡ false = grind (arith, nat_tests) in rw e refl

written_by : (n : List ℕ) → is_literal (n ++ 35 ∷ []) ≡ true → no_leading_zero (without_minus n) ≡ true → bytes_eq (n ++ 35 ∷ []) (codes "-0#") ≡ false → is_written_literal (n ++ 35 ∷ []) ≡ true
written_by n l z m = rw (l, without_last n 35, z, m) refl

pub written : (z : ℤ) → SFits w64 z → is_written_literal (signed_decimal z ++ 35 ∷ []) ≡ true
written (pos n) h =
    let below : n < 2 ^ 63 = h.sfits in
    let small : n < 2 ^ 64 = omega arith in
    let u = unsigned (decimal n) (digits_from (decimal n) (all_digits n small) (decimal_nonempty n small)) in
    written_by (decimal n) (printed_is (pos n) h).shape (ap no_leading_zero u.kept ∙ no_zero n small) u.no_minus_zero
written (negsuc n) h =
    let below : n < 2 ^ 63 = h.sfits in
    let small : suc n < 2 ^ 64 = omega arith in
    written_by (45 ∷ decimal (suc n)) (printed_is (negsuc n) h).shape (no_zero (suc n) small) (minus_not_zero (decimal (suc n)) (first_decimal (suc n) (omega arith) small))

-- what is not refuted is so
below_limit : (n m : ℕ) (b : Bool) → nat_lt n m ≡ b → ((n < m → ⊥) → ⊥) → n < m
below_limit n m true e k = ltb-true n m e
below_limit n m false e k = absurd (k (λ h. true≢false (sym (lt-ltb n m h) ∙ e)))

fits_by : (z : ℤ) → ((SFits w64 z → ⊥) → ⊥) → SFits w64 z
fits_by (pos n) k = record { sfits = below_limit n (2 ^ 63) (nat_lt n (2 ^ 63)) refl (λ r. k (λ h. r h.sfits)) }
fits_by (negsuc n) k = record { sfits = below_limit n (2 ^ 63) (nat_lt n (2 ^ 63)) refl (λ r. k (λ h. r h.sfits)) }

-- a literal in range fits 64 bits
pub literal_fits : (w : List ℕ) → is_literal w ≡ true → is_in_range w ≡ true → SFits w64 (literal_value w)
literal_fits w l r = fits_by (literal_value w) (λ k. literal_parses {E = Unit {0}} w (Err tt) l (λ q. k q.1) r)
