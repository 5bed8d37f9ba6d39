-- The values of literals and numbers.
use Rattle.std.proofs.Common.{◌≡◌, ℕ, ◌-◌, ◌^◌, ◌<◌, Bool, true, false, List, [], ◌∷◌, ◌++◌, length, take, refl, sym, ◌∙◌, ap, arith, rules, eqb-true, leb-true, ltb-true, le-leb, lt-ltb, Option, Some, None, ℤ, zero, suc}
use Rattle.std.specs.Prelude.{Result, Ok, Err, ◌&&◌, ◌==◌, nat_lt, nat_le, if◌then◌else◌, SomeIff}
use Rattle.std.specs.Result.{OkIff, result_ok}
use Rattle.std.specs.List.{list_all}
use Rattle.std.specs.Str.{IsUtf8}
use Rattle.std.specs.Str.Parse.{ParsesSigned, ParsesUnsigned, digits_value, signed_digits_value}
use Rattle.std.proofs.lemmas.Bool.{and_parts, true≢false}
use Rattle.std.proofs.lemmas.Bool.Decides.{nat_tests}
use Rattle.std.proofs.lemmas.Fmt.{IsAscii-from_digits}
use Rattle.std.proofs.lemmas.List.{take_at, length-append, length-take}
use Rattle.std.proofs.lemmas.Str.{IsUtf8-from_ascii}
use Rattle.std.proofs.lemmas.Str.Ascii.{IsAscii-cons}
use Rattle.std.proofs.lemmas.Str.Parse.{IsNumeralModel, numerals_by_value, parse_digits, parse_signed_minus, parse_signed_digits, digits_value_short}
use mir.Syntax.{w64}
use Rattle.fc_syntax.specs.Tokens.{is_digit, is_digits, is_number, starts_with_minus, without_minus, ends_with_hash, without_hash, is_literal, is_in_range, literal_value}

-- decimal digits and what they write, in the words of `parse`
pub own : IsNumeralModel (λ ds. list_all is_digit ds ≡ true) (digits_value 10)
own = numerals_by_value _ (search (rules, nat_tests))

pub digits_parts : (ds : List ℕ) → is_digits ds ≡ true → (list_all is_digit ds ≡ true) × (0 < length ds)
digits_parts [] h = absurd (true≢false (sym h))
digits_parts (b ∷ bs) h = (h, omega arith)

pub digits_text : (ds : List ℕ) → is_digits ds ≡ true → IsUtf8 ds
digits_text ds h = IsUtf8-from_ascii ds (IsAscii-from_digits ds (own.to ds (digits_parts ds h).0))

minus_text : (s : Bool) (b : ℕ) (bs : List ℕ) → (b == 45) ≡ s → is_digits (if s then bs else b ∷ bs) ≡ true → IsUtf8 (b ∷ bs)
minus_text true b bs e h =
    let small : b < 128 = omega (arith, eqb-true b 45 e) in
    IsUtf8-from_ascii (b ∷ bs) (IsAscii-cons b bs small (IsAscii-from_digits bs (own.to bs (digits_parts bs h).0)))
minus_text false b bs e h = digits_text (b ∷ bs) h

-- the digits of a numeral, with the minus before them or without it
pub numeral_text : (n : List ℕ) → is_digits (without_minus n) ≡ true → IsUtf8 n
numeral_text [] h = absurd (true≢false (sym h))
numeral_text (b ∷ bs) h = minus_text (b == 45) b bs refl h

pub ends_with_last : (rest : List ℕ) (x : ℕ) → ends_with_hash (rest ++ x ∷ []) ≡ (x == 35)
ends_with_last [] x = refl
ends_with_last (c ∷ []) x = refl
ends_with_last (c ∷ d ∷ rest) x = ends_with_last (d ∷ rest) x

pub without_last : (rest : List ℕ) (x : ℕ) → without_hash (rest ++ x ∷ []) ≡ rest
without_last rest x = take_at rest (x ∷ []) (length (rest ++ x ∷ []) - 1) (omega (arith, length-append rest (x ∷ [])))

pub literal_by_last : (rest : List ℕ) (x : ℕ) → is_literal (rest ++ x ∷ []) ≡ ((x == 35) && is_digits (without_minus rest))
literal_by_last rest x = rw (ends_with_last rest x) (ap (λ v. (x == 35) && is_digits (without_minus v)) (without_last rest x))

-- two accounts of when a result is `Ok`, and what it then is
pub same_account : {T E : Type 0} (r : Result T E) (P Q R : Type 0) (x y : T) → OkIff r P x → OkIff r Q y → (P → R) → (R → P) → OkIff r R y
same_account (Ok v) P Q R x y h k f g = (f h.0, k.1)
same_account (Err e) P Q R x y h k f g = λ p. h (g p)

pub some_of_ok : {T E : Type 0} (r : Result T E) (o : Option T) (P : Type 0) (x : T) → o ≡ result_ok r → OkIff r P x → SomeIff o P x
some_of_ok (Ok v) (Some u) P x e h = (h.0, cc)
some_of_ok (Ok v) None P x e h = cc
some_of_ok (Err w) (Some u) P x e h = cc
some_of_ok (Err w) None P x e h = h

pub starts_alike : (k : ℕ) (w : List ℕ) → 0 < k → starts_with_minus (take k w) ≡ starts_with_minus w
starts_alike zero w h = absurd (omega arith)
starts_alike (suc k) [] h = refl
starts_alike (suc k) (b ∷ bs) h = refl

-- what `parse` says of a numeral, by whether it begins with a minus
pub numeral_parses : {E : Type 0} (s : Bool) (b : ℕ) (bs : List ℕ) (r : Result ℤ E) → (b == 45) ≡ s → is_digits (if s then bs else b ∷ bs) ≡ true → ParsesSigned w64 10 (b ∷ bs) r
    → OkIff r ((if s then nat_le (digits_value 10 (if s then bs else b ∷ bs)) (2 ^ 63) else nat_lt (digits_value 10 (b ∷ bs)) (2 ^ 63)) ≡ true) (signed_digits_value 10 (b ∷ bs))
numeral_parses true b bs r e d h =
    same_account r _ _ _ _ _ (parse_signed_minus own w64 (b ∷ bs) r h (eqb-true b 45 e)) h
    (λ q. le-leb (digits_value 10 bs) (2 ^ 63) q.2)
    (λ t. ((digits_parts bs d).0, (digits_parts bs d).1, leb-true (digits_value 10 bs) (2 ^ 63) t))
numeral_parses false b bs r e d h =
    same_account r _ _ _ _ _ (parse_signed_digits own w64 (b ∷ bs) r h d) h
    (λ q. lt-ltb (digits_value 10 (b ∷ bs)) (2 ^ 63) q.1)
    (λ t. ((digits_parts (b ∷ bs) d).1, ltb-true (digits_value 10 (b ∷ bs)) (2 ^ 63) t))

-- the same of all but the last byte of a word
pub in_range_parses : {E : Type 0} (w n : List ℕ) (r : Result ℤ E) → without_hash w ≡ n → starts_with_minus w ≡ starts_with_minus n → is_digits (without_minus n) ≡ true
    → ParsesSigned w64 10 n r → OkIff r (is_in_range w ≡ true) (literal_value w)
in_range_parses w [] r e s d h = absurd (true≢false (sym d))
in_range_parses w (b ∷ bs) r e s d h = rw (s, e) (numeral_parses (b == 45) b bs r refl d h)

pub literal_digits : (w : List ℕ) → is_literal w ≡ true → is_digits (without_minus (without_hash w)) ≡ true
literal_digits w h = (and_parts (ends_with_hash w) (is_digits (without_minus (without_hash w))) h).1

numeral_nonempty : (n : List ℕ) → is_digits (without_minus n) ≡ true → 0 < length n
numeral_nonempty [] h = absurd (true≢false (sym h))
numeral_nonempty (b ∷ bs) h = omega arith

pub literal_parses : {E : Type 0} (w : List ℕ) (r : Result ℤ E) → is_literal w ≡ true → ParsesSigned w64 10 (without_hash w) r → OkIff r (is_in_range w ≡ true) (literal_value w)
literal_parses w r l h =
    let d = literal_digits w l in
    let k : 0 < length w - 1 = omega (arith, numeral_nonempty (without_hash w) d, length-take (length w - 1) w) in
    in_range_parses w (without_hash w) r refl (sym (starts_alike (length w - 1) w k)) d h

pub number_digits : (w : List ℕ) → is_number w ≡ true → is_digits w ≡ true
number_digits w h = (and_parts (is_digits w) (nat_le (length w) 9) h).0

-- nine digits at most
pub number_short : (w : List ℕ) → is_number w ≡ true → digits_value 10 w < 10 ^ 9
number_short w n =
    let parts = and_parts (is_digits w) (nat_le (length w) 9) n in
    digits_value_short own w 9 (digits_parts w parts.0).0 (leb-true (length w) 9 parts.1)

-- a number
pub number_parses : {E : Type 0} (w : List ℕ) (r : Result ℕ E) → is_number w ≡ true → ParsesUnsigned 32 10 w r → OkIff r (is_number w ≡ true) (digits_value 10 w)
number_parses w r n h =
    let parts = and_parts (is_digits w) (nat_le (length w) 9) n in
    let d = digits_parts w parts.0 in
    let short : digits_value 10 w < 10 ^ 9 = number_short w n in
    same_account r _ _ _ _ _ (parse_digits own 32 w r h d.0) (parse_digits own 32 w r h d.0) (λ q. n) (λ t. (d.1, omega arith))

-- a word by its last byte
pub literal_where : (w rest : List ℕ) (x : ℕ) (r : Bool) → w ≡ rest ++ x ∷ [] → (x == 35) ≡ true → r ≡ is_digits (without_minus rest) → r ≡ is_literal w
literal_where w rest x r e t h = h ∙ (sym (ap (λ b. b && is_digits (without_minus rest)) t) ∙ (sym (literal_by_last rest x) ∙ ap is_literal (sym e)))

pub literal_not_where : (w rest : List ℕ) (x : ℕ) → w ≡ rest ++ x ∷ [] → (x == 35) ≡ false → (x == 35) ≡ is_literal w
literal_not_where w rest x e t = t ∙ (sym (ap (λ b. b && is_digits (without_minus rest)) t) ∙ (sym (literal_by_last rest x) ∙ ap is_literal (sym e)))
