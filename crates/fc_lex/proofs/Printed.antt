-- Printed numbers and literals are the tokens that they print.
use Rattle.std.proofs.Common.{◌≡◌, ℕ, ◌^◌, ◌<◌, ◌≤◌, true, false, List, [], ◌∷◌, ◌++◌, length, refl, sym, ◌∙◌, ap, arith, le-leb, lt-ltb, ℤ, pos, suc}
use Rattle.std.specs.Prelude.{Ok, ◌&&◌, ◌==◌, nat_lt, nat_le, if◌then◌else◌, neg_ℤ, negsuc}
use Rattle.std.specs.Fmt.{decimal, signed_decimal}
use Rattle.std.specs.List.{list_all}
use Rattle.std.specs.Str.Parse.{digits_value, signed_digits_value}
use Rattle.std.proofs.lemmas.Bool.{and_parts, and_from, true≢false}
use Rattle.std.proofs.lemmas.Bool.Decides.{nat_tests}
use Rattle.std.proofs.lemmas.Fmt.{decimal_nonempty, digits_decimal, digits_value-decimal}
use Rattle.std.proofs.lemmas.List.Folds.{list_all-append}
use mir.Syntax.{w64}
use mir.Val.{SFits}
use Rattle.fc_syntax.specs.declared.token.TokenKind.TheVariants as kind
use Rattle.fc_syntax.specs.Tokens.{is_digit, is_digits, is_plain, without_minus, without_hash, is_literal, is_in_range, word_kind}
use Rattle.fc_lex.proofs.Literals.{own, literal_by_last, without_last}

not_minus : (b : ℕ) → is_digit b ≡ true → (b == 45) ≡ false
not_minus b h = grind (arith, nat_tests)

not_plus : (b : ℕ) → is_digit b ≡ true → (b == 43) ≡ false
not_plus b h = grind (arith, nat_tests)

digit_plain : (b : ℕ) → is_digit b ≡ true → is_plain b ≡ true
digit_plain b h = grind (arith, nat_tests)

pub digits_plain : (w : List ℕ) → list_all is_digit w ≡ true → list_all is_plain w ≡ true
digits_plain [] h = refl
digits_plain (b ∷ bs) h =
    let parts = and_parts (is_digit b) (list_all is_digit bs) h in
    and_from (is_plain b) (list_all is_plain bs) (digit_plain b parts.0) (digits_plain bs parts.1)

pub digits_from : (w : List ℕ) → list_all is_digit w ≡ true → 0 < length w → is_digits w ≡ true
digits_from [] h l = absurd (omega arith)
digits_from (b ∷ bs) h l = h

-- a literal
pub literal_kind : (at : ℕ) (n : List ℕ) → is_digits (without_minus n) ≡ true → is_in_range (n ++ 35 ∷ []) ≡ true
    → word_kind at (n ++ 35 ∷ []) ≡ Ok (kind.Literal (signed_digits_value 10 n))
literal_kind at n d r =
    let l : is_literal (n ++ 35 ∷ []) ≡ true = literal_by_last n 35 ∙ d in
    rw (l, r) (ap (λ v. Ok (kind.Literal (signed_digits_value 10 v))) (without_last n 35))

minus_range : (ds : List ℕ) → digits_value 10 ds ≤ 2 ^ 63 → is_in_range ((45 ∷ ds) ++ 35 ∷ []) ≡ true
minus_range ds h = ap (λ v. nat_le (digits_value 10 (without_minus v)) (2 ^ 63)) (without_last (45 ∷ ds) 35) ∙ le-leb (digits_value 10 ds) (2 ^ 63) h

plain_range : (ds : List ℕ) → is_digits ds ≡ true → digits_value 10 ds < 2 ^ 63 → is_in_range (ds ++ 35 ∷ []) ≡ true
plain_range [] d h = absurd (true≢false (sym d))
plain_range (b ∷ bs) d h =
    let w = (b ∷ bs) ++ 35 ∷ [] in
    let e : (b == 45) ≡ false = not_minus b (and_parts (is_digit b) (list_all is_digit bs) d).0 in
    ap (λ s. if s then nat_le (digits_value 10 (without_minus (without_hash w))) (2 ^ 63) else nat_lt (digits_value 10 (without_hash w)) (2 ^ 63)) e
    ∙ (ap (λ v. nat_lt (digits_value 10 v) (2 ^ 63)) (without_last (b ∷ bs) 35) ∙ lt-ltb (digits_value 10 (b ∷ bs)) (2 ^ 63) h)

plain_digits : (ds : List ℕ) → is_digits ds ≡ true → is_digits (without_minus ds) ≡ true
plain_digits [] d = d
plain_digits (b ∷ bs) d =
    let e : (b == 45) ≡ false = not_minus b (and_parts (is_digit b) (list_all is_digit bs) d).0 in
    rw e d

plain_value : (ds : List ℕ) → is_digits ds ≡ true → signed_digits_value 10 ds ≡ pos (digits_value 10 ds)
plain_value [] d = absurd (true≢false (sym d))
plain_value (b ∷ bs) d =
    let h = (and_parts (is_digit b) (list_all is_digit bs) d).0 in
    let e : (b == 45) ≡ false = not_minus b h in
    let f : (b == 43) ≡ false = not_plus b h in
    rw (e, f) refl

decimal_digits : (n : ℕ) → n < 2 ^ 64 → is_digits (decimal n) ≡ true
decimal_digits n h = digits_from (decimal n) (digits_decimal own n h) (decimal_nonempty n h)

-- a printed integer and `#` are the literal of that value
pub printed_literal : (at : ℕ) (z : ℤ) → SFits w64 z → word_kind at (signed_decimal z ++ 35 ∷ []) ≡ Ok (kind.Literal z)
printed_literal at (pos n) h =
    let below : n < 2 ^ 63 = h.sfits in
    let small : n < 2 ^ 64 = omega arith in
    let d = decimal_digits n small in
    let v = digits_value-decimal own n small in
    literal_kind at (decimal n) (plain_digits (decimal n) d) (plain_range (decimal n) d (omega arith)) ∙ (ap (λ z. Ok (kind.Literal z)) (plain_value (decimal n) d) ∙ ap (λ k. Ok (kind.Literal (pos k))) v)
printed_literal at (negsuc n) h =
    let below : n < 2 ^ 63 = h.sfits in
    let small : suc n < 2 ^ 64 = omega arith in
    let d = decimal_digits (suc n) small in
    let v = digits_value-decimal own (suc n) small in
    literal_kind at (45 ∷ decimal (suc n)) d (minus_range (decimal (suc n)) (omega arith)) ∙ ap (λ k. Ok (kind.Literal (neg_ℤ (pos k)))) v

-- both are words
pub decimal_plain : (n : ℕ) → n < 2 ^ 64 → list_all is_plain (decimal n) ≡ true
decimal_plain n h = digits_plain (decimal n) (digits_decimal own n h)

pub literal_plain : (z : ℤ) → SFits w64 z → list_all is_plain (signed_decimal z ++ 35 ∷ []) ≡ true
literal_plain (pos n) h =
    let below : n < 2 ^ 63 = h.sfits in
    list_all-append is_plain (decimal n) (35 ∷ []) ∙ ap (λ b. b && true) (decimal_plain n (omega arith))
literal_plain (negsuc n) h =
    let below : n < 2 ^ 63 = h.sfits in
    list_all-append is_plain (decimal (suc n)) (35 ∷ []) ∙ ap (λ b. b && true) (decimal_plain (suc n) (omega arith))
