-- Numbers in decimal digits: they are accepted up to their bound, and read as they were written.
use Rattle.std.proofs.Common.{◌≡◌, ◌≢◌, ◌∙◌, ◌<◌, ◌≤◌, ◌^◌, ◌&&◌, ℕ, Bool, true, false, subst, List, [], ◌∷◌, length, refl, ap, codes, arith, get_or, nat_lt, nat_le, lt-ltb, le-leb}
use Rattle.std.specs.Prelude.{decimal}
use Rattle.std.specs.Fmt.{digits}
use Rattle.std.specs.Char.{digit_value}
use Rattle.std.specs.List.{list_all}
use Rattle.std.specs.Str.Parse.{AllDigits, IsNumeral, digits_value, without_leading_plus}
use Rattle.std.proofs.lemmas.Fmt.{decimal_is_IsNumeral}
use Rattle.std.proofs.lemmas.Str.Parse.{without_leading_plus_none}
use Rattle.clap.specs.ValueTests.{accepts, is_numeral}
use Rattle.clap.specs.declared.builder.value_parser.ValueParser.TheVariants as vp
use Rattle.fc_words.specs.Plain.{IsPlainText}

first_digit : (ds : List ℕ) → IsNumeral 10 ds → digit_value (get_or ds 0 0) < 10
first_digit [] h = absurd (omega (arith, h.0))
first_digit (d ∷ ds) h = h.1.0

-- a numeral begins with no sign
no_sign : (ds : List ℕ) (sign : ℕ) → IsNumeral 10 ds → digit_value sign ≡ 36 → get_or ds 0 0 ≢ sign
no_sign ds sign h e same = let below : digit_value sign < 10 = subst (λ n. digit_value n < 10) same (first_digit ds h) in omega (arith, below, e)

plain_numeral : (ds : List ℕ) → IsNumeral 10 ds → IsPlainText ds
plain_numeral [] h = omega (arith, h.0)
plain_numeral (d ∷ ds) h = no_sign (d ∷ ds) 45 h refl

bare : (n : ℕ) → n < 2 ^ 64 → without_leading_plus (decimal n) ≡ decimal n
bare n lt = without_leading_plus_none (decimal n) (no_sign (decimal n) 43 (decimal_is_IsNumeral n lt).0 refl)

-- a number is a text like that of a file
pub plain_decimal : (n : ℕ) → n < 2 ^ 64 → IsPlainText (decimal n)
plain_decimal n lt = plain_numeral (decimal n) (decimal_is_IsNumeral n lt).0

-- it is read as it was written
pub number_read : (n : ℕ) → n < 2 ^ 64 → digits_value 10 (without_leading_plus (decimal n)) ≡ n
number_read n lt = ap (digits_value 10) (bare n lt) ∙ (decimal_is_IsNumeral n lt).1

-- and accepted up to its bound
digits_pass : (ds : List ℕ) → AllDigits 10 ds → list_all (λ d. nat_lt (digit_value d) 10) ds ≡ true
digits_pass [] h = refl
digits_pass (d ∷ ds) h = ap (λ b. b && list_all (λ d. nat_lt (digit_value d) 10) ds) (lt-ltb (digit_value d) 10 h.0) ∙ digits_pass ds h.1

numeral_passes : (ds : List ℕ) → IsNumeral 10 ds → is_numeral ds ≡ true
numeral_passes ds h = ap (λ b. b && list_all (λ d. nat_lt (digit_value d) 10) ds) (lt-ltb 0 (length ds) h.0) ∙ digits_pass ds h.1

all_true : (a b c d : Bool) → a ≡ true → b ≡ true → c ≡ true → d ≡ true → (a && (b && (c && d))) ≡ true
all_true a b c d e f g h = rw (e, f, g, h) refl

pub decimal_passes : (n most : ℕ) → n ≤ most → most < 2 ^ 64 → accepts false (vp.Unsigned 0 most) (decimal n) ≡ true
decimal_passes n most le lt =
    let fits : n < 2 ^ 64 = omega arith in
    let read : digits_value 10 (without_leading_plus (decimal n)) ≡ n = number_read n fits in
    all_true _ _ _ _
    (ap is_numeral (bare n fits) ∙ numeral_passes (decimal n) (decimal_is_IsNumeral n fits).0)
    (ap (λ m. nat_lt m (2 ^ 64)) read ∙ lt-ltb n (2 ^ 64) fits)
    (ap (nat_le 0) read ∙ le-leb 0 n (omega arith))
    (ap (λ m. nat_le m most) read ∙ le-leb n most le)

-- the defaults, as they are written
pub ticks_given : codes "2000" ≡ decimal 2000
unfolding digits
ticks_given = refl

pub small_given : codes "30" ≡ decimal 30
unfolding digits
small_given = refl

pub grow_given : codes "300" ≡ decimal 300
unfolding digits
grow_given = refl
