-- The tokens of a text: brackets and words, with white space and comments between them.
use Rattle.std.specs.Prelude.{◌≤◌, ⊤, All, slice_range, ℕ, ℤ, ◌+◌, ◌-◌, ◌^◌, ◌==◌, ◌&&◌, ◌||◌, nat_lt, nat_le, not, Bool, false, if◌then◌else◌}
use Rattle.std.specs.Prelude.{List, [], ◌∷◌, codes, length, take, take_while, Result, Ok, Err}
use Rattle.std.specs.List.{list_all, list_any, slice_split, before_last, after_last}
use Rattle.std.specs.Str.{bytes_eq}
use Rattle.std.specs.Str.Parse.{digits_value, signed_digits_value}
use Rattle.fc_syntax.specs.declared.fault.FaultKind.{FaultKind}
use Rattle.fc_syntax.specs.declared.fault.FaultKind.TheVariants as fault
use Rattle.fc_syntax.specs.declared.token.Token.{Token}
use Rattle.fc_syntax.specs.declared.token.TokenKind.{TokenKind}
use Rattle.fc_syntax.specs.declared.token.TokenKind.TheVariants as kind

-- What a byte may do in a text. A carriage return is a blank and ends no line.
pub data ByteClass : Type 0 where
  Blank : ByteClass
  LineFeed : ByteClass
  Opening : ByteClass
  Closing : ByteClass
  Semicolon : ByteClass
  Plain : ByteClass
  Foreign : ByteClass

-- space, tab and carriage return are blank; of the printable bytes all but the brackets and the semicolon are plain; all
-- bytes that are neither printable nor white space are foreign
abbrev pub byte_class : ℕ → ByteClass
byte_class b =
    if b == 10 then LineFeed else
    if (b == 9 || b == 13) || b == 32 then Blank else
    if b == 40 then Opening else
    if b == 41 then Closing else
    if b == 59 then Semicolon else
    if nat_lt 32 b && nat_lt b 127 then Plain else Foreign

-- words are made of these
abbrev pub is_plain : ℕ → Bool
is_plain b = (nat_lt 32 b && nat_lt b 127) && not ((b == 40 || b == 41) || b == 59)

abbrev pub is_between : ℕ → ℕ → ℕ → Bool
is_between low high b = nat_le low b && nat_le b high

abbrev pub is_digit : ℕ → Bool
is_digit b = is_between 48 57 b

abbrev pub is_upper_letter : ℕ → Bool
is_upper_letter b = is_between 65 90 b

abbrev pub is_lower_letter : ℕ → Bool
is_lower_letter b = is_between 97 122 b

-- letters, digits and `_`
abbrev pub is_module_byte : ℕ → Bool
is_module_byte b = ((is_lower_letter b || is_upper_letter b) || is_digit b) || b == 95

-- letters, digits, `_`, `'`, `#` and `$`
abbrev pub is_name_byte : ℕ → Bool
is_name_byte b = ((is_module_byte b || b == 39) || b == 35) || b == 36

-- a lower or an upper name starts with one of these
abbrev pub starts_names : ℕ → Bool
starts_names b = ((is_lower_letter b || b == 95) || b == 36) || is_upper_letter b

-- a lower name starts with a lower letter, `_` or `$`
abbrev pub is_lower_name : List ℕ → Bool
is_lower_name [] = false
is_lower_name (b ∷ bs) = ((is_lower_letter b || b == 95) || b == 36) && list_all is_name_byte bs

-- an upper name starts with an upper letter
abbrev pub is_upper_name : List ℕ → Bool
is_upper_name [] = false
is_upper_name (b ∷ bs) = is_upper_letter b && list_all is_name_byte bs

-- an upper name of letters, digits and `_`
abbrev pub is_module_part : List ℕ → Bool
is_module_part [] = false
is_module_part (b ∷ bs) = is_upper_letter b && list_all is_module_byte bs

abbrev pub is_dot : ℕ → Bool
is_dot b = b == 46

-- a module name: parts joined by dots
abbrev pub is_module_name : List ℕ → Bool
is_module_name w = list_all is_module_part (slice_split is_dot w)

abbrev pub is_plain_name : List ℕ → Bool
is_plain_name w = is_lower_name w || is_upper_name w

-- a name, or a module name, a dot and a name: a word is split at its last dot
abbrev pub is_name : List ℕ → Bool
is_name w = is_plain_name (after_last is_dot w) && (not (list_any is_dot w) || is_module_name (before_last is_dot w))

-- the signs of kinds and primitives
abbrev pub signs : List (List ℕ)
signs = codes "*" ∷ codes "#" ∷ codes "->" ∷ codes "+#" ∷ codes "-#" ∷ codes "*#" ∷ codes "==#" ∷ codes "/=#" ∷ codes "<#" ∷ codes "<=#" ∷ codes ">#" ∷ codes ">=#" ∷ []

abbrev pub is_sign : List ℕ → Bool
is_sign w = list_any (λ s. bytes_eq s w) signs

abbrev pub is_digits : List ℕ → Bool
is_digits [] = false
is_digits (b ∷ bs) = is_digit b && list_all is_digit bs

-- one to nine decimal digits
abbrev pub is_number : List ℕ → Bool
is_number w = is_digits w && nat_le (length w) 9

abbrev pub starts_with_minus : List ℕ → Bool
starts_with_minus [] = false
starts_with_minus (b ∷ bs) = b == 45

abbrev pub without_minus : List ℕ → List ℕ
without_minus [] = []
without_minus (b ∷ bs) = if b == 45 then bs else b ∷ bs

abbrev pub ends_with_hash : List ℕ → Bool
ends_with_hash [] = false
ends_with_hash (b ∷ []) = b == 35
ends_with_hash (b ∷ c ∷ bs) = ends_with_hash (c ∷ bs)

-- a word without its last byte
abbrev pub without_hash : List ℕ → List ℕ
without_hash w = take (length w - 1) w

-- a literal: a minus where there is one, decimal digits, `#`
abbrev pub is_literal : List ℕ → Bool
is_literal w = ends_with_hash w && is_digits (without_minus (without_hash w))

-- its value is from -2^63 to 2^63 - 1
abbrev pub is_in_range : List ℕ → Bool
is_in_range w =
    if starts_with_minus w
    then nat_le (digits_value 10 (without_minus (without_hash w))) (2 ^ 63)
    else nat_lt (digits_value 10 (without_hash w)) (2 ^ 63)

abbrev pub literal_value : List ℕ → ℤ
literal_value w = signed_digits_value 10 (without_hash w)

-- a fault at a byte of a file
pub record ByteFault : Type 0 where
  pub kind : FaultKind
  pub at : ℕ

-- what the word that starts at a byte is
abbrev pub word_kind : ℕ → List ℕ → Result TokenKind ByteFault
word_kind at w =
    if is_literal w then
    (if is_in_range w then Ok (kind.Literal (literal_value w)) else Err (record { kind = fault.LiteralRange; at = at }))
    else if is_number w then Ok (kind.Number (digits_value 10 w))
    else if is_name w || is_sign w then Ok kind.Word
    else Err (record { kind = fault.BadToken; at = at })

-- a token: the byte at which it starts, its bytes and what it is
pub record Lexeme : Type 0 where
  pub from : ℕ
  pub text : List ℕ
  pub kind : TokenKind

-- a token before those that follow, unless one of the two is faulty; of two faults the first counts
abbrev pub then_lexemes : Result Lexeme ByteFault → Result (List Lexeme) ByteFault → Result (List Lexeme) ByteFault
then_lexemes (Err f) rest = Err f
then_lexemes (Ok t) (Err f) = Err f
then_lexemes (Ok t) (Ok ts) = Ok (t ∷ ts)

abbrev pub as_lexeme : ℕ → List ℕ → Result TokenKind ByteFault → Result Lexeme ByteFault
as_lexeme at w (Err f) = Err f
as_lexeme at w (Ok k) = Ok (record { from = at; text = w; kind = k })

-- the word that starts at a byte
abbrev pub word_lexeme : ℕ → List ℕ → Result Lexeme ByteFault
word_lexeme at w = as_lexeme at w (word_kind at w)

-- what stands before a byte: nothing that goes on, a word that goes on, or a comment of its line
pub data Preceding : Type 0 where
  Between : Preceding
  InWord : Preceding
  InComment : Preceding

-- what a byte does: it is passed over, is a bracket, is the first byte of a word, or may not stand in a text
pub data Move : Type 0 where
  Passes : (after : Preceding) → Move
  IsBracket : (kind : TokenKind) → Move
  StartsWord : Move
  Breaks : Move

-- a byte that is in no comment, by what a plain byte does there
abbrev pub move_outside : Move → ByteClass → Move
move_outside plain Blank = Passes Between
move_outside plain LineFeed = Passes Between
move_outside plain Opening = IsBracket kind.Open
move_outside plain Closing = IsBracket kind.Close
move_outside plain Semicolon = Passes InComment
move_outside plain Plain = plain
move_outside plain Foreign = Breaks

-- a comment goes from a semicolon to the end of its line
abbrev pub move : Preceding → ByteClass → Move
move InComment LineFeed = Passes Between
move InComment Foreign = Breaks
move InComment c = Passes InComment
move Between c = move_outside StartsWord c
move InWord c = move_outside (Passes InWord) c

-- The tokens of a text whose first byte has this number, by what stands before it. A word is the longest run of plain bytes.
abbrev pub lexed : Preceding → ℕ → List ℕ → Result (List Lexeme) ByteFault
lexed s at [] = Ok []
lexed s at (b ∷ bs) = elim (move s (byte_class b)) [
  | Passes after ↦ lexed after (at + 1) bs
  | IsBracket k ↦ then_lexemes (Ok (record { from = at; text = b ∷ []; kind = k })) (lexed Between (at + 1) bs)
  | StartsWord ↦ then_lexemes (word_lexeme at (take_while is_plain (b ∷ bs))) (lexed InWord (at + 1) bs)
  | Breaks ↦ Err (record { kind = fault.BadByte; at = at })
]

-- the tokens of a text in their order, or the first byte or word that is no part of one
abbrev pub tokens_of : List ℕ → Result (List Lexeme) ByteFault
tokens_of bytes = lexed Between 0 bytes

-- a token of src by the bytes that it is a slice of
abbrev pub lexeme_of : List ℕ → Token → Lexeme
lexeme_of bytes t = record { from = t.from; text = slice_range bytes t.from t.to; kind = t.kind }

-- each token is a slice of the bytes
abbrev pub AreSlices : List ℕ → List Token → Type 0
AreSlices bytes ts = All (λ t. (t.from ≤ t.to) × (t.to ≤ length bytes)) ts

-- each token ends before the next begins
abbrev pub AreInOrder : List Token → Type 0
AreInOrder [] = ⊤
AreInOrder (t ∷ []) = ⊤
AreInOrder (t ∷ u ∷ ts) = (t.to ≤ u.from) × AreInOrder (u ∷ ts)
