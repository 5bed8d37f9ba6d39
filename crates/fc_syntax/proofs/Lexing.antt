-- The tokens of a text, taken a byte, a word or a comment at a time.
use Rattle.std.proofs.Common.{◌≡◌, ℕ, ◌+◌, true, false, List, [], ◌∷◌, ◌++◌, length, refl, sym, ◌∙◌, ap, arith, add-zero, cond}
use Rattle.std.specs.Prelude.{Result, Ok, Err, ⊤}
use Rattle.std.specs.List.{list_all, take_while}
use Rattle.std.proofs.lemmas.Bool.{and_parts, true≢false}
use Rattle.std.proofs.lemmas.Bool.Decides.{nat_tests}
use Rattle.std.proofs.lemmas.List.Sums.{take_while-cons}
use Rattle.fc_syntax.specs.declared.fault.FaultKind.TheVariants as fault
use Rattle.fc_syntax.specs.declared.token.TokenKind.{TokenKind}
use Rattle.fc_syntax.specs.Tokens.{as_lexeme, word_kind, ByteClass, Blank, LineFeed, Opening, Closing, Semicolon, Plain, Foreign, byte_class, is_plain, ByteFault, Lexeme, then_lexemes, word_lexeme, Preceding, Between, InWord, Move, Passes, IsBracket, StartsWord, Breaks, move, lexed}

-- what follows a move
abbrev pub moved : ℕ → ℕ → List ℕ → Move → Result (List Lexeme) ByteFault
moved at b bs m = elim m [
  | Passes after ↦ lexed after (at + 1) bs
  | IsBracket k ↦ then_lexemes (Ok (record { from = at; text = b ∷ []; kind = k })) (lexed Between (at + 1) bs)
  | StartsWord ↦ then_lexemes (word_lexeme at (take_while is_plain (b ∷ bs))) (lexed InWord (at + 1) bs)
  | Breaks ↦ Err (record { kind = fault.BadByte; at = at })
]

-- a text by the class of its first byte
pub lexed_first : (s : Preceding) (at b : ℕ) (bs : List ℕ) (c : ByteClass) → byte_class b ≡ c → lexed s at (b ∷ bs) ≡ moved at b bs (move s c)
lexed_first s at b bs c e = ap (λ c. moved at b bs (move s c)) e

-- plain bytes are of the class of that name
pub plain_class : (b : ℕ) → is_plain b ≡ true → byte_class b ≡ Plain
plain_class b h = grind (arith, nat_tests)

pub class_plain : (b : ℕ) → byte_class b ≡ Plain → is_plain b ≡ true
class_plain b h = grind (arith, nat_tests)

-- outside words a byte that is not plain does what it does at the end of a word
pub same_outside : (c : ByteClass) → (c ≡ Plain → ⊥) → move InWord c ≡ move Between c
same_outside Blank h = refl
same_outside LineFeed h = refl
same_outside Opening h = refl
same_outside Closing h = refl
same_outside Semicolon h = refl
same_outside Plain h = absurd (h refl)
same_outside Foreign h = refl

-- a text that is empty or begins with a byte that is not plain
abbrev pub StartsApart : List ℕ → Type 0
StartsApart [] = ⊤
StartsApart (b ∷ bs) = is_plain b ≡ false

-- a word has ended there
pub lexed_apart : (at : ℕ) (rest : List ℕ) → StartsApart rest → lexed InWord at rest ≡ lexed Between at rest
lexed_apart at [] h = refl
lexed_apart at (b ∷ bs) h = ap (moved at b bs) (same_outside (byte_class b) (λ e. true≢false (sym (class_plain b e) ∙ h)))

-- the rest of a word
pub lexed_in_word : (at : ℕ) (w rest : List ℕ) → list_all is_plain w ≡ true → StartsApart rest → lexed InWord at (w ++ rest) ≡ lexed Between (at + length w) rest
lexed_in_word at [] rest p h = rw add-zero (lexed_apart at rest h)
lexed_in_word at (b ∷ w) rest p h =
    let parts = and_parts (is_plain b) (list_all is_plain w) p in
    let e : at + 1 + length w ≡ at + length (b ∷ w) = omega arith in
    lexed_first InWord at b (w ++ rest) Plain (plain_class b parts.0) ∙ (lexed_in_word (at + 1) w rest parts.1 h ∙ ap (λ n. lexed Between n rest) e)

-- the longest run of plain bytes
pub take_while_word : (w rest : List ℕ) → list_all is_plain w ≡ true → StartsApart rest → take_while is_plain (w ++ rest) ≡ w
take_while_word [] [] p h = refl
take_while_word [] (b ∷ bs) p h = rw h refl
take_while_word (b ∷ w) rest p h =
    let parts = and_parts (is_plain b) (list_all is_plain w) p in
    take_while-cons is_plain b (w ++ rest) ∙ (ap (λ t. cond t (b ∷ take_while is_plain (w ++ rest)) []) parts.0 ∙ ap (λ xs. b ∷ xs) (take_while_word w rest parts.1 h))

-- A word and what follows it.
pub lexed_word : (at : ℕ) (b : ℕ) (w rest : List ℕ) → list_all is_plain (b ∷ w) ≡ true → StartsApart rest
    → lexed Between at ((b ∷ w) ++ rest) ≡ then_lexemes (word_lexeme at (b ∷ w)) (lexed Between (at + length (b ∷ w)) rest)
lexed_word at b w rest p h =
    let parts = and_parts (is_plain b) (list_all is_plain w) p in
    let e : at + 1 + length w ≡ at + length (b ∷ w) = omega arith in
    lexed_first Between at b (w ++ rest) Plain (plain_class b parts.0)
    ∙ (ap (λ v. then_lexemes (word_lexeme at v) (lexed InWord (at + 1) (w ++ rest))) (take_while_word (b ∷ w) rest p h)
    ∙ ap (then_lexemes (word_lexeme at (b ∷ w))) (lexed_in_word (at + 1) w rest parts.1 h ∙ ap (λ n. lexed Between n rest) e))

-- a word that is a token, and what follows it
pub lexed_token : (at b : ℕ) (w rest : List ℕ) (k : TokenKind) → list_all is_plain (b ∷ w) ≡ true → StartsApart rest → word_kind at (b ∷ w) ≡ Ok k
    → lexed Between at ((b ∷ w) ++ rest) ≡ then_lexemes (Ok (record { from = at; text = b ∷ w; kind = k })) (lexed Between (at + length (b ∷ w)) rest)
lexed_token at b w rest k p h e =
    lexed_word at b w rest p h ∙ ap (λ r. then_lexemes (as_lexeme at (b ∷ w) r) (lexed Between (at + length (b ∷ w)) rest)) e
