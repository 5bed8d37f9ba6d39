-- The tokens of a text: each name is one that is no word of a form, and each literal and number in range.
use Rattle.std.proofs.Common.{◌≡◌, ◌+◌, ◌-◌, ◌^◌, ℕ, ℤ, bytes_eq, codes, is_none, Bool, true, false, not, ◌&&◌, ◌||◌, nat_lt, List, [], ◌∷◌, map, Option, Some, None, Result, Ok, Err, if◌then◌else◌, arith, ltb-true, lt-ltb, refl, sym, ◌∙◌, subst}
use Rattle.std.specs.Prelude.{⊤, option_map, pos, negsuc, take_while, FitsSigned}
use Rattle.std.specs.Str.Parse.{digits_value}
use mir.Syntax.{w64}
use Rattle.fc_lex.proofs.Literals.{literal_parses, number_short}
use Rattle.fc_syntax.specs.declared.fault.FaultKind.TheVariants as fault
use Rattle.fc_syntax.specs.declared.token.TokenKind.{TokenKind}
use Rattle.fc_syntax.specs.declared.token.TokenKind.TheVariants as kind
use Rattle.fc_syntax.specs.Tokens.{ByteFault, ByteClass, Blank, LineFeed, Opening, Closing, Semicolon, Plain, Foreign, Lexeme, Preceding, InComment, Passes, IsBracket, StartsWord, Breaks, Move, Between, InWord, byte_class, move, lexed, is_plain, word_kind, word_lexeme, as_lexeme, then_lexemes, tokens_of}
use Rattle.fc_syntax.specs.Tokens.{is_in_range, is_literal, is_lower_name, is_name, is_number, is_sign, is_upper_name, is_module_name, is_dot, literal_value}
use Rattle.fc_syntax.specs.declared.expr.PrimOp.{PrimOp}
use Rattle.fc_syntax.specs.declared.keyword.Keyword.{Keyword}
use Rattle.std.specs.List.{list_any, before_last, after_last}
use Rattle.fc_model.specs.Words.{Tok, Lower, Upper, LowerOf, UpperOf, Operator, Literal, Number, Other, keyword_of, sign_among, sign_tok, signs, name_in_tok, sign_or_name, undotted_tok, dotted_tok, word_tok, tok_at, tok_of}
use Rattle.fc_model.specs.Formed.{is_lower_word, is_upper_word, is_literal_formed}

-- a name is one that is no word of a form, and a literal and a number are in range
abbrev pub IsGood : Tok → Type 0
IsGood (Lower w) = is_lower_word w ≡ true
IsGood (Upper w) = is_upper_word w ≡ true
IsGood (LowerOf m w) = (is_module_name m ≡ true) × (is_lower_word w ≡ true)
IsGood (UpperOf m w) = (is_module_name m ≡ true) × (is_upper_word w ≡ true)
IsGood (Literal n) = is_literal_formed n ≡ true
IsGood (Number n) = nat_lt n (10 ^ 9) ≡ true
IsGood _ = ⊤

abbrev pub AreGood : List Tok → Type 0
AreGood [] = ⊤
AreGood (t ∷ ts) = IsGood t × AreGood ts

and_none : {p : Bool} {o : Option Keyword} → p ≡ true → o ≡ None → (p && is_none o) ≡ true
and_none e h = cc

name_good : (w : List ℕ) (p q : Bool) → keyword_of w ≡ None → is_lower_name w ≡ p → is_upper_name w ≡ q → IsGood (if p then Lower w else if q then Upper w else Other)
name_good w true q e l u = and_none l e
name_good w false true e l u = and_none u e
name_good w false false e l u = tt

name_in_good : (m w : List ℕ) (p q : Bool) → is_module_name m ≡ true → keyword_of w ≡ None → is_lower_name w ≡ p → is_upper_name w ≡ q
    → IsGood (if p then LowerOf m w else if q then UpperOf m w else Other)
name_in_good m w true q g e l u = (g, and_none l e)
name_in_good m w false true g e l u = (g, and_none u e)
name_in_good m w false false g e l u = tt

dotted_good : (o : Option Keyword) (m w : List ℕ) → keyword_of w ≡ o → IsGood (dotted_tok o m w)
dotted_good (Some k) m w e = tt
dotted_good None m w e = in_module (is_module_name m) refl where
  in_module : (b : Bool) → is_module_name m ≡ b → IsGood (if b then name_in_tok m w else Other)
  in_module true g = name_in_good m w (is_lower_name w) (is_upper_name w) g e refl refl
  in_module false g = tt

-- a sign is no name
abbrev IsGoodSign : Option Tok → Type 0
IsGoodSign None = ⊤
IsGoodSign (Some t) = IsGood t

first_good : (t : Tok) (o : Option Tok) (b : Bool) → IsGood t → IsGoodSign o → IsGoodSign (if b then Some t else o)
first_good t o true g h = g
first_good t o false g h = h

operator_good : (o : Option PrimOp) → IsGoodSign (option_map Operator o)
operator_good None = tt
operator_good (Some o) = tt

sign_good : (w : List ℕ) → IsGoodSign (sign_tok w)
unfolding sign_tok
sign_good w =
    first_good _ _ (bytes_eq w (codes "*")) tt (first_good _ _ (bytes_eq w (codes "#")) tt (first_good _ _ (bytes_eq w (codes "->")) tt
    (operator_good (sign_among signs w))))

sign_or_name_good : (o : Option Tok) (w : List ℕ) → IsGoodSign o → keyword_of w ≡ None → IsGood (sign_or_name o w)
sign_or_name_good (Some t) w g e = g
sign_or_name_good None w g e = name_good w (is_lower_name w) (is_upper_name w) e refl refl

undotted_good : (o : Option Keyword) (w : List ℕ) → keyword_of w ≡ o → IsGood (undotted_tok o w)
undotted_good (Some k) w e = tt
undotted_good None w e = sign_or_name_good (sign_tok w) w (sign_good w) e

word_good : (w : List ℕ) → IsGood (word_tok w)
word_good w = by (list_any is_dot w) where
  by : (b : Bool) → IsGood (if b then dotted_tok (keyword_of (after_last is_dot w)) (before_last is_dot w) (after_last is_dot w) else undotted_tok (keyword_of w) w)
  by true = dotted_good (keyword_of (after_last is_dot w)) (before_last is_dot w) (after_last is_dot w) refl
  by false = undotted_good (keyword_of w) w refl

-- ---- what the tokens of a text are

abbrev IsGoodKind : TokenKind → Type 0
IsGoodKind (kind.Literal n) = is_literal_formed n ≡ true
IsGoodKind (kind.Number n) = nat_lt n (10 ^ 9) ≡ true
IsGoodKind _ = ⊤

abbrev AreGoodKinds : List Lexeme → Type 0
AreGoodKinds [] = ⊤
AreGoodKinds (t ∷ ts) = IsGoodKind t.kind × AreGoodKinds ts

abbrev GoodWhereOk : Result (List Lexeme) ByteFault → Type 0
GoodWhereOk (Ok ts) = AreGoodKinds ts
GoodWhereOk (Err f) = ⊤

abbrev GoodKindWhereOk : Result TokenKind ByteFault → Type 0
GoodKindWhereOk (Ok k) = IsGoodKind k
GoodKindWhereOk (Err f) = ⊤

abbrev GoodTokenWhereOk : Result Lexeme ByteFault → Type 0
GoodTokenWhereOk (Ok t) = IsGoodKind t.kind
GoodTokenWhereOk (Err f) = ⊤

then_good : (t : Result Lexeme ByteFault) (ts : Result (List Lexeme) ByteFault) → GoodTokenWhereOk t → GoodWhereOk ts → GoodWhereOk (then_lexemes t ts)
then_good (Err f) ts g h = tt
then_good (Ok t) (Err f) g h = tt
then_good (Ok t) (Ok ts) g h = (g, h)

fits_formed : (z : ℤ) → FitsSigned w64 z → is_literal_formed z ≡ true
fits_formed (pos n) f = lt-ltb n (2 ^ 63) f.sfits
fits_formed (negsuc n) f = not_below (nat_lt (2 ^ 63 - 1) n) refl where
  not_below : (b : Bool) → nat_lt (2 ^ 63 - 1) n ≡ b → (not b && true) ≡ true
  not_below false e = refl
  not_below true e = absurd (omega (arith, ltb-true (2 ^ 63 - 1) n e, f.sfits))

literal_good : (w : List ℕ) → is_literal w ≡ true → is_in_range w ≡ true → is_literal_formed (literal_value w) ≡ true
literal_good w l r = decided (is_literal_formed (literal_value w)) refl where
  apart : true ≡ false → ⊥
  apart e = cc

  decided : (b : Bool) → is_literal_formed (literal_value w) ≡ b → is_literal_formed (literal_value w) ≡ true
  decided true e = e
  decided false e = absurd (literal_parses {E = ℕ} w (Err 0) l (λ p. apart (sym (fits_formed (literal_value w) p.1) ∙ e)) r)

kind_where : (l r n m : Bool) (v : ℤ) (k : ℕ) (f g : ByteFault) → (l ≡ true → r ≡ true → is_literal_formed v ≡ true) → (n ≡ true → nat_lt k (10 ^ 9) ≡ true)
    → GoodKindWhereOk (if l then (if r then Ok (kind.Literal v) else Err f) else if n then Ok (kind.Number k) else if m then Ok kind.Word else Err g)
kind_where true true n m v k f g h i = h refl refl
kind_where true false n m v k f g h i = tt
kind_where false r true m v k f g h i = i refl
kind_where false r false true v k f g h i = tt
kind_where false r false false v k f g h i = tt

kind_good : (at : ℕ) (w : List ℕ) → GoodKindWhereOk (word_kind at w)
kind_good at w = kind_where (is_literal w) (is_in_range w) (is_number w) (is_name w || is_sign w) (literal_value w) (digits_value 10 w) (record { kind = fault.LiteralRange; at = at }) (record { kind = fault.BadToken; at = at }) (literal_good w) (λ n. lt-ltb (digits_value 10 w) (10 ^ 9) (number_short w n))

token_good : (at : ℕ) (w : List ℕ) (k : Result TokenKind ByteFault) → GoodKindWhereOk k → GoodTokenWhereOk (as_lexeme at w k)
token_good at w (Ok k) h = h
token_good at w (Err f) h = tt

abbrev IsGoodMove : Move → Type 0
IsGoodMove (IsBracket k) = IsGoodKind k
IsGoodMove _ = ⊤

move_good : (s : Preceding) (c : ByteClass) → IsGoodMove (move s c)
move_good InComment LineFeed = tt
move_good InComment Foreign = tt
move_good InComment _ = tt
move_good Between Blank = tt
move_good Between LineFeed = tt
move_good Between Opening = tt
move_good Between Closing = tt
move_good Between Semicolon = tt
move_good Between Plain = tt
move_good Between Foreign = tt
move_good InWord Blank = tt
move_good InWord LineFeed = tt
move_good InWord Opening = tt
move_good InWord Closing = tt
move_good InWord Semicolon = tt
move_good InWord Plain = tt
move_good InWord Foreign = tt

moved_good : (at : ℕ) (b : ℕ) (bs : List ℕ) → ((s : Preceding) → GoodWhereOk (lexed s (at + 1) bs)) → (m : Move) → IsGoodMove m → GoodWhereOk (elim m as (λ _. Result (List Lexeme) ByteFault) [
  | Passes after ↦ lexed after (at + 1) bs
  | IsBracket k ↦ then_lexemes (Ok (record { from = at; text = b ∷ []; kind = k })) (lexed Between (at + 1) bs)
  | StartsWord ↦ then_lexemes (word_lexeme at (take_while is_plain (b ∷ bs))) (lexed InWord (at + 1) bs)
  | Breaks ↦ Err (record { kind = fault.BadByte; at = at })
])
moved_good at b bs ih (Passes after) h = ih after
moved_good at b bs ih (IsBracket k) h = then_good (Ok (record { from = at; text = b ∷ []; kind = k })) (lexed Between (at + 1) bs) h (ih Between)
moved_good at b bs ih StartsWord h =
    let w = take_while is_plain (b ∷ bs) in
    then_good (word_lexeme at w) (lexed InWord (at + 1) bs) (token_good at w (word_kind at w) (kind_good at w)) (ih InWord)
moved_good at b bs ih Breaks h = tt

lexed_good : (s : Preceding) (at : ℕ) (bs : List ℕ) → GoodWhereOk (lexed s at bs)
lexed_good s at [] = tt
lexed_good s at (b ∷ bs) = moved_good at b bs (λ t. lexed_good t (at + 1) bs) (move s (byte_class b)) (move_good s (byte_class b))

good_at : (k : TokenKind) (w : List ℕ) → IsGoodKind k → IsGood (tok_at k w)
good_at kind.Open w h = tt
good_at kind.Close w h = tt
good_at kind.Word w h = word_good w
good_at (kind.Literal n) w h = h
good_at (kind.Number n) w h = h

good_toks : (ts : List Lexeme) → AreGoodKinds ts → AreGood (map tok_of ts)
good_toks [] h = tt
good_toks (t ∷ ts) h = (good_at t.kind t.text h.0, good_toks ts h.1)

-- the tokens of a text are good
pub tokens_good : (bytes : List ℕ) (ts : List Lexeme) → tokens_of bytes ≡ Ok ts → AreGood (map tok_of ts)
tokens_good bytes ts e = good_toks ts (subst GoodWhereOk e (lexed_good Between 0 bytes))
