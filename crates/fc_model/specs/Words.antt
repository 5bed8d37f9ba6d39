-- What a token is to the grammar: a bracket, a word of a form, a name, a sign, or a number.
use Rattle.std.specs.Prelude.{ℕ, ℤ, List, [], ◌∷◌, codes, map, Option, Some, None, option_map, if◌then◌else◌}
use Rattle.std.specs.List.{list_any, before_last, after_last, find}
use Rattle.std.specs.Str.{bytes_eq}
use Rattle.fc_syntax.specs.declared.expr.PrimOp.{PrimOp}
use Rattle.fc_syntax.specs.declared.expr.PrimOp.TheVariants as op
use Rattle.fc_syntax.specs.declared.token.Token.{Token}
use Rattle.fc_syntax.specs.declared.token.TokenKind.{TokenKind}
use Rattle.fc_syntax.specs.declared.token.TokenKind.TheVariants as kind
use Rattle.fc_syntax.specs.Tokens.{Lexeme, is_dot, is_lower_name, is_module_name, is_upper_name, lexeme_of}
use Rattle.fc_syntax.specs.declared.keyword.Keyword.{Keyword}
use Rattle.fc_syntax.specs.Keywords.{keyword_text, keywords}
use Rattle.fc_syntax.specs.Primitives.{operator_text}

pub data Tok : Type 0 where
  Open : Tok
  Close : Tok
  Key : (k : Keyword) → Tok
  Lower : (w : List ℕ) → Tok
  Upper : (w : List ℕ) → Tok
  -- a name in a module, which stands before the last dot
  LowerOf : (m w : List ℕ) → Tok
  UpperOf : (m w : List ℕ) → Tok
  Star : Tok
  Hash : Tok
  Arrow : Tok
  Operator : (op : PrimOp) → Tok
  Literal : (n : ℤ) → Tok
  Number : (n : ℕ) → Tok
  -- a word of a form behind a dot
  Other : Tok

-- the words that stand first in a form, and the other words that are no names: the one of these that is written so
abbrev pub keyword_among : List Keyword → List ℕ → Option Keyword
keyword_among ks w = find (λ k. bytes_eq w (keyword_text k)) ks

unfoldable pub keyword_of : List ℕ → Option Keyword
keyword_of w = keyword_among keywords w

-- the primitives that are signs; the other two are words of forms
abbrev pub signs : List PrimOp
signs = op.Plus ∷ op.Minus ∷ op.Times ∷ op.Eq ∷ op.Ne ∷ op.Lt ∷ op.Le ∷ op.Gt ∷ op.Ge ∷ []

abbrev pub sign_among : List PrimOp → List ℕ → Option PrimOp
sign_among os w = find (λ o. bytes_eq w (operator_text o)) os

-- the signs of kinds and primitives, which are neither names nor words of forms
unfoldable pub sign_tok : List ℕ → Option Tok
sign_tok w =
    if bytes_eq w (codes "*") then Some Star else
    if bytes_eq w (codes "#") then Some Hash else
    if bytes_eq w (codes "->") then Some Arrow else
    option_map Operator (sign_among signs w)

-- a name, by its case
abbrev pub name_tok : List ℕ → Tok
name_tok w = if is_lower_name w then Lower w else if is_upper_name w then Upper w else Other

-- a name in a module
abbrev pub name_in_tok : List ℕ → List ℕ → Tok
name_in_tok m w = if is_lower_name w then LowerOf m w else if is_upper_name w then UpperOf m w else Other

-- a word without a dot
abbrev pub sign_or_name : Option Tok → List ℕ → Tok
sign_or_name (Some t) w = t
sign_or_name None w = name_tok w

abbrev pub undotted_tok : Option Keyword → List ℕ → Tok
undotted_tok (Some k) w = Key k
undotted_tok None w = sign_or_name (sign_tok w) w

-- what stands before the last dot and behind it; a word of a form is no name behind a dot either
abbrev pub dotted_tok : Option Keyword → List ℕ → List ℕ → Tok
dotted_tok (Some k) m w = Other
dotted_tok None m w = if is_module_name m then name_in_tok m w else Other

abbrev pub word_tok : List ℕ → Tok
word_tok w =
    if list_any is_dot w
    then dotted_tok (keyword_of (after_last is_dot w)) (before_last is_dot w) (after_last is_dot w)
    else undotted_tok (keyword_of w) w

-- a token by its kind and its bytes
abbrev pub tok_at : TokenKind → List ℕ → Tok
tok_at kind.Open w = Open
tok_at kind.Close w = Close
tok_at kind.Word w = word_tok w
tok_at (kind.Literal n) w = Literal n
tok_at (kind.Number n) w = Number n

abbrev pub tok_of : Lexeme → Tok
tok_of t = tok_at t.kind t.text

-- the tokens of src as the grammar sees them
abbrev pub toks : List ℕ → List Token → List Tok
toks bytes ts = map (λ t. tok_of (lexeme_of bytes t)) ts
