-- Texts by their tokens, put together from their ends.
use Rattle.std.proofs.Common.{◌≡◌, ℕ, ◌+◌, true, List, [], ◌∷◌, ◌++◌, length, map, refl, ◌∙◌, ap, subst, arith, ℤ}
use Rattle.std.specs.Prelude.{Ok}
use Rattle.std.specs.Fmt.{signed_decimal}
use Rattle.std.specs.List.{list_all}
use Rattle.std.proofs.lemmas.Int.{ints}
use mir.Syntax.{w64}
use mir.Val.{SFits}
use Rattle.fc_syntax.specs.declared.token.TokenKind.{TokenKind}
use Rattle.fc_syntax.specs.declared.token.TokenKind.TheVariants as kind
use Rattle.fc_syntax.specs.Tokens.{Lexeme, Between, lexed, then_lexemes, word_kind, is_plain}
use Rattle.fc_syntax.proofs.Lexing.{StartsApart, lexed_token}
use Rattle.fc_lex.proofs.Printed.{literal_plain, printed_literal}
use Rattle.fc_model.specs.Words.{Tok, Open, Close, Literal, tok_at, tok_of, word_tok}
use Rattle.fc_model.specs.Pieces.{literal_text}
use Rattle.fc_model.specs.Formed.{is_literal_formed}

-- wherever the text stands, its tokens are these to the grammar
pub record ReadsAt (at : ℕ) (text : List ℕ) (ts : List Tok) : Type 0 where
  pub lexemes : List Lexeme
  pub is : lexed Between at text ≡ Ok lexemes
  pub toks : map tok_of lexemes ≡ ts

abbrev pub Reads : List ℕ → List Tok → Type 0
Reads text ts = (at : ℕ) → ReadsAt at text ts

pub reads_nothing : Reads [] []
reads_nothing at = record { lexemes = []; is = refl; toks = refl }

pub reads_open : (text : List ℕ) (ts : List Tok) → Reads text ts → Reads (40 ∷ text) (Open ∷ ts)
reads_open text ts r at =
    let h = r (at + 1) in
    let first : Lexeme = record { from = at; text = 40 ∷ []; kind = kind.Open } in
    record { lexemes = first ∷ h.lexemes; is = ap (then_lexemes (Ok first)) h.is; toks = ap (λ x. Open ∷ x) h.toks }

pub reads_close : (text : List ℕ) (ts : List Tok) → Reads text ts → Reads (41 ∷ text) (Close ∷ ts)
reads_close text ts r at =
    let h = r (at + 1) in
    let first : Lexeme = record { from = at; text = 41 ∷ []; kind = kind.Close } in
    record { lexemes = first ∷ h.lexemes; is = ap (then_lexemes (Ok first)) h.is; toks = ap (λ x. Close ∷ x) h.toks }

pub reads_space : (text : List ℕ) (ts : List Tok) → Reads text ts → Reads (32 ∷ text) ts
reads_space text ts r at = let h = r (at + 1) in record { lexemes = h.lexemes; is = h.is; toks = h.toks }

pub reads_line_feed : (text : List ℕ) (ts : List Tok) → Reads text ts → Reads (10 ∷ text) ts
reads_line_feed text ts r at = let h = r (at + 1) in record { lexemes = h.lexemes; is = h.is; toks = h.toks }

-- a word that is a token of a kind
pub reads_token : (b : ℕ) (w text : List ℕ) (ts : List Tok) (k : TokenKind) → list_all is_plain (b ∷ w) ≡ true → ((at : ℕ) → word_kind at (b ∷ w) ≡ Ok k)
    → StartsApart text → Reads text ts → Reads ((b ∷ w) ++ text) (tok_at k (b ∷ w) ∷ ts)
reads_token b w text ts k plain is_kind apart r at =
    let h = r (at + length (b ∷ w)) in
    let first : Lexeme = record { from = at; text = b ∷ w; kind = k } in
    record {
      lexemes = first ∷ h.lexemes;
      is = lexed_token at b w text k plain apart (is_kind at) ∙ ap (then_lexemes (Ok first)) h.is;
      toks = ap (λ x. tok_at k (b ∷ w) ∷ x) h.toks;
    }

-- a word that is this token to the grammar
pub record IsWord (w : List ℕ) (t : Tok) : Type 0 where
  pub plain : list_all is_plain w ≡ true
  pub lexed_as : (at : ℕ) → word_kind at w ≡ Ok kind.Word
  pub is : word_tok w ≡ t

no_word : word_kind 0 [] ≡ Ok kind.Word → ⊥
no_word e = cc

pub reads_word : (w text : List ℕ) (t : Tok) (ts : List Tok) → IsWord w t → StartsApart text → Reads text ts → Reads (w ++ text) (t ∷ ts)
reads_word [] text t ts h apart r = absurd (no_word (h.lexed_as 0))
reads_word (b ∷ w) text t ts h apart r = subst (λ x. Reads ((b ∷ w) ++ text) (x ∷ ts)) h.is (reads_token b w text ts kind.Word h.plain h.lexed_as apart r)

-- literals
literal_fits : (n : ℤ) → is_literal_formed n ≡ true → SFits w64 n
literal_fits n h = grind (arith, ints)

reads_hashed : (n : ℤ) (w text : List ℕ) (ts : List Tok) → list_all is_plain (w ++ 35 ∷ []) ≡ true → ((at : ℕ) → word_kind at (w ++ 35 ∷ []) ≡ Ok (kind.Literal n))
    → StartsApart text → Reads text ts → Reads ((w ++ 35 ∷ []) ++ text) (Literal n ∷ ts)
reads_hashed n [] text ts plain is_kind apart r = reads_token 35 [] text ts (kind.Literal n) plain is_kind apart r
reads_hashed n (b ∷ bs) text ts plain is_kind apart r = reads_token b (bs ++ 35 ∷ []) text ts (kind.Literal n) plain is_kind apart r

pub reads_literal : (n : ℤ) (text : List ℕ) (ts : List Tok) → is_literal_formed n ≡ true → StartsApart text → Reads text ts → Reads (literal_text n ++ text) (Literal n ∷ ts)
reads_literal n text ts h apart r =
    let fits = literal_fits n h in
    reads_hashed n (signed_decimal n) text ts (literal_plain n fits) (λ at. printed_literal at n fits) apart r
