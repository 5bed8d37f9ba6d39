-- The words of the forms and the signs are words to the grammar, and no name is one of them.
use Rattle.std.proofs.Common.{◌≡◌, ℕ, Bool, true, false, List, codes, refl, sym, ◌∙◌, ap, Option, None, if◌then◌else◌}
use Rattle.std.specs.Prelude.{[], ◌∷◌, is_none, not, option_map}
use Rattle.std.specs.List.{find, list_all}
use Rattle.std.specs.Str.{bytes_eq}
use Rattle.std.proofs.lemmas.Bool.{and_parts, not-true, true≢false}
use Rattle.std.proofs.lemmas.Slice.Eq.{bytes_eq-Decides}
use Rattle.fc_syntax.specs.declared.keyword.Keyword.{Keyword}
use Rattle.fc_syntax.specs.declared.keyword.Keyword.TheVariants as word
use Rattle.fc_syntax.specs.declared.expr.PrimOp.{PrimOp}
use Rattle.fc_syntax.specs.declared.expr.PrimOp.TheVariants as op
use Rattle.fc_syntax.specs.Tree.{Word}
use Rattle.fc_syntax.specs.Tokens.{is_module_part, is_plain_name}
use Rattle.fc_syntax.specs.Keywords.{keyword_text, keywords}
use Rattle.fc_syntax.specs.Primitives.{operator_text}
use Rattle.fc_model.specs.Words.{Key, Star, Hash, Arrow, Operator, keyword_of, sign_tok, signs}
use Rattle.fc_model.specs.Pieces.{tok_text}
use Rattle.fc_model.specs.Spelling.{operator_tok}
use Rattle.fc_printer.proofs.Lexed.{IsWord}

pub key_word : (k : Keyword) → IsWord (keyword_text k) (Key k)
unfolding keyword_of
key_word word.Module = record { plain = refl; lexed_as = λ at. refl; is = refl }
key_word k = record { plain = refl; lexed_as = λ at. refl; is = refl }

pub star_word : IsWord (codes "*") Star
unfolding keyword_of sign_tok
star_word = record { plain = refl; lexed_as = λ at. refl; is = refl }

pub hash_word : IsWord (codes "#") Hash
unfolding keyword_of sign_tok
hash_word = record { plain = refl; lexed_as = λ at. refl; is = refl }

pub arrow_word : IsWord (codes "->") Arrow
unfolding keyword_of sign_tok
arrow_word = record { plain = refl; lexed_as = λ at. refl; is = refl }

-- a primitive that is no word of a form
abbrev pub is_sign : PrimOp → Bool
is_sign op.Quot = false
is_sign op.Rem = false
is_sign o = true

pub operator_word : (o : PrimOp) → is_sign o ≡ true → IsWord (operator_text o) (Operator o)
unfolding keyword_of sign_tok
operator_word op.Quot h = absurd (true≢false (sym h))
operator_word op.Rem h = absurd (true≢false (sym h))
operator_word o h = record { plain = refl; lexed_as = λ at. refl; is = refl }

-- a word that passes a test is none that does not
unequal_at : (p : List ℕ → Bool) (w c : List ℕ) (b : Bool) → bytes_eq w c ≡ b → p w ≡ true → p c ≡ false → b ≡ false
unequal_at p w c true e h k = absurd (true≢false (sym h ∙ (ap p ((bytes_eq-Decides w c).0 e) ∙ k)))
unequal_at p w c false e h k = refl

unequal : (p : List ℕ → Bool) (w c : List ℕ) → p w ≡ true → p c ≡ false → bytes_eq w c ≡ false
unequal p w c h k = unequal_at p w c (bytes_eq w c) refl h k

skip : {X : Type 0} (b : Bool) (x o : Option X) → b ≡ false → o ≡ None → (if b then x else o) ≡ None
skip true x o e h = absurd (true≢false e)
skip false x o e h = h

-- nor is it found among words that do not pass it
none_among : {X : Type 0} (text : X → List ℕ) (p : List ℕ → Bool) (w : Word) → p w ≡ true → (xs : List X) → list_all (λ x. not (p (text x))) xs ≡ true
    → find (λ x. bytes_eq w (text x)) xs ≡ None
none_among text p w h [] a = refl
none_among text p w h (x ∷ xs) a =
    let g = and_parts (not (p (text x))) (list_all (λ y. not (p (text y))) xs) a in
    skip _ _ _ (unequal p w (text x) h (not-true (p (text x)) g.0)) (none_among text p w h xs g.1)

pub no_sign : (w : Word) → is_plain_name w ≡ true → sign_tok w ≡ None
unfolding sign_tok
no_sign w h =
    skip _ _ _ (unequal is_plain_name w (codes "*") h refl) (skip _ _ _ (unequal is_plain_name w (codes "#") h refl) (skip _ _ _ (unequal is_plain_name w (codes "->") h refl)
    (ap (option_map Operator) (none_among operator_text is_plain_name w h signs refl))))

-- no part of the name of a module is the word of a form
pub module_no_keyword : (w : Word) → is_module_part w ≡ true → is_none (keyword_of w) ≡ true
unfolding keyword_of
module_no_keyword w h = ap is_none (none_among keyword_text is_module_part w h keywords refl)

-- a primitive is written as its token is
pub operator_written : (o : PrimOp) → tok_text (operator_tok o) ≡ operator_text o
operator_written op.Plus = refl
operator_written o = refl
