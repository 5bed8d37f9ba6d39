-- The words of definitions, listed declaration by declaration.
use Rattle.std.proofs.Common.{◌≡◌, ◌∙◌, ◌+◌, ◌<◌, ℕ, Bool, ◌++◌, List, [], ◌∷◌, get_or, length, take, refl, sym, ap}
use Rattle.std.specs.List.{filter}
use Rattle.std.proofs.lemmas.List.Elements.{filter-append}
use Rattle.fc_syntax.specs.Tree.{Word}
use Rattle.fc_syntax.specs.declared.module.Decl.{Decl}
use Rattle.fc_syntax.specs.declared.ty.Ref.{Ref}
use Rattle.fc_model.specs.Nameless.{NDecl, NData, NNew, NFamily, NAxiom, NDef, NWrap}
use Rattle.fc_model.specs.NamelessView.{ndecl_of, ndecls_of}
use Rattle.fc_reaching.specs.Reaching.{defined_words}
use Rattle.fc_reaching.proofs.Mentioning.{take_item}

decls_last : (items : List (Decl ℕ Ref)) (x : Decl ℕ Ref) → ndecls_of (items ++ x ∷ []) ≡ ndecls_of items ++ ndecl_of x ∷ []
decls_last [] x = refl
decls_last (y ∷ items) x = ap (λ ds. ndecl_of y ∷ ds) (decls_last items x)

words_both : (ds es : List NDecl) → defined_words (ds ++ es) ≡ defined_words ds ++ defined_words es
words_both [] es = refl
words_both (NData n ps cs ∷ ds) es = words_both ds es
words_both (NNew n ps t con ∷ ds) es = words_both ds es
words_both (NFamily n ps k ∷ ds) es = words_both ds es
words_both (NAxiom n ps t u ∷ ds) es = words_both ds es
words_both (NDef n t e ∷ ds) es = ap (λ ws. n ∷ ws) (words_both ds es)
words_both (NWrap n t e ∷ ds) es = ap (λ ws. n ∷ ws) (words_both ds es)

-- the words of one declaration more, of which those that pass a test are listed
pub words_more : (test : Word → Bool) (items : List (Decl ℕ Ref)) (i : ℕ) (x : Decl ℕ Ref) (old new : List Word) → i < length items → x ≡ get_or items i x
    → old ≡ filter test (defined_words (ndecls_of (take i items))) → new ≡ old ++ filter test (defined_words (ndecl_of x ∷ [])) → new ≡ filter test (defined_words (ndecls_of (take (i + 1) items)))
words_more test items i x old new low is before more =
    more ∙ ap (λ ws. ws ++ filter test (defined_words (ndecl_of x ∷ []))) before
    ∙ sym (filter-append test (defined_words (ndecls_of (take i items))) (defined_words (ndecl_of x ∷ [])))
    ∙ ap (λ ws. filter test ws) (sym (words_both (ndecls_of (take i items)) (ndecl_of x ∷ [])))
    ∙ ap (λ ds. filter test (defined_words ds)) (sym (ap (λ xs. ndecls_of xs) (take_item items i x low is) ∙ decls_last (take i items) x))
