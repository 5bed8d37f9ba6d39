-- What declarations declare: one after the other as all at once, and without the words of binders as with them.
use Rattle.std.proofs.Common.{◌≡◌, List, [], ◌∷◌, ◌++◌, map, refl, sym, ap, ◌∙◌}
use Rattle.std.proofs.lemmas.List.Concat.{flat_map-cons}
use Rattle.fc_syntax.specs.GenericTree.{Word, ConOf, Decl, DData, DNew, DFamily, DAxiom, DDef, DWrap, ModuleOf}
use Rattle.fc_model.specs.Declaring.{coercion_words, con_words, decl_word, decl_words, declared_words, ncoercion_words, ncon_words, ndecl_word, ndecl_words, ndeclared_words, nterm_words, ntype_words, nwords_by, term_words, type_words, words_by}
use Rattle.fc_model.specs.DeclaredWords.{all_behind}
use Rattle.fc_model.specs.Nameless.{NDecl}
use Rattle.fc_model.specs.Resolution.{Top, WordSet, Words, behind, no_word, no_words, ntop_of, offers_all, plus_all, top_of}
use Rattle.fc_model.specs.OfferViews.{declared_by_space}
use Rattle.fc_model.specs.Worded.{WConDecl, WDecl, WModule, bare_con, bare_decl, bare_decls, bare_module}
use Rattle.fc_model.proofs.Lists.{plus_both}

pub behind_all : {L V B : Type 0} (ds : List (Decl L V B)) (ws : Words) → all_behind ds ws ≡ record {
  types = plus_all (words_by type_words ds) ws.types;
  terms = plus_all (words_by term_words ds) ws.terms;
  coercions = plus_all (words_by coercion_words ds) ws.coercions;
}
behind_all [] ws = refl
behind_all (d ∷ ds) ws =
    behind_all ds (behind d ws)
    ∙ ap (λ s. record { types = s; terms = plus_all (words_by term_words ds) (plus_all (term_words d) ws.terms); coercions = plus_all (words_by coercion_words ds) (plus_all (coercion_words d) ws.coercions) })
    (sym (plus_both (type_words d) (words_by type_words ds) ws.types))
    ∙ ap (λ s. record { types = plus_all (type_words d ++ words_by type_words ds) ws.types; terms = s; coercions = plus_all (words_by coercion_words ds) (plus_all (coercion_words d) ws.coercions) })
    (sym (plus_both (term_words d) (words_by term_words ds) ws.terms))
    ∙ ap (λ s. record { types = plus_all (type_words d ++ words_by type_words ds) ws.types; terms = plus_all (term_words d ++ words_by term_words ds) ws.terms; coercions = s })
    (sym (plus_both (coercion_words d) (words_by coercion_words ds) ws.coercions))

-- WITHOUT THE WORDS OF BINDERS

bare_con_words : (cs : List WConDecl) → ncon_words (map bare_con cs) ≡ con_words cs
bare_con_words [] = refl
bare_con_words (ConOf n bs fields ∷ cs) = ap (λ ws. n ∷ ws) (bare_con_words cs)

bare_type_words : (d : WDecl) → ntype_words (bare_decl d) ≡ type_words d
bare_type_words (DData n ps cs) = refl
bare_type_words (DNew n ps t con) = refl
bare_type_words (DFamily n ps k) = refl
bare_type_words (DAxiom n ps t u) = refl
bare_type_words (DDef n t e) = refl
bare_type_words (DWrap n t e) = refl

bare_term_words : (d : WDecl) → nterm_words (bare_decl d) ≡ term_words d
bare_term_words (DData n ps cs) = bare_con_words cs
bare_term_words (DNew n ps t con) = refl
bare_term_words (DFamily n ps k) = refl
bare_term_words (DAxiom n ps t u) = refl
bare_term_words (DDef n t e) = refl
bare_term_words (DWrap n t e) = refl

bare_coercion_words : (d : WDecl) → ncoercion_words (bare_decl d) ≡ coercion_words d
bare_coercion_words (DData n ps cs) = refl
bare_coercion_words (DNew n ps t con) = refl
bare_coercion_words (DFamily n ps k) = refl
bare_coercion_words (DAxiom n ps t u) = refl
bare_coercion_words (DDef n t e) = refl
bare_coercion_words (DWrap n t e) = refl

bare_words_by : (f : NDecl → List Word) (g : WDecl → List Word) → ((d : WDecl) → f (bare_decl d) ≡ g d) → (ds : List WDecl) → nwords_by f (bare_decls ds) ≡ words_by g ds
bare_words_by f g same [] = refl
bare_words_by f g same (d ∷ ds) = ap (λ ws. ws ++ nwords_by f (bare_decls ds)) (same d) ∙ ap (λ ws. g d ++ ws) (bare_words_by f g same ds)

abbrev top_with : Word → WordSet → List Word → List Word → List Word → Top
top_with own imports types terms coercions =
    record { own = own; imports = imports; offers = offers_all; types = plus_all types no_word; terms = plus_all terms no_word; coercions = plus_all coercions no_word }

-- a module declares and imports the same
pub bare_top : (m : WModule) → ntop_of (bare_module m) ≡ top_of m
bare_top (ModuleOf m imports exports hidden ds) =
    let is = plus_all imports no_word in
    ap (λ ws. top_with m is ws (nwords_by nterm_words (bare_decls ds)) (nwords_by ncoercion_words (bare_decls ds))) (bare_words_by ntype_words type_words bare_type_words ds)
    ∙ ap (λ ws. top_with m is (words_by type_words ds) ws (nwords_by ncoercion_words (bare_decls ds))) (bare_words_by nterm_words term_words bare_term_words ds)
    ∙ ap (λ ws. top_with m is (words_by type_words ds) (words_by term_words ds) ws) (bare_words_by ncoercion_words coercion_words bare_coercion_words ds)

pub bare_decl_word : (d : WDecl) → ndecl_word (bare_decl d) ≡ decl_word d
bare_decl_word (DData n ps cs) = refl
bare_decl_word (DNew n ps t con) = refl
bare_decl_word (DFamily n ps k) = refl
bare_decl_word (DAxiom n ps t u) = refl
bare_decl_word (DDef n t e) = refl
bare_decl_word (DWrap n t e) = refl

bare_decl_words : (d : WDecl) → ndecl_words (bare_decl d) ≡ decl_words d
bare_decl_words (DData n ps cs) = ap (λ ws. n ∷ ws) (bare_con_words cs)
bare_decl_words (DNew n ps t con) = refl
bare_decl_words (DFamily n ps k) = refl
bare_decl_words (DAxiom n ps t u) = refl
bare_decl_words (DDef n t e) = refl
bare_decl_words (DWrap n t e) = refl

-- declarations declare the same in any space
pub bare_declared_words : (ds : List WDecl) → ndeclared_words (bare_decls ds) ≡ declared_words ds
bare_declared_words [] = refl
bare_declared_words (d ∷ ds) =
    ap (λ ws. ws ++ ndeclared_words (bare_decls ds)) (bare_decl_words d) ∙ ap (λ ws. decl_words d ++ ws) (bare_declared_words ds) ∙ sym (flat_map-cons decl_words d ds)

-- the words of declarations by their space are those without the words of binders
pub bare_spaces : (ds : List WDecl) → all_behind ds no_words ≡ declared_by_space (bare_decls ds)
bare_spaces ds =
    behind_all ds no_words
    ∙ ap (λ ws. record { types = plus_all ws no_word; terms = plus_all (words_by term_words ds) no_word; coercions = plus_all (words_by coercion_words ds) no_word }) (sym (bare_words_by ntype_words type_words bare_type_words ds))
    ∙ ap (λ ws. record { types = plus_all (nwords_by ntype_words (bare_decls ds)) no_word; terms = plus_all ws no_word; coercions = plus_all (words_by coercion_words ds) no_word }) (sym (bare_words_by nterm_words term_words bare_term_words ds))
    ∙ ap (λ ws. record { types = plus_all (nwords_by ntype_words (bare_decls ds)) no_word; terms = plus_all (nwords_by nterm_words (bare_decls ds)) no_word; coercions = plus_all ws no_word }) (sym (bare_words_by ncoercion_words coercion_words bare_coercion_words ds))
