-- Where each of some modules tells all that it declares, what one declares in a space it has for others.
use Rattle.std.proofs.Common.{◌≡◌, ◌∙◌, All, true, bytes_eq, List, [], ◌∷◌, refl, sym, subst}
use Rattle.std.specs.List.{list_all}
use Rattle.std.proofs.Math.Bool.{or_comm}
use Rattle.std.proofs.lemmas.Bool.{and_parts}
use Rattle.std.proofs.lemmas.List.Elements.{All-head, All-tail}
use Rattle.std.proofs.lemmas.List.Folds.{list_all-append}
use Rattle.fc_syntax.specs.Tree.{Word}
use Rattle.fc_model.specs.Declaring.{ncoercion_words, ndecl_words, ndeclared_words, nterm_words, ntype_words, nwords_by}
use Rattle.fc_model.specs.Kinding.{decls_of_module}
use Rattle.fc_model.specs.Linting.{offered_by, told_by}
use Rattle.fc_model.specs.Nameless.{NDecl, NData, NNew, NFamily, NAxiom, NDef, NWrap, NModule, NModuleOf}
use Rattle.fc_model.specs.Planning.{is_among}
use Rattle.fc_model.specs.Resolution.{WordSet, no_word, plus, plus_all}
use Rattle.fc_model.proofs.Lists.{words_alone, words_put_in}
use Rattle.fc_model.proofs.Sameness.{bytes_eq_eq, false_true}
use Rattle.fc_model.proofs.UnderHeader.{all_of_both, both}
use Rattle.fc_used_words.proofs.Keeping.{by_test}
use Rattle.fc_written_sets.specs.WrittenSets.{TellsAll}

-- SETS OF WORDS

-- where words put in all pass, and those that were there do, each does
each_passes : (f : WordSet) (ws : List Word) (s : WordSet) (w : Word) → list_all f ws ≡ true → (s w ≡ true → f w ≡ true) → plus_all ws s w ≡ true → f w ≡ true
each_passes f [] s w h before has = before has
each_passes f (v ∷ vs) s w h before has =
    let p = and_parts (f v) (list_all f vs) h in
    each_passes f vs (plus v s) w p.1
    (λ here. by_test (bytes_eq v w) (λ same. subst (λ u. f u ≡ true) (bytes_eq_eq v w same) p.0) (λ other. before (rw other at here))) has

-- words of two lists are put in in either order
in_either_order : (vs ws : List Word) (w : Word) → plus_all vs (plus_all ws no_word) w ≡ plus_all ws (plus_all vs no_word) w
in_either_order vs ws w =
    rw (words_put_in vs (plus_all ws no_word) w, words_put_in ws (plus_all vs no_word) w, words_alone vs w, words_alone ws w) (or_comm (is_among vs w) (is_among ws w))

-- WORDS OF DECLARATIONS

-- words of each declaration that are among all its words
pub record AreItsOwn (words : NDecl → List Word) : Type 0 where
  pub pass : (f : WordSet) (d : NDecl) → list_all f (ndecl_words d) ≡ true → list_all f (words d) ≡ true

-- those of each space are
by_space : (f : WordSet) (d : NDecl) → list_all f (ndecl_words d) ≡ true → (list_all f (ntype_words d) ≡ true) × (list_all f (nterm_words d) ≡ true) × (list_all f (ncoercion_words d) ≡ true)
by_space f (NData n ps cs) h = let p = and_parts (f n) _ h in (rw p.0 refl, p.1, refl)
by_space f (NNew n ps t con) h = let p = and_parts (f n) _ h in (rw p.0 refl, refl, p.1)
by_space f (NFamily n ps k) h = (h, refl, refl)
by_space f (NAxiom n ps t u) h = (refl, refl, h)
by_space f (NDef n t e) h = (refl, h, refl)
by_space f (NWrap n t e) h = (refl, h, refl)

pub own_types : AreItsOwn ntype_words
own_types = record { pass = λ f d h. (by_space f d h).0 }

pub own_terms : AreItsOwn nterm_words
own_terms = record { pass = λ f d h. (by_space f d h).1 }

pub own_coercions : AreItsOwn ncoercion_words
own_coercions = record { pass = λ f d h. (by_space f d h).2 }

-- WHAT MODULES HAVE FOR OTHERS

module _ (words : NDecl → List Word) (own : AreItsOwn words) where
  all_pass : (f : WordSet) (ds : List NDecl) → list_all f (ndeclared_words ds) ≡ true → list_all f (nwords_by words ds) ≡ true
  all_pass f [] h = refl
  all_pass f (d ∷ ds) h =
      let p = and_parts (list_all f (ndecl_words d)) (list_all f (ndeclared_words ds)) (sym (list_all-append f (ndecl_words d) (ndeclared_words ds)) ∙ h) in
      all_of_both f (words d) (nwords_by words ds) (own.pass f d p.0) (all_pass f ds p.1)

  declared_is_told : (ns : List NModule) (m w : Word) → All TellsAll ns → plus_all (nwords_by words (decls_of_module ns m)) no_word w ≡ true → told_by ns m w ≡ true
  declared_is_told [] m w tell h = h
  declared_is_told (NModuleOf n imports exports hidden ds ∷ ns) m w tell h =
      let first = NModuleOf n imports exports hidden ds in
      let told = plus_all hidden (plus_all exports no_word) in
      let all = all_pass told ds (All-head TellsAll first ns tell) in
      by_test (bytes_eq n m)
      (λ same. rw same (in_either_order exports hidden w ∙ each_passes told (nwords_by words ds) no_word w all (λ none. false_true none) (rw same at h)))
      (λ other. rw other (declared_is_told ns m w (All-tail TellsAll first ns tell) (rw other at h)))

  pub declared_is_offered : (ns : List NModule) (m w : Word) → All TellsAll ns → plus_all (nwords_by words (decls_of_module ns m)) no_word w ≡ true → offered_by words ns m w ≡ true
  declared_is_offered ns m w tell h = both (told_by ns m w) (plus_all (nwords_by words (decls_of_module ns m)) no_word w) (declared_is_told ns m w tell h) h
