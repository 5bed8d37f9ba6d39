-- What resolves declares each word once in each space, and its nameless form declares the same words.
use Rattle.std.proofs.Common.{◌≡◌, List, ◌∷◌, ◌++◌, refl, ap}
use Rattle.fc_syntax.specs.Tree.{Word, ConDecl, Decl, ModuleOf}
use Rattle.fc_model.specs.Declaring.{con_words, coercion_words, ncoercion_words, ncon_words, nterm_words, ntype_words, nwords_by, term_words, type_words, words_by}
use Rattle.fc_model.specs.Nameless.{NConDecl, NDecl, NModuleOf}
use Rattle.fc_model.specs.Resolution.{Locals, Top, WordSet, Words, ntop_of, plus_all, top_of}
use Rattle.fc_model.specs.ResolutionRules.{AreDistinct, no_words_left, one_word_more, ResolvesCons, resolves_no_constructors, resolves_constructors}
use Rattle.fc_model.specs.ResolutionRules.{resolves_data, resolves_newtype, resolves_family, resolves_equation, resolves_def, resolves_wrap, ResolvesDecls, resolves_no_decls, resolves_decls}

module _ {top : Top} where
  -- EACH WORD ONCE

  pub types_distinct : {ws : Words} {ds : List Decl} {cs : List NDecl} → ResolvesDecls top ws ds cs → AreDistinct ws.types (nwords_by ntype_words cs)
  types_distinct resolves_no_decls = no_words_left
  types_distinct (resolves_decls (resolves_data new ps bs) rest) = one_word_more new (types_distinct rest)
  types_distinct (resolves_decls (resolves_newtype new ps t con) rest) = one_word_more new (types_distinct rest)
  types_distinct (resolves_decls (resolves_family new ps) rest) = one_word_more new (types_distinct rest)
  types_distinct (resolves_decls (resolves_equation new ps t u) rest) = types_distinct rest
  types_distinct (resolves_decls (resolves_def new t e) rest) = types_distinct rest
  types_distinct (resolves_decls (resolves_wrap new t e) rest) = types_distinct rest

  constructors_distinct : {s : Locals} {earlier : WordSet} {cs : List ConDecl} {ds : List NConDecl} {more : List Word} → ResolvesCons top s earlier cs ds
      → AreDistinct (plus_all (con_words cs) earlier) more → AreDistinct earlier (ncon_words ds ++ more)
  constructors_distinct resolves_no_constructors h = h
  constructors_distinct (resolves_constructors new bs ts rest) h = one_word_more new (constructors_distinct rest h)

  pub terms_distinct : {ws : Words} {ds : List Decl} {cs : List NDecl} → ResolvesDecls top ws ds cs → AreDistinct ws.terms (nwords_by nterm_words cs)
  terms_distinct resolves_no_decls = no_words_left
  terms_distinct (resolves_decls (resolves_data new ps bs) rest) = constructors_distinct bs (terms_distinct rest)
  terms_distinct (resolves_decls (resolves_newtype new ps t con) rest) = terms_distinct rest
  terms_distinct (resolves_decls (resolves_family new ps) rest) = terms_distinct rest
  terms_distinct (resolves_decls (resolves_equation new ps t u) rest) = terms_distinct rest
  terms_distinct (resolves_decls (resolves_def new t e) rest) = one_word_more new (terms_distinct rest)
  terms_distinct (resolves_decls (resolves_wrap new t e) rest) = one_word_more new (terms_distinct rest)

  pub coercions_distinct : {ws : Words} {ds : List Decl} {cs : List NDecl} → ResolvesDecls top ws ds cs → AreDistinct ws.coercions (nwords_by ncoercion_words cs)
  coercions_distinct resolves_no_decls = no_words_left
  coercions_distinct (resolves_decls (resolves_data new ps bs) rest) = coercions_distinct rest
  coercions_distinct (resolves_decls (resolves_newtype new ps t con) rest) = one_word_more con (coercions_distinct rest)
  coercions_distinct (resolves_decls (resolves_family new ps) rest) = coercions_distinct rest
  coercions_distinct (resolves_decls (resolves_equation new ps t u) rest) = one_word_more new (coercions_distinct rest)
  coercions_distinct (resolves_decls (resolves_def new t e) rest) = coercions_distinct rest
  coercions_distinct (resolves_decls (resolves_wrap new t e) rest) = coercions_distinct rest

  -- THE SAME WORDS

  type_words_same : {ws : Words} {ds : List Decl} {cs : List NDecl} → ResolvesDecls top ws ds cs → words_by type_words ds ≡ nwords_by ntype_words cs
  type_words_same resolves_no_decls = refl
  type_words_same (resolves_decls (resolves_data {n = n} new ps bs) rest) = ap (λ xs. n ∷ xs) (type_words_same rest)
  type_words_same (resolves_decls (resolves_newtype {n = n} new ps t con) rest) = ap (λ xs. n ∷ xs) (type_words_same rest)
  type_words_same (resolves_decls (resolves_family {n = n} new ps) rest) = ap (λ xs. n ∷ xs) (type_words_same rest)
  type_words_same (resolves_decls (resolves_equation new ps t u) rest) = type_words_same rest
  type_words_same (resolves_decls (resolves_def new t e) rest) = type_words_same rest
  type_words_same (resolves_decls (resolves_wrap new t e) rest) = type_words_same rest

  constructors_same : {s : Locals} {earlier : WordSet} {cs : List ConDecl} {ds : List NConDecl} {xs ys : List Word} → ResolvesCons top s earlier cs ds → xs ≡ ys
      → con_words cs ++ xs ≡ ncon_words ds ++ ys
  constructors_same resolves_no_constructors e = e
  constructors_same (resolves_constructors {n = n} new bs ts rest) e = ap (λ ws. n ∷ ws) (constructors_same rest e)

  term_words_same : {ws : Words} {ds : List Decl} {cs : List NDecl} → ResolvesDecls top ws ds cs → words_by term_words ds ≡ nwords_by nterm_words cs
  term_words_same resolves_no_decls = refl
  term_words_same (resolves_decls (resolves_data new ps bs) rest) = constructors_same bs (term_words_same rest)
  term_words_same (resolves_decls (resolves_newtype new ps t con) rest) = term_words_same rest
  term_words_same (resolves_decls (resolves_family new ps) rest) = term_words_same rest
  term_words_same (resolves_decls (resolves_equation new ps t u) rest) = term_words_same rest
  term_words_same (resolves_decls (resolves_def {n = n} new t e) rest) = ap (λ xs. n ∷ xs) (term_words_same rest)
  term_words_same (resolves_decls (resolves_wrap {n = n} new t e) rest) = ap (λ xs. n ∷ xs) (term_words_same rest)

  coercion_words_same : {ws : Words} {ds : List Decl} {cs : List NDecl} → ResolvesDecls top ws ds cs → words_by coercion_words ds ≡ nwords_by ncoercion_words cs
  coercion_words_same resolves_no_decls = refl
  coercion_words_same (resolves_decls (resolves_data new ps bs) rest) = coercion_words_same rest
  coercion_words_same (resolves_decls (resolves_newtype {con = con} new ps t is_new) rest) = ap (λ xs. con ∷ xs) (coercion_words_same rest)
  coercion_words_same (resolves_decls (resolves_family new ps) rest) = coercion_words_same rest
  coercion_words_same (resolves_decls (resolves_equation {n = n} new ps t u) rest) = ap (λ xs. n ∷ xs) (coercion_words_same rest)
  coercion_words_same (resolves_decls (resolves_def new t e) rest) = coercion_words_same rest
  coercion_words_same (resolves_decls (resolves_wrap new t e) rest) = coercion_words_same rest

  pub same_top : (m : Word) (imports exports hidden : List Word) {ws : Words} {ds : List Decl} {cs : List NDecl} → ResolvesDecls top ws ds cs
      → top_of (ModuleOf m imports exports hidden ds) ≡ ntop_of (NModuleOf m imports exports hidden cs)
  same_top m imports exports hidden rules = rw (type_words_same rules, term_words_same rules, coercion_words_same rules) refl
