-- A renamed module declares the words that it declared, and has the nameless form, or the first fault of names, that it had.
use Rattle.std.proofs.Common.{◌≡◌, ℕ, ◌+◌, not, List, [], ◌∷◌, map, length, Ok, refl, ap, ◌∙◌}
use Rattle.std.proofs.lemmas.List.{length-map}
use Rattle.fc_syntax.specs.Hints.{param_hint, plain_hint}
use Rattle.fc_syntax.specs.declared.fault.FaultKind.TheVariants.{Duplicate}
use Rattle.fc_syntax.specs.Tree.{Word, Ty, Param, ParamOf, Plain, PlainOf, ConDecl, ConOf, Decl, DData, DNew, DFamily, DAxiom, DDef, DWrap, Module, ModuleOf}
use Rattle.fc_model.specs.Declaring.{coercion_words, con_words, decl_word, term_words, type_words, words_by}
use Rattle.fc_model.specs.Faulting.{need, under, within}
use Rattle.fc_model.specs.Nameless.{NAxiom, NData, NFamily, NNew}
use Rattle.fc_model.specs.Resolution.{Top, Locals, WordSet, Words, behind, distinct_params, enter_all, in_params, no_locals, no_word, no_words}
use Rattle.fc_model.specs.Resolution.{plus, resolved_con, resolved_cons, resolved_decl, resolved_decls, resolved_or_fault, resolved_ty, resolved_tys}
use Rattle.fc_model.specs.Resolution.{then_item, top_of}
use Rattle.fc_model.proofs.Parts.{both_same, under_same}
use Rattle.fc_meaning.specs.Renaming.{DeclKeepsFree, DeclsKeepFree, IsInjective, ModuleKeepsFree, Renaming, renamed_binder, renamed_con, renamed_decl, renamed_module, renamed_param, renamed_plain, renamed_ty}
use Rattle.fc_meaning.proofs.RenamingScopes.{Follows, enter_all_renamed, map-reverse, plus_follows, renamed_locals}
use Rattle.fc_meaning.proofs.RenamingTypes.{binders_same, ty_same, tys_same}
use Rattle.fc_meaning.proofs.RenamingExpressions.{expr_same, none_follow}
use Rattle.fc_model.specs.Worded.{bare_param, bare_plain}

module _ (f : Renaming) where
  -- WORDS THAT ARE DECLARED

  con_words_same : (cs : List ConDecl) → con_words (map (renamed_con f) cs) ≡ con_words cs
  con_words_same [] = refl
  con_words_same (ConOf n bs fields ∷ cs) = ap (λ ws. n ∷ ws) (con_words_same cs)

  type_words_same : (d : Decl) → type_words (renamed_decl f d) ≡ type_words d
  type_words_same (DData n ps cs) = refl
  type_words_same (DNew n ps t con) = refl
  type_words_same (DFamily n ps k) = refl
  type_words_same (DAxiom n ps t u) = refl
  type_words_same (DDef n t e) = refl
  type_words_same (DWrap n t e) = refl

  term_words_same : (d : Decl) → term_words (renamed_decl f d) ≡ term_words d
  term_words_same (DData n ps cs) = con_words_same cs
  term_words_same (DNew n ps t con) = refl
  term_words_same (DFamily n ps k) = refl
  term_words_same (DAxiom n ps t u) = refl
  term_words_same (DDef n t e) = refl
  term_words_same (DWrap n t e) = refl

  coercion_words_same : (d : Decl) → coercion_words (renamed_decl f d) ≡ coercion_words d
  coercion_words_same (DData n ps cs) = refl
  coercion_words_same (DNew n ps t con) = refl
  coercion_words_same (DFamily n ps k) = refl
  coercion_words_same (DAxiom n ps t u) = refl
  coercion_words_same (DDef n t e) = refl
  coercion_words_same (DWrap n t e) = refl

  words_same : (words : Decl → List Word) → ((d : Decl) → words (renamed_decl f d) ≡ words d) → (ds : List Decl) → words_by words (map (renamed_decl f) ds) ≡ words_by words ds
  words_same words each [] = refl
  words_same words each (d ∷ ds) = rw (each d, words_same words each ds) refl

  top_same : (m : Module) → top_of (renamed_module f m) ≡ top_of m
  top_same (ModuleOf m imports exports hidden ds) =
      rw (words_same type_words type_words_same ds, words_same term_words term_words_same ds, words_same coercion_words coercion_words_same ds) refl

  behind_same : (d : Decl) (ws : Words) → behind (renamed_decl f d) ws ≡ behind d ws
  behind_same d ws = rw (type_words_same d, term_words_same d, coercion_words_same d) refl

  decl_word_same : (d : Decl) → decl_word (renamed_decl f d) ≡ decl_word d
  decl_word_same (DData n ps cs) = refl
  decl_word_same (DNew n ps t con) = refl
  decl_word_same (DFamily n ps k) = refl
  decl_word_same (DAxiom n ps t u) = refl
  decl_word_same (DDef n t e) = refl
  decl_word_same (DWrap n t e) = refl

  -- PARAMETERS

  param_words : (ps : List Param) → map param_hint (map (renamed_param f) ps) ≡ map f (map param_hint ps)
  param_words [] = refl
  param_words (ParamOf a k r ∷ ps) = ap (λ xs. f a ∷ xs) (param_words ps)

  plain_words : (ps : List Plain) → map plain_hint (map (renamed_plain f) ps) ≡ map f (map plain_hint ps)
  plain_words [] = refl
  plain_words (PlainOf a k ∷ ps) = ap (λ xs. f a ∷ xs) (plain_words ps)

  nparams_same : (ps : List Param) → map bare_param (map (renamed_param f) ps) ≡ map bare_param ps
  nparams_same [] = refl
  nparams_same (ParamOf a k r ∷ ps) = ap (λ xs. bare_param (ParamOf a k r) ∷ xs) (nparams_same ps)

  kinds_same : (ps : List Plain) → map bare_plain (map (renamed_plain f) ps) ≡ map bare_plain ps
  kinds_same [] = refl
  kinds_same (PlainOf a k ∷ ps) = ap (λ xs. k ∷ xs) (kinds_same ps)

  in_params_renamed : (ps : List Word) → in_params (map f ps) ≡ renamed_locals f (in_params ps)
  in_params_renamed ps = ap (λ xs. record no_locals { types = xs }) (map-reverse f ps)

module _ (f : Renaming) (inj : IsInjective f) where
  distinct_same : (new old : WordSet) (i : ℕ) (ps : List Word) → Follows f new old → distinct_params new i (map f ps) ≡ distinct_params old i ps
  distinct_same new old i [] h = refl
  distinct_same new old i (a ∷ ps) h =
      both_same _ _ _ _ (ap (λ x. under i (need (not x) Duplicate (Ok i))) (h a)) (λ j.
      distinct_same (plus (f a) new) (plus a old) (i + 1) ps (plus_follows f inj a new old h))

  params_same : (ps : List Param) → distinct_params no_word 0 (map param_hint (map (renamed_param f) ps)) ≡ distinct_params no_word 0 (map param_hint ps)
  params_same ps = ap (distinct_params no_word 0) (param_words f ps) ∙ distinct_same no_word no_word 0 (map param_hint ps) (λ w. refl)

  plains_same : (ps : List Plain) → distinct_params no_word 0 (map plain_hint (map (renamed_plain f) ps)) ≡ distinct_params no_word 0 (map plain_hint ps)
  plains_same ps = ap (distinct_params no_word 0) (plain_words f ps) ∙ distinct_same no_word no_word 0 (map plain_hint ps) (λ w. refl)

  in_param_types : (ps : List Param) → in_params (map param_hint (map (renamed_param f) ps)) ≡ renamed_locals f (in_params (map param_hint ps))
  in_param_types ps = ap in_params (param_words f ps) ∙ in_params_renamed f (map param_hint ps)

  in_plain_types : (ps : List Plain) → in_params (map plain_hint (map (renamed_plain f) ps)) ≡ renamed_locals f (in_params (map plain_hint ps))
  in_plain_types ps = ap in_params (plain_words f ps) ∙ in_params_renamed f (map plain_hint ps)

  module _ (top : Top) where
    -- CONSTRUCTORS

    con_same : (s : Locals) (c : ConDecl) → resolved_con top (renamed_locals f s) (renamed_con f c) ≡ resolved_con top s c
    con_same s (ConOf n bs fields) =
        both_same _ _ _ _ (binders_same f inj top s no_words no_words 0 bs (none_follow f)) (λ cs.
        both_same _ _ _ _ (
        ap (λ x. resolved_tys top x.types (length (map (renamed_binder f) bs)) (map (renamed_ty f) fields)) (enter_all_renamed f bs s)
        ∙ ap (λ n. resolved_tys top (map f (enter_all bs s).types) n (map (renamed_ty f) fields)) (length-map bs (renamed_binder f))
        ∙ tys_same f inj top (enter_all bs s).types (length bs) fields)
        (λ ts. refl))

    cons_same : (s : Locals) (earlier : WordSet) (i : ℕ) (cs : List ConDecl) → resolved_cons top (renamed_locals f s) earlier i (map (renamed_con f) cs) ≡ resolved_cons top s earlier i cs
    cons_same s earlier i [] = refl
    cons_same s earlier i (ConOf n bs fields ∷ cs) =
        both_same _ _ _ _ (ap (λ x. under i (need (not (earlier n)) Duplicate x)) (con_same s (ConOf n bs fields))) (λ c.
        ap (then_item c) (cons_same s (plus n earlier) (i + 1) cs))

    -- DECLARATIONS

    in_params_same : (ps : List Param) (t : Ty) → resolved_ty top (in_params (map param_hint (map (renamed_param f) ps))).types (renamed_ty f t) ≡ resolved_ty top (in_params (map param_hint ps)).types t
    in_params_same ps t = ap (λ s. resolved_ty top s.types (renamed_ty f t)) (in_param_types ps) ∙ ty_same f inj top (in_params (map param_hint ps)).types t

    in_plains_same : (ps : List Plain) (t : Ty) → resolved_ty top (in_params (map plain_hint (map (renamed_plain f) ps))).types (renamed_ty f t) ≡ resolved_ty top (in_params (map plain_hint ps)).types t
    in_plains_same ps t = ap (λ s. resolved_ty top s.types (renamed_ty f t)) (in_plain_types ps) ∙ ty_same f inj top (in_params (map plain_hint ps)).types t

    decl_same : (ws : Words) (d : Decl) → DeclKeepsFree f d → resolved_decl top ws (renamed_decl f d) ≡ resolved_decl top ws d
    decl_same ws (DData n ps cs) h =
        ap (need (not (ws.types n)) Duplicate) (both_same _ _ _ _ (params_same ps) (λ i.
        both_same _ _ _ _ (
        ap (λ s. resolved_cons top s ws.terms i (map (renamed_con f) cs)) (in_param_types ps)
        ∙ cons_same (in_params (map param_hint ps)) ws.terms i cs)
        (λ ds. ap (λ qs. Ok (NData n qs ds)) (nparams_same f ps))))
    decl_same ws (DNew n ps t con) h =
        ap (need (not (ws.types n)) Duplicate) (both_same _ _ _ _ (params_same ps) (λ i.
        both_same _ _ _ _ (under_same i _ _ (in_params_same ps t)) (λ a.
        ap (λ qs. need (not (ws.coercions con)) Duplicate (Ok (NNew n qs a con))) (nparams_same f ps))))
    decl_same ws (DFamily n ps k) h =
        ap (need (not (ws.types n)) Duplicate) (both_same _ _ _ _ (plains_same ps) (λ i. ap (λ qs. Ok (NFamily n qs k)) (kinds_same f ps)))
    decl_same ws (DAxiom n ps t u) h =
        ap (need (not (ws.coercions n)) Duplicate) (both_same _ _ _ _ (plains_same ps) (λ i.
        both_same _ _ _ _ (under_same i _ _ (in_plains_same ps t)) (λ a.
        both_same _ _ _ _ (under_same (i + 1) _ _ (in_plains_same ps u)) (λ b.
        ap (λ qs. Ok (NAxiom n qs a b)) (kinds_same f ps)))))
    decl_same ws (DDef n t e) h = rw (ty_same f inj top [] t, expr_same f inj top no_locals e h) refl
    decl_same ws (DWrap n t e) h = rw (ty_same f inj top [] t, expr_same f inj top no_locals e h) refl

    decls_same : (ws : Words) (ds : List Decl) → DeclsKeepFree f ds → resolved_decls top ws (map (renamed_decl f) ds) ≡ resolved_decls top ws ds
    decls_same ws [] h = refl
    decls_same ws (d ∷ ds) h =
        both_same _ _ _ _ (
        ap (λ w. within w (resolved_decl top ws (renamed_decl f d))) (decl_word_same f d)
        ∙ ap (within (decl_word d)) (decl_same ws d h.0))
        (λ c. ap (then_item c) (ap (λ x. resolved_decls top x (map (renamed_decl f) ds)) (behind_same f d ws) ∙ decls_same (behind d ws) ds h.1))

pub renamed_same : (f : Renaming) (m : Module) → IsInjective f → ModuleKeepsFree f m → resolved_or_fault (renamed_module f m) ≡ resolved_or_fault m
renamed_same f (ModuleOf m imports exports hidden ds) inj h =
    both_same _ _ _ _ (
    ap (λ t. resolved_decls t no_words (map (renamed_decl f) ds)) (top_same f (ModuleOf m imports exports hidden ds))
    ∙ decls_same f inj (top_of (ModuleOf m imports exports hidden ds)) no_words ds h)
    (λ cs. refl)
