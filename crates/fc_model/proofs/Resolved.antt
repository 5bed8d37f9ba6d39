-- A nameless form declares the same words.
use Rattle.std.proofs.Common.{◌≡◌, ℕ, ◌+◌, not, List, [], ◌∷◌, ◌++◌, map, length, Result, Ok, Err, refl, ap, ◌∙◌, subst}
use Rattle.std.proofs.lemmas.List.Concat.{flat_map-cons}
use Rattle.fc_syntax.specs.Hints.{param_hint, plain_hint}
use Rattle.fc_syntax.specs.declared.fault.FaultKind.TheVariants.{Duplicate}
use Rattle.fc_syntax.specs.Tree.{Word, Ty}
use Rattle.fc_syntax.specs.Tree.{ConDecl, ConOf, Decl, DData, DNew, DFamily, DAxiom, DDef, DWrap}
use Rattle.fc_model.specs.Declaring.{con_words, decl_word, decl_words, declared_words, ncon_words, ndecl_words, ndeclared_words}
use Rattle.fc_model.specs.Faulting.{F, At, need, within}
use Rattle.fc_model.specs.Nameless.{NArg, NArgs, MoreNArgs}
use Rattle.fc_model.specs.Nameless.{NConDecl, NDecl}
use Rattle.fc_model.specs.Resolution.{Top, Locals, WordSet, Words, behind, distinct_params, enter_all, in_params, no_locals, no_word, no_words}
use Rattle.fc_model.specs.Resolution.{plus, resolved_binders, resolved_con, resolved_cons, resolved_decl, resolved_decls}
use Rattle.fc_model.specs.Resolution.{resolved_expr, resolved_ty, resolved_tys, then_arg, then_item}
use Rattle.fc_model.proofs.Parts.{and_then_inv, err_ok, need_inv, ok_ok, part}

pub then_item_inv : {Y : Type 0} (y : Y) (r : Result (List Y) F) (ys : List Y) → then_item y r ≡ Ok ys → (rest : List Y) × (r ≡ Ok rest) × (y ∷ rest ≡ ys)
then_item_inv y (Ok rest) ys h = (rest, refl, ok_ok h)
then_item_inv y (Err f) ys h = err_ok h

pub then_arg_inv : (a : NArg) (r : Result NArgs F) (args : NArgs) → then_arg a r ≡ Ok args → (rest : NArgs) × (r ≡ Ok rest) × (MoreNArgs a rest ≡ args)
then_arg_inv a (Ok rest) args h = (rest, refl, ok_ok h)
then_arg_inv a (Err f) args h = err_ok h

pub within_inv : {X : Type 0} (w : Word) (r : Result X F) (x : X) → within w r ≡ Ok x → r ≡ Ok x
within_inv w (Ok y) x h = h
within_inv w (Err (At kind def path)) x h = err_ok h

module _ (top : Top) where
  con_has_word : (s : Locals) (n : Word) (bs : List _) (fields : List Ty) (u : NConDecl) → resolved_con top s (ConOf n bs fields) ≡ Ok u → (ws : List Word)
      → (cs : List NConDecl) → ws ≡ ncon_words cs → n ∷ ws ≡ ncon_words (u ∷ cs)
  con_has_word s n bs fields u h ws cs rest =
      let p = and_then_inv (resolved_binders top s no_words 0 bs) _ u h in
      let q = and_then_inv (resolved_tys top (enter_all bs s).types (length bs) fields) _ u p.2 in
      subst (λ x. n ∷ ws ≡ ncon_words (x ∷ cs)) (ok_ok q.2) (ap (λ x. n ∷ x) rest)

  cons_have_words : (s : Locals) (earlier : WordSet) (i : ℕ) (cs : List ConDecl) (us : List NConDecl) → resolved_cons top s earlier i cs ≡ Ok us
      → con_words cs ≡ ncon_words us
  cons_have_words s earlier i [] us h = subst (λ x. [] ≡ ncon_words x) (ok_ok h) refl
  cons_have_words s earlier i (ConOf n bs fields ∷ cs) us h =
      let p = part i (need (not (earlier n)) Duplicate (resolved_con top s (ConOf n bs fields))) _ us h in
      let c = need_inv (not (earlier n)) _ _ p.0 p.1 in
      let q = then_item_inv p.0 (resolved_cons top s (plus n earlier) (i + 1) cs) us p.2 in
      subst (λ x. n ∷ con_words cs ≡ ncon_words x) q.2
      (con_has_word s n bs fields p.0 c.1 (con_words cs) q.0 (cons_have_words s (plus n earlier) (i + 1) cs q.0 q.1))

  decl_has_words : (ws : Words) (d : Decl) (u : NDecl) → resolved_decl top ws d ≡ Ok u → decl_words d ≡ ndecl_words u
  decl_has_words ws (DData n ps cs) u h =
      let p = need_inv (not (ws.types n)) _ _ u h in
      let q = and_then_inv (distinct_params no_word 0 (map param_hint ps)) _ u p.1 in
      let r = and_then_inv (resolved_cons top (in_params (map param_hint ps)) ws.terms q.0 cs) _ u q.2 in
      subst (λ x. n ∷ con_words cs ≡ ndecl_words x) (ok_ok r.2)
      (ap (λ x. n ∷ x) (cons_have_words (in_params (map param_hint ps)) ws.terms q.0 cs r.0 r.1))
  decl_has_words ws (DNew n ps t con) u h =
      let p = need_inv (not (ws.types n)) _ _ u h in
      let q = and_then_inv (distinct_params no_word 0 (map param_hint ps)) _ u p.1 in
      let r = part q.0 (resolved_ty top (in_params (map param_hint ps)).types t) _ u q.2 in
      let v = need_inv (not (ws.coercions con)) _ _ u r.2 in
      subst (λ x. n ∷ con ∷ [] ≡ ndecl_words x) (ok_ok v.1) refl
  decl_has_words ws (DFamily n ps k) u h =
      let p = need_inv (not (ws.types n)) _ _ u h in
      let q = and_then_inv (distinct_params no_word 0 (map plain_hint ps)) _ u p.1 in
      subst (λ x. n ∷ [] ≡ ndecl_words x) (ok_ok q.2) refl
  decl_has_words ws (DAxiom n ps t s) u h =
      let p = need_inv (not (ws.coercions n)) _ _ u h in
      let q = and_then_inv (distinct_params no_word 0 (map plain_hint ps)) _ u p.1 in
      let r = part q.0 (resolved_ty top (in_params (map plain_hint ps)).types t) _ u q.2 in
      let v = part (q.0 + 1) (resolved_ty top (in_params (map plain_hint ps)).types s) _ u r.2 in
      subst (λ x. n ∷ [] ≡ ndecl_words x) (ok_ok v.2) refl
  decl_has_words ws (DDef n t e) u h =
      let p = need_inv (not (ws.terms n)) _ _ u h in
      let q = part 0 (resolved_ty top [] t) _ u p.1 in
      let r = part 1 (resolved_expr top no_locals e) _ u q.2 in
      subst (λ x. n ∷ [] ≡ ndecl_words x) (ok_ok r.2) refl
  decl_has_words ws (DWrap n t e) u h =
      let p = need_inv (not (ws.terms n)) _ _ u h in
      let q = part 0 (resolved_ty top [] t) _ u p.1 in
      let r = part 1 (resolved_expr top no_locals e) _ u q.2 in
      subst (λ x. n ∷ [] ≡ ndecl_words x) (ok_ok r.2) refl

  pub decls_have_words : (ws : Words) (ds : List Decl) (us : List NDecl) → resolved_decls top ws ds ≡ Ok us → declared_words ds ≡ ndeclared_words us
  decls_have_words ws [] us h = subst (λ x. [] ≡ ndeclared_words x) (ok_ok h) refl
  decls_have_words ws (d ∷ ds) us h =
      let p = and_then_inv (within (decl_word d) (resolved_decl top ws d)) _ us h in
      let q = then_item_inv p.0 (resolved_decls top (behind d ws) ds) us p.2 in
      let first = decl_has_words ws d p.0 (within_inv (decl_word d) (resolved_decl top ws d) p.0 p.1) in
      subst (λ x. declared_words (d ∷ ds) ≡ ndeclared_words x) q.2
      (flat_map-cons decl_words d ds ∙ ap (λ x. x ++ declared_words ds) first ∙ ap (λ x. ndecl_words p.0 ++ x) (decls_have_words (behind d ws) ds q.0 q.1))
