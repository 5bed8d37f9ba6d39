-- The function gives a module a nameless form just where the rules do.
use Rattle.std.proofs.Common.{◌≡◌, ◌↔◌, ℕ, ◌+◌, not, List, [], ◌∷◌, map, length, Ok, refl, sym, ap, ◌∙◌, subst}
use Rattle.std.proofs.lemmas.Bool.{not-true}
use Rattle.fc_syntax.specs.Hints.{param_hint, plain_hint}
use Rattle.fc_syntax.specs.declared.fault.FaultKind.TheVariants.{Duplicate}
use Rattle.fc_syntax.specs.Tree.{Word, ConDecl, ConOf, Decl, DData, DNew, DFamily, DAxiom, DDef, DWrap, Module, ModuleOf}
use Rattle.fc_model.specs.Declaring.{decl_word}
use Rattle.fc_model.specs.Faulting.{need, within}
use Rattle.fc_model.specs.Nameless.{NConDecl, NDecl, NModule}
use Rattle.fc_model.specs.Resolution.{Top, Locals, WordSet, Words, no_locals, no_word, no_words, behind, distinct_params, enter_all, in_params}
use Rattle.fc_model.specs.Resolution.{plus, top_of}
use Rattle.fc_model.specs.Resolution.{resolved_binders, resolved_con, resolved_cons, resolved_decl, resolved_decls, resolved_expr, resolved_or_fault, resolved_ty, resolved_tys}
use Rattle.fc_model.specs.ResolutionRules.{AreDistinct, no_words_left, one_word_more, ResolvesCons, resolves_no_constructors, resolves_constructors}
use Rattle.fc_model.specs.ResolutionRules.{ResolvesDecl, resolves_data, resolves_newtype, resolves_family, resolves_equation, resolves_def, resolves_wrap}
use Rattle.fc_model.specs.ResolutionRules.{ResolvesDecls, resolves_no_decls, resolves_decls, Resolves, resolves_module}
use Rattle.fc_model.proofs.Parts.{and_then_inv, need_inv, ok_ok, part}
use Rattle.fc_model.proofs.Resolved.{then_item_inv, within_inv}
use Rattle.fc_model.proofs.ResolvedExpressionsAre.{expr_is_resolved, resolved_expr_is}
use Rattle.fc_model.proofs.ResolvedTypesAre.{binders_are_resolved, resolved_binders_are, resolved_ty_is, resolved_tys_are, ty_is_resolved, tys_are_resolved}

-- PARAMETERS

-- words that are all different are counted
pub words_are_distinct : {earlier : WordSet} {ws : List Word} (i : ℕ) → AreDistinct earlier ws → (n : ℕ) × (distinct_params earlier i ws ≡ Ok n)
words_are_distinct i no_words_left = (i, refl)
words_are_distinct i (one_word_more new rest) = let p = words_are_distinct (i + 1) rest in (p.0, rw new p.1)

-- words that are counted are all different
pub distinct_words_are : (earlier : WordSet) (i : ℕ) (ws : List Word) (n : ℕ) → distinct_params earlier i ws ≡ Ok n → AreDistinct earlier ws
distinct_words_are earlier i [] n h = no_words_left
distinct_words_are earlier i (w ∷ ws) n h =
    let p = part i (need (not (earlier w)) Duplicate (Ok i)) _ n h in
    let q = need_inv (not (earlier w)) _ _ p.0 p.1 in
    one_word_more (not-true (earlier w) q.0) (distinct_words_are (plus w earlier) (i + 1) ws n p.2)

module _ (top : Top) where
  -- CONSTRUCTORS

  -- constructors that resolve by the rules are given their nameless forms, from any part number on
  pub cons_are_resolved : {s : Locals} {earlier : WordSet} {ds : List ConDecl} {es : List NConDecl} (i : ℕ) → ResolvesCons top s earlier ds es
      → resolved_cons top s earlier i ds ≡ Ok es
  cons_are_resolved i resolves_no_constructors = refl
  cons_are_resolved i (resolves_constructors {bs = bs} new binders fields rest) =
      rw (new, binders_are_resolved top 0 binders, tys_are_resolved top (length bs) fields, cons_are_resolved (i + 1) rest) refl

  -- constructors that are given nameless forms resolve to them by the rules
  pub resolved_cons_are : (s : Locals) (earlier : WordSet) (i : ℕ) (ds : List ConDecl) (es : List NConDecl) → resolved_cons top s earlier i ds ≡ Ok es
      → ResolvesCons top s earlier ds es
  resolved_cons_are s earlier i [] es h = subst (λ x. ResolvesCons top s earlier [] x) (ok_ok h) resolves_no_constructors
  resolved_cons_are s earlier i (ConOf n bs fields ∷ ds) es h =
      let p = part i (need (not (earlier n)) Duplicate (resolved_con top s (ConOf n bs fields))) _ es h in
      let q = need_inv (not (earlier n)) _ _ p.0 p.1 in
      let u = and_then_inv (resolved_binders top s no_words 0 bs) _ p.0 q.1 in
      let v = and_then_inv (resolved_tys top (enter_all bs s).types (length bs) fields) _ p.0 u.2 in
      let w = then_item_inv p.0 (resolved_cons top s (plus n earlier) (i + 1) ds) es p.2 in
      subst (λ x. ResolvesCons top s earlier (ConOf n bs fields ∷ ds) x) (ap (λ c. c ∷ w.0) (ok_ok v.2) ∙ w.2)
      (resolves_constructors (not-true (earlier n) q.0) (resolved_binders_are top s no_words 0 bs u.0 u.1)
      (resolved_tys_are top (enter_all bs s).types (length bs) fields v.0 v.1) (resolved_cons_are s (plus n earlier) (i + 1) ds w.0 w.1))

  -- DECLARATIONS

  -- a declaration that resolves by the rules is given its nameless form
  pub decl_is_resolved : {ws : Words} {d : Decl} {c : NDecl} → ResolvesDecl top ws d c → resolved_decl top ws d ≡ Ok c
  decl_is_resolved (resolves_data new params cs) = let p = words_are_distinct 0 params in rw (new, p.1, cons_are_resolved p.0 cs) refl
  decl_is_resolved (resolves_newtype new params t co) = let p = words_are_distinct 0 params in rw (new, p.1, ty_is_resolved top t, co) refl
  decl_is_resolved (resolves_family new params) = let p = words_are_distinct 0 params in rw (new, p.1) refl
  decl_is_resolved (resolves_equation new params t u) = let p = words_are_distinct 0 params in rw (new, p.1, ty_is_resolved top t, ty_is_resolved top u) refl
  decl_is_resolved (resolves_def new t e) = rw (new, ty_is_resolved top t, expr_is_resolved top e) refl
  decl_is_resolved (resolves_wrap new t e) = rw (new, ty_is_resolved top t, expr_is_resolved top e) refl

  -- a declaration that is given a nameless form resolves to it by the rules
  pub resolved_decl_is : (ws : Words) (d : Decl) (c : NDecl) → resolved_decl top ws d ≡ Ok c → ResolvesDecl top ws d c
  resolved_decl_is ws (DData n ps cs) c h =
      let p = need_inv (not (ws.types n)) _ _ c h in
      let q = and_then_inv (distinct_params no_word 0 (map param_hint ps)) _ c p.1 in
      let r = and_then_inv (resolved_cons top (in_params (map param_hint ps)) ws.terms q.0 cs) _ c q.2 in
      subst (λ x. ResolvesDecl top ws (DData n ps cs) x) (ok_ok r.2)
      (resolves_data (not-true (ws.types n) p.0) (distinct_words_are no_word 0 (map param_hint ps) q.0 q.1)
      (resolved_cons_are (in_params (map param_hint ps)) ws.terms q.0 cs r.0 r.1))
  resolved_decl_is ws (DNew n ps t con) c h =
      let p = need_inv (not (ws.types n)) _ _ c h in
      let q = and_then_inv (distinct_params no_word 0 (map param_hint ps)) _ c p.1 in
      let r = part q.0 (resolved_ty top (in_params (map param_hint ps)).types t) _ c q.2 in
      let v = need_inv (not (ws.coercions con)) _ _ c r.2 in
      subst (λ x. ResolvesDecl top ws (DNew n ps t con) x) (ok_ok v.1)
      (resolves_newtype (not-true (ws.types n) p.0) (distinct_words_are no_word 0 (map param_hint ps) q.0 q.1)
      (resolved_ty_is top (in_params (map param_hint ps)).types t r.0 r.1) (not-true (ws.coercions con) v.0))
  resolved_decl_is ws (DFamily n ps k) c h =
      let p = need_inv (not (ws.types n)) _ _ c h in
      let q = and_then_inv (distinct_params no_word 0 (map plain_hint ps)) _ c p.1 in
      subst (λ x. ResolvesDecl top ws (DFamily n ps k) x) (ok_ok q.2)
      (resolves_family (not-true (ws.types n) p.0) (distinct_words_are no_word 0 (map plain_hint ps) q.0 q.1))
  resolved_decl_is ws (DAxiom n ps t u) c h =
      let p = need_inv (not (ws.coercions n)) _ _ c h in
      let q = and_then_inv (distinct_params no_word 0 (map plain_hint ps)) _ c p.1 in
      let r = part q.0 (resolved_ty top (in_params (map plain_hint ps)).types t) _ c q.2 in
      let v = part (q.0 + 1) (resolved_ty top (in_params (map plain_hint ps)).types u) _ c r.2 in
      subst (λ x. ResolvesDecl top ws (DAxiom n ps t u) x) (ok_ok v.2)
      (resolves_equation (not-true (ws.coercions n) p.0) (distinct_words_are no_word 0 (map plain_hint ps) q.0 q.1)
      (resolved_ty_is top (in_params (map plain_hint ps)).types t r.0 r.1) (resolved_ty_is top (in_params (map plain_hint ps)).types u v.0 v.1))
  resolved_decl_is ws (DDef n t e) c h =
      let p = need_inv (not (ws.terms n)) _ _ c h in
      let q = part 0 (resolved_ty top [] t) _ c p.1 in
      let r = part 1 (resolved_expr top no_locals e) _ c q.2 in
      subst (λ x. ResolvesDecl top ws (DDef n t e) x) (ok_ok r.2)
      (resolves_def (not-true (ws.terms n) p.0) (resolved_ty_is top [] t q.0 q.1) (resolved_expr_is top no_locals e r.0 r.1))
  resolved_decl_is ws (DWrap n t e) c h =
      let p = need_inv (not (ws.terms n)) _ _ c h in
      let q = part 0 (resolved_ty top [] t) _ c p.1 in
      let r = part 1 (resolved_expr top no_locals e) _ c q.2 in
      subst (λ x. ResolvesDecl top ws (DWrap n t e) x) (ok_ok r.2)
      (resolves_wrap (not-true (ws.terms n) p.0) (resolved_ty_is top [] t q.0 q.1) (resolved_expr_is top no_locals e r.0 r.1))

  -- declarations that resolve by the rules are given their nameless forms
  pub decls_are_resolved : {ws : Words} {ds : List Decl} {cs : List NDecl} → ResolvesDecls top ws ds cs → resolved_decls top ws ds ≡ Ok cs
  decls_are_resolved resolves_no_decls = refl
  decls_are_resolved (resolves_decls d rest) = rw (decl_is_resolved d, decls_are_resolved rest) refl

  -- declarations that are given nameless forms resolve to them by the rules
  pub resolved_decls_are : (ws : Words) (ds : List Decl) (cs : List NDecl) → resolved_decls top ws ds ≡ Ok cs → ResolvesDecls top ws ds cs
  resolved_decls_are ws [] cs h = subst (λ x. ResolvesDecls top ws [] x) (ok_ok h) resolves_no_decls
  resolved_decls_are ws (d ∷ ds) cs h =
      let p = and_then_inv (within (decl_word d) (resolved_decl top ws d)) _ cs h in
      let q = then_item_inv p.0 (resolved_decls top (behind d ws) ds) cs p.2 in
      subst (λ x. ResolvesDecls top ws (d ∷ ds) x) q.2
      (resolves_decls (resolved_decl_is ws d p.0 (within_inv (decl_word d) (resolved_decl top ws d) p.0 p.1)) (resolved_decls_are (behind d ws) ds q.0 q.1))

-- MODULES

-- a module that resolves by the rules is given its nameless form
pub module_is_resolved : {m : Module} {n : NModule} → Resolves m n → resolved_or_fault m ≡ Ok n
module_is_resolved (resolves_module {m = m} {imports = imports} {exports = exports} {hidden = hidden} {ds = ds} rules) =
    rw (decls_are_resolved (top_of (ModuleOf m imports exports hidden ds)) rules) refl

-- a module that is given a nameless form resolves to it by the rules
pub resolved_module_is : (m : Module) (n : NModule) → resolved_or_fault m ≡ Ok n → Resolves m n
resolved_module_is (ModuleOf m imports exports hidden ds) n h =
    let top = top_of (ModuleOf m imports exports hidden ds) in
    let p = and_then_inv (resolved_decls top no_words ds) _ n h in
    subst (λ x. Resolves (ModuleOf m imports exports hidden ds) x) (ok_ok p.2) (resolves_module (resolved_decls_are top no_words ds p.0 p.1))

-- the function gives a module a nameless form just where the rules do
pub resolves_iff : (m : Module) (n : NModule) → (resolved_or_fault m ≡ Ok n) ↔ Resolves m n
resolves_iff m n = (resolved_module_is m n, λ h. module_is_resolved h)

-- a module has at most one nameless form
pub a_module_has_one_nameless_form : (m : Module) (n k : NModule) → Resolves m n → Resolves m k → n ≡ k
a_module_has_one_nameless_form m n k p q = ok_ok (sym (module_is_resolved p) ∙ module_is_resolved q)
