-- Lint as a function finds no fault just where the rules by cases hold.
use Rattle.std.proofs.Common.{◌≡◌, ◌↔◌, ℕ, ◌+◌, Bool, true, false, ◌&&◌, List, [], ◌∷◌, length, reverse, Result, Ok, refl, sym, ap, ◌∙◌, subst}
use Rattle.std.specs.List.{list_all}
use Rattle.std.proofs.lemmas.Bool.{and_parts}
use Rattle.fc_syntax.specs.declared.fault.FaultKind.TheVariants.{UnliftedVariable}
use Rattle.fc_syntax.specs.declared.ty.Role.{Role}
use Rattle.fc_syntax.specs.Roles.{role_below}
use Rattle.fc_syntax.specs.Tree.{Kind, KStar, KHash, KArrow}
use Rattle.fc_model.specs.Declaring.{ndecl_word, ndeclared_words}
use Rattle.fc_model.specs.Faulting.{F, need, under, within, and_then}
use Rattle.fc_model.specs.Kinding.{Modules, HasKind, is_family_applied, is_lifted, is_star, is_value_kind, kind_or_fault, param_kinds, same_kind, same_type}
use Rattle.fc_model.specs.Linting.{Done, done, con_binder_judged, con_binders_judged, con_judged, cons_judged, def_type_judged, def_types_judged, definition_kind, exports_judged, fields_judged}
use Rattle.fc_model.specs.Linting.{kinds_behind_all, lint_or_fault, right_judged, right_side_judged, rights_judged, roles_judged, type_decl_judged, type_decls_judged, variables_judged}
use Rattle.fc_model.specs.LintingRules.{AreValueTypes, no_types, one_type, ConHolds, holds_fields, holds_type, holds_coercion, ConsHold, no_cons, one_con, RolesHold, no_roles, one_role}
use Rattle.fc_model.specs.LintingRules.{TypeDeclHolds, data_holds, newtype_holds, family_holds, axiom_holds, def_declares_no_type, wrap_declares_no_type, TypeDeclsHold, no_type_decls, one_type_decl}
use Rattle.fc_model.specs.LintingRules.{DefinitionHolds, def_holds, wrap_holds, data_defines_nothing, newtype_defines_nothing, family_defines_nothing, axiom_defines_nothing}
use Rattle.fc_model.specs.LintingRules.{DefinitionsHold, no_definitions, one_definition, ModuleHolds, module_holds}
use Rattle.fc_model.specs.Nameless.{NTy, NBinder, NBValue, NBType, NBCo, NParam, NParamOf, NConDecl, NConOf, NDecl, NData, NNew, NFamily, NAxiom, NDef, NWrap, NExpr, NModule, NModuleOf}
use Rattle.fc_model.specs.Resolution.{no_word, plus_all}
use Rattle.fc_model.specs.Typing.{kinds_behind, no_context, type_or_fault}
use Rattle.fc_model.specs.TypingRules.{HasType}
use Rattle.fc_model.proofs.KindedIs.{given_kind_is, is_star_inv, kind_is_given}
use Rattle.fc_model.proofs.Parts.{and_then_inv, err_ok, need_inv, ok_ok, part, under_inv}
use Rattle.fc_model.proofs.Resolved.{within_inv}
use Rattle.fc_model.proofs.Sameness.{false_true, same_kind_eq, same_kind_refl, same_type_eq, same_type_refl}
use Rattle.fc_model.proofs.TypedIs.{given_type_is, type_is_given}

-- nothing but that there is no fault
done_is : (d : Done) → d ≡ done
done_is done = refl

-- PARAMETERS

a_variable_more : (i : ℕ) (b : Bool) (rest : Result ℕ F) → b ≡ true → (n : ℕ) × (rest ≡ Ok n)
    → (n : ℕ) × (and_then (under i (need b UnliftedVariable (Ok done))) (λ _. rest) ≡ Ok n)
a_variable_more i true rest e q = q
a_variable_more i false rest e q = false_true e

variables_are_judged : (i : ℕ) (ks : List Kind) → list_all is_lifted ks ≡ true → (n : ℕ) × (variables_judged i ks ≡ Ok n)
variables_are_judged i [] h = (i, refl)
variables_are_judged i (k ∷ ks) h =
    let p = and_parts (is_lifted k) (list_all is_lifted ks) h in
    a_variable_more i (is_lifted k) (variables_judged (i + 1) ks) p.0 (variables_are_judged (i + 1) ks p.1)

judged_variables_are : (i : ℕ) (ks : List Kind) (n : ℕ) → variables_judged i ks ≡ Ok n → list_all is_lifted ks ≡ true
judged_variables_are i [] n h = refl
judged_variables_are i (k ∷ ks) n h =
    let p = and_then_inv (under i (need (is_lifted k) _ (Ok done))) _ n h in
    let q = need_inv (is_lifted k) _ (Ok done) p.0 (under_inv i (need (is_lifted k) _ (Ok done)) p.0 p.1) in
    rw q.0 (judged_variables_are (i + 1) ks n p.2)

-- roles hold for needs that are the same
pub roles_hold : {f g : ℕ → Role} {ps : List NParam} → ((i : ℕ) → f i ≡ g i) → RolesHold f ps → RolesHold g ps
roles_hold same no_roles = no_roles
roles_hold same (one_role {r = r} {ps = ps} h more) = one_role (subst (λ s. role_below r s ≡ true) (same (length ps)) h) (roles_hold same more)

roles_are_judged : (needed : ℕ → Role) (i : ℕ) {ps : List NParam} → RolesHold needed ps → roles_judged needed i ps ≡ Ok done
roles_are_judged needed i no_roles = refl
roles_are_judged needed i (one_role p rest) = rw p (roles_are_judged needed (i + 1) rest)

judged_roles_hold : (needed : ℕ → Role) (i : ℕ) (ps : List NParam) (d : Done) → roles_judged needed i ps ≡ Ok d → RolesHold needed ps
judged_roles_hold needed i [] d h = no_roles
judged_roles_hold needed i (NParamOf k r ∷ ps) d h =
    let p = and_then_inv (under i (need (role_below r (needed (length ps))) _ (Ok done))) _ d h in
    let q = need_inv (role_below r (needed (length ps))) _ (Ok done) p.0 (under_inv i (need (role_below r (needed (length ps))) _ (Ok done)) p.0 p.1) in
    one_role q.0 (judged_roles_hold needed (i + 1) ps d p.2)

module _ (ms : Modules) where
  -- CONSTRUCTORS

  fields_are_judged : {ks : List Kind} {ts : List NTy} (i : ℕ) → AreValueTypes ms ks ts → fields_judged ms ks i true ts ≡ Ok true
  fields_are_judged i no_types = refl
  fields_are_judged i (one_type k t v rest) = rw (kind_is_given ms t, v) (fields_are_judged (i + 1) rest)

  judged_fields_are : (ks : List Kind) (i : ℕ) (all : Bool) (ts : List NTy) → fields_judged ms ks i all ts ≡ Ok true → (all ≡ true) × AreValueTypes ms ks ts
  judged_fields_are ks i all [] h = (ok_ok h, no_types)
  judged_fields_are ks i all (t ∷ ts) h =
      let p = part i (kind_or_fault ms ks t) _ true h in
      let q = judged_fields_are ks (i + 1) (all && is_value_kind p.0) ts p.2 in
      let v = and_parts all (is_value_kind p.0) q.0 in
      (v.0, one_type p.0 (given_kind_is ms ks 0 t p.0 p.1) v.1 q.1)

  -- the binders are judged, and the fields behind them
  con_is_judged : {ks : List Kind} {bs : List NBinder} {ts : List NTy} (i j : ℕ) → ConHolds ms ks bs ts
      → (con_binders_judged ms ks i true bs ≡ Ok true) × (fields_judged ms (kinds_behind_all bs ks) j true ts ≡ Ok true)
  con_is_judged i j (holds_fields ts) = (refl, fields_are_judged j ts)
  con_is_judged i j (holds_type l rest) = let p = con_is_judged (i + 1) j rest in (rw l p.0, p.1)
  con_is_judged i j (holds_coercion k t u rest) =
      let p = con_is_judged (i + 1) j rest in (rw (kind_is_given ms t, kind_is_given ms u, same_kind_refl k) p.0, p.1)

  -- a binder that is judged stands before the others
  behind_binder : (ks : List Kind) (b : NBinder) {bs : List NBinder} {ts : List NTy} → con_binder_judged ms ks b ≡ Ok true → ConHolds ms (kinds_behind b ks) bs ts → ConHolds ms ks (b ∷ bs) ts
  behind_binder ks (NBValue t) e rest = err_ok e
  behind_binder ks (NBType k) e rest = let n = need_inv (is_lifted k) _ (Ok true) true e in holds_type n.0 rest
  behind_binder ks (NBCo r t u) e rest =
      let p = part 0 (kind_or_fault ms ks t) _ true e in
      let q = part 1 (kind_or_fault ms ks u) _ true p.2 in
      let same = same_kind_eq p.0 q.0 (ok_ok q.2) in
      holds_coercion p.0 (given_kind_is ms ks 0 t p.0 p.1) (subst (λ k. HasKind ms ks u k) (sym same) (given_kind_is ms ks 0 u q.0 q.1)) rest

  judged_con_holds : (ks : List Kind) (i j : ℕ) (one : Bool) (bs : List NBinder) (ts : List NTy) → con_binders_judged ms ks i one bs ≡ Ok true
      → fields_judged ms (kinds_behind_all bs ks) j true ts ≡ Ok true → (one ≡ true) × ConHolds ms ks bs ts
  judged_con_holds ks i j one [] ts h g = let f = judged_fields_are ks j true ts g in (ok_ok h, holds_fields f.1)
  judged_con_holds ks i j one (b ∷ bs) ts h g =
      let p = part i (con_binder_judged ms ks b) _ true h in
      let q = judged_con_holds (kinds_behind b ks) (i + 1) j (one && p.0) bs ts p.2 g in
      let v = and_parts one p.0 q.0 in
      (v.0, behind_binder ks b (p.1 ∙ ap (λ x. Ok x) v.1) q.1)

  cons_are_judged : {ks : List Kind} {cs : List NConDecl} (i : ℕ) → ConsHold ms ks cs → cons_judged ms ks i true cs ≡ Ok true
  cons_are_judged i no_cons = refl
  cons_are_judged i (one_con {bs = bs} c rest) = let p = con_is_judged 0 (length bs) c in rw (p.0, p.1) (cons_are_judged (i + 1) rest)

  judged_cons_hold : (ks : List Kind) (i : ℕ) (all : Bool) (cs : List NConDecl) → cons_judged ms ks i all cs ≡ Ok true → (all ≡ true) × ConsHold ms ks cs
  judged_cons_hold ks i all [] h = (ok_ok h, no_cons)
  judged_cons_hold ks i all (NConOf n bs ts ∷ cs) h =
      let p = part i (con_judged ms ks (NConOf n bs ts)) _ true h in
      let q = judged_cons_hold ks (i + 1) (all && p.0) cs p.2 in
      let v = and_parts all p.0 q.0 in
      let b = and_then_inv (con_binders_judged ms ks 0 true bs) _ p.0 p.1 in
      let f = and_then_inv (fields_judged ms (kinds_behind_all bs ks) (length bs) true ts) _ p.0 b.2 in
      let o = need_inv b.0 _ (Ok f.0) p.0 f.2 in
      let c = judged_con_holds ks 0 (length bs) true bs ts (b.1 ∙ ap (λ x. Ok x) o.0) (f.1 ∙ ap (λ x. Ok x) (ok_ok o.1 ∙ v.1)) in
      (v.0, one_con c.1 q.1)

  -- TYPE DECLARATIONS

  type_decl_is_judged : {d : NDecl} → TypeDeclHolds ms d → type_decl_judged ms d ≡ Ok done
  type_decl_is_judged (data_holds {ps = ps} l cs roles) =
      let p = variables_are_judged 0 (param_kinds ps) l in rw (p.1, cons_are_judged p.0 cs) (roles_are_judged _ 0 roles)
  type_decl_is_judged (newtype_holds {ps = ps} l t roles) =
      let p = variables_are_judged 0 (param_kinds ps) l in rw (p.1, kind_is_given ms t) (roles_are_judged _ 0 roles)
  type_decl_is_judged (family_holds {ks = ks} l k) = let p = variables_are_judged 0 ks l in rw (p.1, k) refl
  type_decl_is_judged (axiom_holds {ks = ks} k l t u f) =
      let p = variables_are_judged 0 ks l in rw (p.1, kind_is_given ms t, kind_is_given ms u, f, same_kind_refl k) refl
  type_decl_is_judged def_declares_no_type = refl
  type_decl_is_judged wrap_declares_no_type = refl

  judged_type_decl_holds : (d : NDecl) → type_decl_judged ms d ≡ Ok done → TypeDeclHolds ms d
  judged_type_decl_holds (NData n ps cs) h =
      let p = and_then_inv (variables_judged 0 (param_kinds ps)) _ done h in
      let q = and_then_inv (cons_judged ms (reverse (param_kinds ps)) p.0 true cs) _ done p.2 in
      let v = need_inv q.0 _ _ done q.2 in
      let c = judged_cons_hold (reverse (param_kinds ps)) p.0 true cs (q.1 ∙ ap (λ x. Ok x) v.0) in
      data_holds (judged_variables_are 0 (param_kinds ps) p.0 p.1) c.1
      (judged_roles_hold _ 0 ps done v.1)
  judged_type_decl_holds (NNew n ps t con) h =
      let p = and_then_inv (variables_judged 0 (param_kinds ps)) _ done h in
      let q = part p.0 (kind_or_fault ms (reverse (param_kinds ps)) t) _ done p.2 in
      let v = need_inv (is_star q.0) _ _ done q.2 in
      newtype_holds (judged_variables_are 0 (param_kinds ps) p.0 p.1)
      (given_kind_is ms (reverse (param_kinds ps)) 0 t KStar (q.1 ∙ ap (λ x. Ok x) (is_star_inv q.0 v.0))) (judged_roles_hold _ 0 ps done v.1)
  judged_type_decl_holds (NFamily n ks k) h =
      let p = and_then_inv (variables_judged 0 ks) _ done h in
      let v = need_inv (is_lifted k) _ _ done p.2 in
      family_holds (judged_variables_are 0 ks p.0 p.1) v.0
  judged_type_decl_holds (NAxiom n ks t u) h =
      let p = and_then_inv (variables_judged 0 ks) _ done h in
      let q = part p.0 (kind_or_fault ms (reverse ks) t) _ done p.2 in
      let v = part (p.0 + 1) (kind_or_fault ms (reverse ks) u) _ done q.2 in
      let f = need_inv (is_family_applied ms 0 t) _ _ done v.2 in
      let s = need_inv (same_kind q.0 v.0) _ _ done f.1 in
      axiom_holds q.0 (judged_variables_are 0 ks p.0 p.1) (given_kind_is ms (reverse ks) 0 t q.0 q.1)
      (subst (λ k. HasKind ms (reverse ks) u k) (sym (same_kind_eq q.0 v.0 s.0)) (given_kind_is ms (reverse ks) 0 u v.0 v.1)) f.0
  judged_type_decl_holds (NDef n t e) h = def_declares_no_type
  judged_type_decl_holds (NWrap n t e) h = wrap_declares_no_type

  type_decls_are_judged : {ds : List NDecl} → TypeDeclsHold ms ds → type_decls_judged ms ds ≡ Ok done
  type_decls_are_judged no_type_decls = refl
  type_decls_are_judged (one_type_decl d rest) = rw (type_decl_is_judged d) (type_decls_are_judged rest)

  judged_type_decls_hold : (ds : List NDecl) → type_decls_judged ms ds ≡ Ok done → TypeDeclsHold ms ds
  judged_type_decls_hold [] h = no_type_decls
  judged_type_decls_hold (d ∷ ds) h =
      let p = and_then_inv (within (ndecl_word d) (type_decl_judged ms d)) _ done h in
      let q = within_inv (ndecl_word d) (type_decl_judged ms d) p.0 p.1 in
      one_type_decl (judged_type_decl_holds d (q ∙ ap (λ x. Ok x) (done_is p.0))) (judged_type_decls_hold ds p.2)

  -- DEFINITIONS

  definition_kind_inv : (k : Kind) (d : Done) → definition_kind k ≡ Ok d → k ≡ KStar
  definition_kind_inv KStar d h = refl
  definition_kind_inv KHash d h = err_ok h
  definition_kind_inv (KArrow j k) d h = err_ok h

  -- the type that a definition is written with, and the right side
  definition_is_judged : {d : NDecl} → DefinitionHolds ms d → (def_type_judged ms d ≡ Ok done) × (right_judged ms d ≡ Ok done)
  definition_is_judged (def_holds {t = t} k e) = (rw (kind_is_given ms k) refl, rw (type_is_given ms e, same_type_refl t) refl)
  definition_is_judged (wrap_holds {t = t} k e) = (rw (kind_is_given ms k) refl, rw (type_is_given ms e, same_type_refl t) refl)
  definition_is_judged data_defines_nothing = (refl, refl)
  definition_is_judged newtype_defines_nothing = (refl, refl)
  definition_is_judged family_defines_nothing = (refl, refl)
  definition_is_judged axiom_defines_nothing = (refl, refl)

  written_type_is : (t : NTy) (d : Done) → and_then (under 0 (kind_or_fault ms [] t)) (λ k. definition_kind k) ≡ Ok d → HasKind ms [] t KStar
  written_type_is t d h =
      let p = part 0 (kind_or_fault ms [] t) _ d h in given_kind_is ms [] 0 t KStar (p.1 ∙ ap (λ x. Ok x) (definition_kind_inv p.0 d p.2))

  right_side_is : (t : NTy) (e : NExpr) (d : Done) → right_side_judged ms t e ≡ Ok d → HasType ms no_context e t
  right_side_is t e d h =
      let p = part 1 (type_or_fault ms no_context e) _ d h in
      let v = need_inv (same_type t p.0) _ _ d p.2 in
      given_type_is ms no_context e t (p.1 ∙ ap (λ x. Ok x) (sym (same_type_eq t p.0 v.0)))

  judged_definition_holds : (d : NDecl) (x y : Done) → def_type_judged ms d ≡ Ok x → right_judged ms d ≡ Ok y → DefinitionHolds ms d
  judged_definition_holds (NDef n t e) x y h g = def_holds (written_type_is t x h) (right_side_is t e y g)
  judged_definition_holds (NWrap n t e) x y h g = wrap_holds (written_type_is t x h) (right_side_is t e y g)
  judged_definition_holds (NData n ps cs) x y h g = data_defines_nothing
  judged_definition_holds (NNew n ps t con) x y h g = newtype_defines_nothing
  judged_definition_holds (NFamily n ks k) x y h g = family_defines_nothing
  judged_definition_holds (NAxiom n ks t u) x y h g = axiom_defines_nothing

  definitions_are_judged : {ds : List NDecl} → DefinitionsHold ms ds → (def_types_judged ms ds ≡ Ok done) × (rights_judged ms ds ≡ Ok done)
  definitions_are_judged no_definitions = (refl, refl)
  definitions_are_judged (one_definition d rest) =
      let p = definition_is_judged d in
      let q = definitions_are_judged rest in
      (rw p.0 q.0, rw p.1 q.1)

  judged_definitions_hold : (ds : List NDecl) → def_types_judged ms ds ≡ Ok done → rights_judged ms ds ≡ Ok done → DefinitionsHold ms ds
  judged_definitions_hold [] h g = no_definitions
  judged_definitions_hold (d ∷ ds) h g =
      let p = and_then_inv (within (ndecl_word d) (def_type_judged ms d)) _ done h in
      let q = and_then_inv (within (ndecl_word d) (right_judged ms d)) _ done g in
      one_definition (judged_definition_holds d p.0 q.0 (within_inv (ndecl_word d) (def_type_judged ms d) p.0 p.1) (within_inv (ndecl_word d) (right_judged ms d) q.0 q.1))
      (judged_definitions_hold ds p.2 q.2)

-- MODULES

module_is_judged : (ms : Modules) {n : NModule} → ModuleHolds ms n → lint_or_fault ms n ≡ Ok done
module_is_judged ms (module_holds x h types definitions) = let p = definitions_are_judged ms definitions in rw (x, h, type_decls_are_judged ms types, p.0) p.1

judged_module_holds : (ms : Modules) (n : NModule) → lint_or_fault ms n ≡ Ok done → ModuleHolds ms n
judged_module_holds ms (NModuleOf m imports exports hidden ds) h =
    let declared = plus_all (ndeclared_words ds) no_word in
    let p = and_then_inv (exports_judged (NModuleOf m imports exports hidden ds)) _ done h in
    let x = need_inv (list_all declared exports && list_all declared hidden) _ _ p.0 p.1 in
    let y = and_parts (list_all declared exports) (list_all declared hidden) x.0 in
    let q = and_then_inv (type_decls_judged ms ds) _ done p.2 in
    let r = and_then_inv (def_types_judged ms ds) _ done q.2 in
    module_holds y.0 y.1 (judged_type_decls_hold ms ds (q.1 ∙ ap (λ d. Ok d) (done_is q.0)))
    (judged_definitions_hold ms ds (r.1 ∙ ap (λ d. Ok d) (done_is r.0)) r.2)

-- the function finds no fault just where the rules hold
pub lint_is : (ms : Modules) (n : NModule) → (lint_or_fault ms n ≡ Ok done) ↔ ModuleHolds ms n
lint_is ms n = (judged_module_holds ms n, λ h. module_is_judged ms h)
