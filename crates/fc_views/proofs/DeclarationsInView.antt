-- Declarations and modules against modules that agree in view: what holds against the one holds against the other.
use Rattle.std.proofs.Common.{◌≡◌, ◌∙◌, ℕ, suc, List, [], ◌∷◌, refl, sym, ap, ap₂}
use Rattle.std.specs.List.{AllByRecursion as Each}
use Rattle.std.proofs.lemmas.List.Elements.{recursion_from_All}
use Rattle.fc_syntax.specs.declared.ty.Role.{Role}
use Rattle.fc_syntax.specs.declared.ty.Role.TheVariants.{R}
use Rattle.fc_syntax.specs.Tree.{Word, Kind}
use Rattle.fc_model.specs.Kinding.{Modules, HasHeadKind}
use Rattle.fc_model.specs.LintingRules.{AreValueTypes, no_types, one_type, ConHolds, holds_fields, holds_type, holds_coercion, ConsHold, no_cons, one_con}
use Rattle.fc_model.specs.LintingRules.{TypeDeclHolds, data_holds, newtype_holds, family_holds, axiom_holds, def_declares_no_type, wrap_declares_no_type, TypeDeclsHold, no_type_decls, one_type_decl}
use Rattle.fc_model.specs.LintingRules.{DefinitionHolds, def_holds, wrap_holds, data_defines_nothing, newtype_defines_nothing, family_defines_nothing, axiom_defines_nothing}
use Rattle.fc_model.specs.LintingRules.{DefinitionsHold, no_definitions, one_definition, ModuleHolds, module_holds}
use Rattle.fc_model.specs.Nameless.{NTy, NBinder, NBValue, NBType, NBCo, NParam, NConDecl, NConOf, NDecl, NData, NModuleOf}
use Rattle.fc_model.specs.Needs.{argument_roles, later_roles, least, need_in, need_in_con, need_in_cons, need_in_fields, next_role, role_within}
use Rattle.fc_model.specs.Typing.{no_context}
use Rattle.fc_headers.specs.NamelessHeaders.{modules_in_binders, modules_in_constructor, modules_in_decl, modules_in_decls, modules_in_expr, modules_in_type, modules_in_types}
use Rattle.fc_views.specs.Views.{AgreeInView, AreInView, IsClosedView, KeepsItsType, ModulesSeeTheView, View, names_in_decl, names_in_decls}
use Rattle.fc_views.proofs.CoercionsInView.{families_agree, kind_seen, roles_agree}
use Rattle.fc_views.proofs.Contexts.{IsContextIn}
use Rattle.fc_views.proofs.ExpressionsInView.{type_seen}
use Rattle.fc_views.proofs.TypesInView.{each_apart, words_apart, IsBinderIn, IsTypeIn, variable_in, declared_in, int_in, application_in, function_in, forall_in, coforall_in}
use Rattle.fc_views.proofs.TypesInView.{binders_in, two_types_in, type_in, types_in}
use Rattle.fc_model.proofs.LintedIs.{roles_hold}

-- constructors mention modules in view alone
module _ (view : View) where
  abbrev pub IsConIn : NConDecl → Type 0
  IsConIn (NConOf n bs ts) = Each (IsBinderIn view) bs × Each (IsTypeIn view) ts

  con_in : (c : NConDecl) → AreInView view (modules_in_constructor c) → IsConIn c
  con_in (NConOf n bs ts) h = let p = words_apart view (modules_in_binders bs) (modules_in_types ts) h in (binders_in view bs p.0, types_in view ts p.1)

  cons_in : (n : Word) (ps : List NParam) (cs : List NConDecl) → AreInView view (modules_in_decl (NData n ps cs)) → Each IsConIn cs
  cons_in n ps [] h = tt
  cons_in n ps (c ∷ cs) h = let p = words_apart view (modules_in_constructor c) (modules_in_decl (NData n ps cs)) h in (con_in c p.0, cons_in n ps cs p.1)

  closed_context_in : IsContextIn view no_context
  closed_context_in = record { coercions = tt; values = tt; joins = tt }

-- where the needs are the same
module _ (view : View) (ms ns : Modules) (agree : AgreeInView view ms ns) where
  -- NEEDS

  arguments_agree : {t : NTy} → IsTypeIn view t → argument_roles ms t ≡ argument_roles ns t
  arguments_agree variable_in = refl
  arguments_agree (declared_in {n = n} h) = roles_agree view ms ns agree n h
  arguments_agree int_in = refl
  arguments_agree (application_in p q) = ap later_roles (arguments_agree p)
  arguments_agree (function_in p q) = refl
  arguments_agree (forall_in p) = refl
  arguments_agree (coforall_in p q r) = refl

  needs_agree : (r : Role) (i : ℕ) {t : NTy} → IsTypeIn view t → need_in ms r i t ≡ need_in ns r i t
  needs_agree r i variable_in = refl
  needs_agree r i (declared_in h) = refl
  needs_agree r i int_in = refl
  needs_agree r i (application_in {t = t} {u = u} p q) =
      ap₂ least (needs_agree r i p)
      (ap (λ rs. need_in ms (role_within r (next_role rs)) i u) (arguments_agree p) ∙ needs_agree (role_within r (next_role (argument_roles ns t))) i q)
  needs_agree r i (function_in p q) = ap₂ least (needs_agree r i p) (needs_agree r i q)
  needs_agree r i (forall_in p) = needs_agree r (suc i) p
  needs_agree r i (coforall_in {r = s} p q u) = ap₂ least (needs_agree (role_within r s) i p) (ap₂ least (needs_agree (role_within r s) i q) (needs_agree r i u))

  fields_agree : (i : ℕ) (ts : List NTy) → Each (IsTypeIn view) ts → need_in_fields ms i ts ≡ need_in_fields ns i ts
  fields_agree i [] h = refl
  fields_agree i (t ∷ ts) h = ap₂ least (needs_agree R i h.0) (fields_agree i ts h.1)

  con_agrees : (i : ℕ) (bs : List NBinder) (ts : List NTy) → Each (IsBinderIn view) bs → Each (IsTypeIn view) ts → need_in_con ms i bs ts ≡ need_in_con ns i bs ts
  con_agrees i [] ts h f = fields_agree i ts f
  con_agrees i (NBValue t ∷ bs) ts h f = ap₂ least (needs_agree R i h.0) (con_agrees i bs ts h.1 f)
  con_agrees i (NBType k ∷ bs) ts h f = con_agrees (suc i) bs ts h.1 f
  con_agrees i (NBCo r t u ∷ bs) ts h f = ap₂ least (ap₂ least (needs_agree r i h.0.0) (needs_agree r i h.0.1)) (con_agrees i bs ts h.1 f)

  cons_agree : (i : ℕ) (cs : List NConDecl) → Each (IsConIn view) cs → need_in_cons ms i cs ≡ need_in_cons ns i cs
  cons_agree i [] h = refl
  cons_agree i (NConOf n bs ts ∷ cs) h = ap₂ least (con_agrees i bs ts h.0.0 h.0.1) (cons_agree i cs h.1)

  -- TYPE DECLARATIONS

  kind : {ks : List Kind} {t : NTy} {k : Kind} → HasHeadKind ms ks 0 t k → IsTypeIn view t → HasHeadKind ns ks 0 t k
  kind p v = kind_seen view ms ns agree p v

  values_seen : {ks : List Kind} {ts : List NTy} → AreValueTypes ms ks ts → Each (IsTypeIn view) ts → AreValueTypes ns ks ts
  values_seen no_types h = no_types
  values_seen (one_type k p v more) h = one_type k (kind p h.0) v (values_seen more h.1)

  con_seen : {ks : List Kind} {bs : List NBinder} {ts : List NTy} → ConHolds ms ks bs ts → Each (IsBinderIn view) bs → Each (IsTypeIn view) ts → ConHolds ns ks bs ts
  con_seen (holds_fields p) h f = holds_fields (values_seen p f)
  con_seen (holds_type l more) h f = holds_type l (con_seen more h.1 f)
  con_seen (holds_coercion k p q more) h f = holds_coercion k (kind p h.0.0) (kind q h.0.1) (con_seen more h.1 f)

  cons_seen : {ks : List Kind} {cs : List NConDecl} → ConsHold ms ks cs → Each (IsConIn view) cs → ConsHold ns ks cs
  cons_seen no_cons h = no_cons
  cons_seen (one_con p more) h = one_con (con_seen p h.0.0 h.0.1) (cons_seen more h.1)

  type_decl_seen : {d : NDecl} → TypeDeclHolds ms d → AreInView view (modules_in_decl d) → TypeDeclHolds ns d
  type_decl_seen (data_holds {n = n} {ps = ps} {cs = cs} l p roles) v =
      let h = cons_in view n ps cs v in
      data_holds l (cons_seen p h) (roles_hold (λ i. cons_agree i cs h) roles)
  type_decl_seen (newtype_holds {t = t} l p roles) v =
      let h = type_in view t v in
      newtype_holds l (kind p h) (roles_hold (λ i. needs_agree R i h) roles)
  type_decl_seen (family_holds l k) v = family_holds l k
  type_decl_seen (axiom_holds {t = t} {u = u} k l p q family) v =
      let h = two_types_in view t u v in
      axiom_holds k l (kind p h.0) (kind q h.1) (sym (families_agree view ms ns agree 0 h.0) ∙ family)
  type_decl_seen def_declares_no_type v = def_declares_no_type
  type_decl_seen wrap_declares_no_type v = wrap_declares_no_type

  type_decls_seen : {ds : List NDecl} → TypeDeclsHold ms ds → AreInView view (modules_in_decls ds) → TypeDeclsHold ns ds
  type_decls_seen no_type_decls v = no_type_decls
  type_decls_seen (one_type_decl {d = d} {ds = ds} p more) v =
      let w = words_apart view (modules_in_decl d) (modules_in_decls ds) v in
      one_type_decl (type_decl_seen p w.0) (type_decls_seen more w.1)

-- DEFINITIONS

module _ (view : View) (ms ns : Modules) (agree : AgreeInView view ms ns) (closed : IsClosedView view ms) where
  definition_seen : {d : NDecl} → DefinitionHolds ms d → AreInView view (modules_in_decl d) → Each (KeepsItsType ms ns) (names_in_decl d) → DefinitionHolds ns d
  definition_seen (def_holds {t = t} {e = e} p q) v h =
      let w = words_apart view (modules_in_type t) (modules_in_expr e) v in
      let typed = type_seen view ms ns agree closed q (closed_context_in view) w.1 h in
      def_holds (kind view ms ns agree p (type_in view t w.0)) typed.0
  definition_seen (wrap_holds {t = t} {e = e} p q) v h =
      let w = words_apart view (modules_in_type t) (modules_in_expr e) v in
      let typed = type_seen view ms ns agree closed q (closed_context_in view) w.1 h in
      wrap_holds (kind view ms ns agree p (type_in view t w.0)) typed.0
  definition_seen data_defines_nothing v h = data_defines_nothing
  definition_seen newtype_defines_nothing v h = newtype_defines_nothing
  definition_seen family_defines_nothing v h = family_defines_nothing
  definition_seen axiom_defines_nothing v h = axiom_defines_nothing

  definitions_seen : {ds : List NDecl} → DefinitionsHold ms ds → AreInView view (modules_in_decls ds) → Each (KeepsItsType ms ns) (names_in_decls ds) → DefinitionsHold ns ds
  definitions_seen no_definitions v h = no_definitions
  definitions_seen (one_definition {d = d} {ds = ds} p more) v h =
      let w = words_apart view (modules_in_decl d) (modules_in_decls ds) v in
      let m = each_apart (KeepsItsType ms ns) (names_in_decl d) (names_in_decls ds) h in
      one_definition (definition_seen p w.0 m.0) (definitions_seen more w.1 m.1)

  module_seen : {n : Word} {imports exports hidden : List Word} {ds : List NDecl} → ModuleHolds ms (NModuleOf n imports exports hidden ds)
      → AreInView view (modules_in_decls ds) → Each (KeepsItsType ms ns) (names_in_decls ds) → ModuleHolds ns (NModuleOf n imports exports hidden ds)
  module_seen (module_holds p q types definitions) v h = module_holds p q (type_decls_seen view ms ns agree types v) (definitions_seen definitions v h)

-- THE LAW

pub modules_see_the_view : ModulesSeeTheView
modules_see_the_view view ms ns agree closed (NModuleOf n imports exports hidden ds) v h holds =
    module_seen view ms ns agree closed holds v (recursion_from_All (KeepsItsType ms ns) (names_in_decls ds) h)
