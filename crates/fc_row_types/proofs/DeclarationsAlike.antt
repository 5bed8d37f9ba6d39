-- Declarations that hold against modules hold against modules that declare alike.
use Rattle.std.proofs.Common.{◌≡◌, ℕ, suc, List, [], ◌∷◌, refl, sym, ap, ap₂, ◌∙◌}
use Rattle.fc_syntax.specs.declared.ty.Role.{Role}
use Rattle.fc_syntax.specs.declared.ty.Role.TheVariants.{R}
use Rattle.fc_syntax.specs.Tree.{Kind}
use Rattle.fc_model.specs.Kinding.{Modules}
use Rattle.fc_model.specs.LintingRules.{AreValueTypes, no_types, one_type, ConHolds, holds_fields, holds_type, holds_coercion, ConsHold, no_cons, one_con}
use Rattle.fc_model.specs.LintingRules.{TypeDeclHolds, data_holds, newtype_holds, family_holds, axiom_holds, def_declares_no_type, wrap_declares_no_type, TypeDeclsHold, no_type_decls, one_type_decl}
use Rattle.fc_model.specs.LintingRules.{DefinitionHolds, def_holds, wrap_holds, data_defines_nothing, newtype_defines_nothing, family_defines_nothing, axiom_defines_nothing}
use Rattle.fc_model.specs.LintingRules.{DefinitionsHold, no_definitions, one_definition}
use Rattle.fc_model.specs.Nameless.{NTy, NTVar, NTCon, NTInt, NTApp, NTFun, NTForall, NTCoForall, NBinder, NBValue, NBType, NBCo, NConDecl, NConOf, NDecl, NData, NNew, NFamily, NAxiom, NDef, NWrap}
use Rattle.fc_model.specs.Needs.{argument_roles, later_roles, least, need_in, need_in_con, need_in_cons, need_in_fields, next_role, role_within}
use Rattle.fc_reaching.specs.Reaching.{names_in}
use Rattle.fc_outlines.specs.Headers.{DeclareAlike}
use Rattle.fc_outlines.proofs.Alike.{HaveTypes, families_alike, kind_alike, roles_alike, type_alike}
use Rattle.fc_model.proofs.LintedIs.{roles_hold}

module _ (ms ns : Modules) (alike : DeclareAlike ms ns) where
  -- NEEDS

  arguments_alike : (t : NTy) → argument_roles ms t ≡ argument_roles ns t
  arguments_alike (NTVar i) = refl
  arguments_alike (NTCon n) = roles_alike ms ns alike n
  arguments_alike NTInt = refl
  arguments_alike (NTApp t u) = ap later_roles (arguments_alike t)
  arguments_alike (NTFun t u) = refl
  arguments_alike (NTForall k t) = refl
  arguments_alike (NTCoForall r t u v) = refl

  need_alike : (r : Role) (i : ℕ) (t : NTy) → need_in ms r i t ≡ need_in ns r i t
  need_alike r i (NTVar j) = refl
  need_alike r i (NTCon n) = refl
  need_alike r i NTInt = refl
  need_alike r i (NTApp t u) =
      ap₂ least (need_alike r i t) (ap (λ rs. need_in ms (role_within r (next_role rs)) i u) (arguments_alike t) ∙ need_alike (role_within r (next_role (argument_roles ns t))) i u)
  need_alike r i (NTFun t u) = ap₂ least (need_alike r i t) (need_alike r i u)
  need_alike r i (NTForall k t) = need_alike r (suc i) t
  need_alike r i (NTCoForall s t u v) = ap₂ least (need_alike (role_within r s) i t) (ap₂ least (need_alike (role_within r s) i u) (need_alike r i v))

  fields_alike : (i : ℕ) (ts : List NTy) → need_in_fields ms i ts ≡ need_in_fields ns i ts
  fields_alike i [] = refl
  fields_alike i (t ∷ ts) = ap₂ least (need_alike R i t) (fields_alike i ts)

  con_alike : (i : ℕ) (bs : List NBinder) (ts : List NTy) → need_in_con ms i bs ts ≡ need_in_con ns i bs ts
  con_alike i [] ts = fields_alike i ts
  con_alike i (NBValue t ∷ bs) ts = ap₂ least (need_alike R i t) (con_alike i bs ts)
  con_alike i (NBType k ∷ bs) ts = con_alike (suc i) bs ts
  con_alike i (NBCo r t u ∷ bs) ts = ap₂ least (ap₂ least (need_alike r i t) (need_alike r i u)) (con_alike i bs ts)

  cons_alike : (i : ℕ) (cs : List NConDecl) → need_in_cons ms i cs ≡ need_in_cons ns i cs
  cons_alike i [] = refl
  cons_alike i (NConOf n bs ts ∷ cs) = ap₂ least (con_alike i bs ts) (cons_alike i cs)

  -- TYPE DECLARATIONS

  values_alike : {ks : List Kind} {ts : List NTy} → AreValueTypes ms ks ts → AreValueTypes ns ks ts
  values_alike no_types = no_types
  values_alike (one_type k p v more) = one_type k (kind_alike ms ns alike p) v (values_alike more)

  con_holds_alike : {ks : List Kind} {bs : List NBinder} {ts : List NTy} → ConHolds ms ks bs ts → ConHolds ns ks bs ts
  con_holds_alike (holds_fields h) = holds_fields (values_alike h)
  con_holds_alike (holds_type l more) = holds_type l (con_holds_alike more)
  con_holds_alike (holds_coercion k p q more) = holds_coercion k (kind_alike ms ns alike p) (kind_alike ms ns alike q) (con_holds_alike more)

  cons_hold_alike : {ks : List Kind} {cs : List NConDecl} → ConsHold ms ks cs → ConsHold ns ks cs
  cons_hold_alike no_cons = no_cons
  cons_hold_alike (one_con h more) = one_con (con_holds_alike h) (cons_hold_alike more)

  pub type_decl_holds_alike : {d : NDecl} → TypeDeclHolds ms d → TypeDeclHolds ns d
  type_decl_holds_alike (data_holds {cs = cs} l h roles) = data_holds l (cons_hold_alike h) (roles_hold (λ i. cons_alike i cs) roles)
  type_decl_holds_alike (newtype_holds {t = t} l h roles) = newtype_holds l (kind_alike ms ns alike h) (roles_hold (λ i. need_alike R i t) roles)
  type_decl_holds_alike (family_holds l k) = family_holds l k
  type_decl_holds_alike (axiom_holds {t = t} k l p q family) =
      axiom_holds k l (kind_alike ms ns alike p) (kind_alike ms ns alike q) (sym (families_alike ms ns alike 0 t) ∙ family)
  type_decl_holds_alike def_declares_no_type = def_declares_no_type
  type_decl_holds_alike wrap_declares_no_type = wrap_declares_no_type

  pub type_decls_hold_alike : {ds : List NDecl} → TypeDeclsHold ms ds → TypeDeclsHold ns ds
  type_decls_hold_alike no_type_decls = no_type_decls
  type_decls_hold_alike (one_type_decl h more) = one_type_decl (type_decl_holds_alike h) (type_decls_hold_alike more)

  -- DEFINITIONS

  -- the definitions that a declaration mentions have the same types
  abbrev pub MentionsAlike : NDecl → Type 0
  MentionsAlike (NDef n t e) = HaveTypes ms ns alike (names_in e)
  MentionsAlike (NWrap n t e) = HaveTypes ms ns alike (names_in e)
  MentionsAlike (NData n ps cs) = Unit {0}
  MentionsAlike (NNew n ps t con) = Unit {0}
  MentionsAlike (NFamily n ps k) = Unit {0}
  MentionsAlike (NAxiom n ps t u) = Unit {0}

  pub data MentionAlike : List NDecl → Type 0 where
    none_mention : MentionAlike []
    one_mentions : {d : NDecl} {ds : List NDecl} → MentionsAlike d → MentionAlike ds → MentionAlike (d ∷ ds)

  pub definition_holds_alike : {d : NDecl} → DefinitionHolds ms d → MentionsAlike d → DefinitionHolds ns d
  definition_holds_alike (def_holds p q) m = def_holds (kind_alike ms ns alike p) (type_alike ms ns alike q m)
  definition_holds_alike (wrap_holds p q) m = wrap_holds (kind_alike ms ns alike p) (type_alike ms ns alike q m)
  definition_holds_alike data_defines_nothing m = data_defines_nothing
  definition_holds_alike newtype_defines_nothing m = newtype_defines_nothing
  definition_holds_alike family_defines_nothing m = family_defines_nothing
  definition_holds_alike axiom_defines_nothing m = axiom_defines_nothing

  pub definitions_hold_alike : {ds : List NDecl} → DefinitionsHold ms ds → MentionAlike ds → DefinitionsHold ns ds
  definitions_hold_alike no_definitions none_mention = no_definitions
  definitions_hold_alike (one_definition h more) (one_mentions m rest) = one_definition (definition_holds_alike h m) (definitions_hold_alike more rest)
