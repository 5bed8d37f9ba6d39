-- Lint of a module by cases: one constructor for each rule of declarations, of definitions and of a module.
use Rattle.std.specs.Prelude.{◌≡◌, ℕ, true, List, [], ◌∷◌, length, reverse}
use Rattle.std.specs.List.{list_all}
use Rattle.fc_syntax.specs.declared.ty.Role.{Role}
use Rattle.fc_syntax.specs.declared.ty.Role.TheVariants.{R}
use Rattle.fc_syntax.specs.Roles.{role_below}
use Rattle.fc_syntax.specs.Tree.{Word, Kind, KStar}
use Rattle.fc_model.specs.Declaring.{ndeclared_words}
use Rattle.fc_model.specs.Kinding.{Modules, HasKind, is_family_applied, is_lifted, is_value_kind, param_kinds}
use Rattle.fc_model.specs.Nameless.{NTy, NBinder, NBType, NBCo, NParam, NParamOf, NConDecl, NConOf, NDecl, NData, NNew, NFamily, NAxiom, NDef, NWrap, NExpr, NModule, NModuleOf}
use Rattle.fc_model.specs.Needs.{need_in, need_in_cons}
use Rattle.fc_model.specs.Resolution.{no_word, plus_all}
use Rattle.fc_model.specs.Typing.{no_context}
use Rattle.fc_model.specs.TypingRules.{HasType}

-- TYPE DECLARATIONS

-- types of the kinds of values
pub data AreValueTypes (ms : Modules) (ks : List Kind) : List NTy → Type 0 where
  no_types : AreValueTypes ms ks []
  one_type : {t : NTy} {ts : List NTy} (k : Kind) → HasKind ms ks t k → is_value_kind k ≡ true → AreValueTypes ms ks ts → AreValueTypes ms ks (t ∷ ts)

-- the binders of a constructor, types and coercions, and then its fields
pub data ConHolds (ms : Modules) : List Kind → List NBinder → List NTy → Type 0 where
  holds_fields : {ks : List Kind} {ts : List NTy} → AreValueTypes ms ks ts → ConHolds ms ks [] ts
  holds_type : {ks : List Kind} {k : Kind} {bs : List NBinder} {ts : List NTy} → is_lifted k ≡ true → ConHolds ms (k ∷ ks) bs ts → ConHolds ms ks (NBType k ∷ bs) ts
  holds_coercion : {ks : List Kind} {r : Role} {t u : NTy} {bs : List NBinder} {ts : List NTy} (k : Kind) → HasKind ms ks t k → HasKind ms ks u k → ConHolds ms ks bs ts
      → ConHolds ms ks (NBCo r t u ∷ bs) ts

pub data ConsHold (ms : Modules) (ks : List Kind) : List NConDecl → Type 0 where
  no_cons : ConsHold ms ks []
  one_con : {n : Word} {bs : List NBinder} {ts : List NTy} {cs : List NConDecl} → ConHolds ms ks bs ts → ConsHold ms ks cs → ConsHold ms ks (NConOf n bs ts ∷ cs)

-- no role is above its parameter's need
pub data RolesHold (needed : ℕ → Role) : List NParam → Type 0 where
  no_roles : RolesHold needed []
  one_role : {k : Kind} {r : Role} {ps : List NParam} → role_below r (needed (length ps)) ≡ true → RolesHold needed ps → RolesHold needed (NParamOf k r ∷ ps)

pub data TypeDeclHolds (ms : Modules) : NDecl → Type 0 where
  data_holds : {n : Word} {ps : List NParam} {cs : List NConDecl} → list_all is_lifted (param_kinds ps) ≡ true → ConsHold ms (reverse (param_kinds ps)) cs
      → RolesHold (λ p. need_in_cons ms p cs) ps → TypeDeclHolds ms (NData n ps cs)
  newtype_holds : {n con : Word} {ps : List NParam} {t : NTy} → list_all is_lifted (param_kinds ps) ≡ true → HasKind ms (reverse (param_kinds ps)) t KStar
      → RolesHold (λ p. need_in ms R p t) ps → TypeDeclHolds ms (NNew n ps t con)
  family_holds : {n : Word} {ks : List Kind} {k : Kind} → list_all is_lifted ks ≡ true → is_lifted k ≡ true → TypeDeclHolds ms (NFamily n ks k)
  axiom_holds : {n : Word} {ks : List Kind} {t u : NTy} (k : Kind) → list_all is_lifted ks ≡ true → HasKind ms (reverse ks) t k → HasKind ms (reverse ks) u k
      → is_family_applied ms 0 t ≡ true → TypeDeclHolds ms (NAxiom n ks t u)
  def_declares_no_type : {n : Word} {t : NTy} {e : NExpr} → TypeDeclHolds ms (NDef n t e)
  wrap_declares_no_type : {n : Word} {t : NTy} {e : NExpr} → TypeDeclHolds ms (NWrap n t e)

pub data TypeDeclsHold (ms : Modules) : List NDecl → Type 0 where
  no_type_decls : TypeDeclsHold ms []
  one_type_decl : {d : NDecl} {ds : List NDecl} → TypeDeclHolds ms d → TypeDeclsHold ms ds → TypeDeclsHold ms (d ∷ ds)

-- DEFINITIONS

-- a definition has a type of kind `*`, and its right side has that type
pub data DefinitionHolds (ms : Modules) : NDecl → Type 0 where
  def_holds : {n : Word} {t : NTy} {e : NExpr} → HasKind ms [] t KStar → HasType ms no_context e t → DefinitionHolds ms (NDef n t e)
  wrap_holds : {n : Word} {t : NTy} {e : NExpr} → HasKind ms [] t KStar → HasType ms no_context e t → DefinitionHolds ms (NWrap n t e)
  data_defines_nothing : {n : Word} {ps : List NParam} {cs : List NConDecl} → DefinitionHolds ms (NData n ps cs)
  newtype_defines_nothing : {n con : Word} {ps : List NParam} {t : NTy} → DefinitionHolds ms (NNew n ps t con)
  family_defines_nothing : {n : Word} {ks : List Kind} {k : Kind} → DefinitionHolds ms (NFamily n ks k)
  axiom_defines_nothing : {n : Word} {ks : List Kind} {t u : NTy} → DefinitionHolds ms (NAxiom n ks t u)

pub data DefinitionsHold (ms : Modules) : List NDecl → Type 0 where
  no_definitions : DefinitionsHold ms []
  one_definition : {d : NDecl} {ds : List NDecl} → DefinitionHolds ms d → DefinitionsHold ms ds → DefinitionsHold ms (d ∷ ds)

-- MODULES

-- exported and hidden words are declared, and declarations and definitions hold against modules
pub data ModuleHolds (ms : Modules) : NModule → Type 0 where
  module_holds : {m : Word} {imports exports hidden : List Word} {ds : List NDecl} → list_all (plus_all (ndeclared_words ds) no_word) exports ≡ true
      → list_all (plus_all (ndeclared_words ds) no_word) hidden ≡ true → TypeDeclsHold ms ds → DefinitionsHold ms ds
      → ModuleHolds ms (NModuleOf m imports exports hidden ds)
