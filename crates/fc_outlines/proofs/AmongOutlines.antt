-- Among the outlines of modules, kinds, coercions and types are those among the modules.
use Rattle.std.proofs.Common.{◌≡◌, ◌↔◌, ℕ, Bool, true, false, if◌then◌else◌, bytes_eq, List, [], ◌∷◌, map, Option, Some, None, refl, ap, ◌∙◌}
use Rattle.fc_syntax.specs.declared.ty.Role.{Role}
use Rattle.fc_syntax.specs.Tree.{Word, Kind}
use Rattle.fc_model.specs.Calling.{con_among, con_decl, first_of}
use Rattle.fc_model.specs.Coercing.{Ends, axiom_decl}
use Rattle.fc_model.specs.CoercingRules.{Proves}
use Rattle.fc_model.specs.Kinding.{HasHeadKind, decls_at, decls_of_module, type_decl}
use Rattle.fc_model.specs.LintingRules.{DefinitionsHold}
use Rattle.fc_model.specs.Nameless.{NTy, NCo, NExpr, NDecl, NData, NNew, NFamily, NAxiom, NDef, NWrap, NModule, NModuleOf}
use Rattle.fc_model.specs.Typing.{Context, def_type, type_read_off}
use Rattle.fc_model.specs.TypingRules.{HasType}
use Rattle.fc_model.proofs.TypesRead.{type_is_read_off}
use Rattle.fc_outlines.specs.Headers.{SameHeaders}
use Rattle.fc_outlines.specs.Outlines.{outlined_all, outlined_decl}
use Rattle.fc_outlines.proofs.Alike.{kind_alike, proves_alike}
use Rattle.fc_outlines.proofs.HeadersAlone.{turned, turned_alike, type_there, definitions_there}

-- DECLARATIONS

-- the same is found behind another declaration
found_behind : {X : Type 0} (b : Bool) (x y z : X) → y ≡ z → (if b then x else y) ≡ (if b then x else z)
found_behind b x y z h = ap (λ o. if b then x else o) h

same_type_decl : (ds : List NDecl) (w : Word) → type_decl ds w ≡ type_decl (map outlined_decl ds) w
same_type_decl [] w = refl
same_type_decl (NData n ps cs ∷ ds) w = found_behind (bytes_eq n w) _ _ _ (same_type_decl ds w)
same_type_decl (NNew n ps t con ∷ ds) w = found_behind (bytes_eq n w) _ _ _ (same_type_decl ds w)
same_type_decl (NFamily n ps k ∷ ds) w = found_behind (bytes_eq n w) _ _ _ (same_type_decl ds w)
same_type_decl (NAxiom n ps t u ∷ ds) w = same_type_decl ds w
same_type_decl (NDef n t e ∷ ds) w = same_type_decl ds w
same_type_decl (NWrap n t e ∷ ds) w = same_type_decl ds w

same_con_decl : (ds : List NDecl) (w : Word) → con_decl ds w ≡ con_decl (map outlined_decl ds) w
same_con_decl [] w = refl
same_con_decl (NData n ps cs ∷ ds) w = ap (λ o. first_of (con_among n ps 0 cs w) o) (same_con_decl ds w)
same_con_decl (NNew n ps t con ∷ ds) w = same_con_decl ds w
same_con_decl (NFamily n ps k ∷ ds) w = same_con_decl ds w
same_con_decl (NAxiom n ps t u ∷ ds) w = same_con_decl ds w
same_con_decl (NDef n t e ∷ ds) w = same_con_decl ds w
same_con_decl (NWrap n t e ∷ ds) w = same_con_decl ds w

same_axiom_decl : (m : Option Word) (ds : List NDecl) (w : Word) → axiom_decl m ds w ≡ axiom_decl m (map outlined_decl ds) w
same_axiom_decl m [] w = refl
same_axiom_decl m (NData n ps cs ∷ ds) w = same_axiom_decl m ds w
same_axiom_decl m (NNew n ps t con ∷ ds) w = found_behind (bytes_eq con w) _ _ _ (same_axiom_decl m ds w)
same_axiom_decl m (NFamily n ps k ∷ ds) w = same_axiom_decl m ds w
same_axiom_decl m (NAxiom n ps t u ∷ ds) w = found_behind (bytes_eq n w) _ _ _ (same_axiom_decl m ds w)
same_axiom_decl m (NDef n t e ∷ ds) w = same_axiom_decl m ds w
same_axiom_decl m (NWrap n t e ∷ ds) w = same_axiom_decl m ds w

same_def_type : (ds : List NDecl) (w : Word) → def_type ds w ≡ def_type (map outlined_decl ds) w
same_def_type [] w = refl
same_def_type (NData n ps cs ∷ ds) w = same_def_type ds w
same_def_type (NNew n ps t con ∷ ds) w = same_def_type ds w
same_def_type (NFamily n ps k ∷ ds) w = same_def_type ds w
same_def_type (NAxiom n ps t u ∷ ds) w = same_def_type ds w
same_def_type (NDef n t e ∷ ds) w = found_behind (bytes_eq n w) _ _ _ (same_def_type ds w)
same_def_type (NWrap n t e ∷ ds) w = found_behind (bytes_eq n w) _ _ _ (same_def_type ds w)

-- MODULES

-- the declarations of the module that is found are outlined, whichever it is
either_outlined : (b : Bool) (ds es : List NDecl) → (if b then map outlined_decl ds else map outlined_decl es) ≡ map outlined_decl (if b then ds else es)
either_outlined true ds es = refl
either_outlined false ds es = refl

-- the declarations of a module among outlines are those of the module, outlined
pub outlined_module : (ms : List NModule) (w : Word) → decls_of_module (outlined_all ms) w ≡ map outlined_decl (decls_of_module ms w)
outlined_module [] w = refl
outlined_module (NModuleOf n imports exports hidden ds ∷ ms) w =
    found_behind (bytes_eq n w) (map outlined_decl ds) _ _ (outlined_module ms w) ∙ either_outlined (bytes_eq n w) ds (decls_of_module ms w)

-- the same of the module of a name, where a name without one has no declarations
pub outlined_at : (ms : List NModule) (o : Option Word) → decls_at (outlined_all ms) o ≡ map outlined_decl (decls_at ms o)
outlined_at ms None = refl
outlined_at ms (Some w) = outlined_module ms w

-- outlines declare what the modules declare
pub outlines_declare : (ms : List NModule) → SameHeaders (decls_at ms) (decls_at (outlined_all ms))
outlines_declare ms = record {
  alike = record {
    types = λ o w. rw (outlined_at ms o) (same_type_decl (decls_at ms o) w);
    constructors = λ o w. rw (outlined_at ms o) (same_con_decl (decls_at ms o) w);
    axioms = λ o w. rw (outlined_at ms o) (same_axiom_decl o (decls_at ms o) w);
  };
  values = λ n. rw (outlined_at ms n.module) (same_def_type (decls_at ms n.module) n.text);
}

-- JUDGEMENTS, the same among modules and among their outlines

module _ (ms : List NModule) where
  -- a kind of a type, the head of that many arguments
  pub kinds_by_outlines : (ks : List Kind) (args : ℕ) (t : NTy) (k : Kind) → HasHeadKind (decls_at ms) ks args t k ↔ HasHeadKind (decls_at (outlined_all ms)) ks args t k
  kinds_by_outlines ks args t k =
      (λ h. kind_alike _ _ (outlines_declare ms).alike h, λ h. kind_alike _ _ (turned_alike _ _ (outlines_declare ms).alike) h)

  -- what a coercion proves
  pub proofs_by_outlines : (ks : List Kind) (cs : List Ends) (g : NCo) (r : Role) (s t : NTy)
      → Proves (decls_at ms) ks cs g r s t ↔ Proves (decls_at (outlined_all ms)) ks cs g r s t
  proofs_by_outlines ks cs g r s t =
      (λ h. proves_alike _ _ (outlines_declare ms).alike h, λ h. proves_alike _ _ (turned_alike _ _ (outlines_declare ms).alike) h)

  -- a type of an expression
  pub types_by_outlines : (c : Context) (e : NExpr) (t : NTy) → HasType (decls_at ms) c e t ↔ HasType (decls_at (outlined_all ms)) c e t
  types_by_outlines c e t =
      (λ h. type_there _ _ (outlines_declare ms) h, λ h. type_there _ _ (turned _ _ (outlines_declare ms)) h)

  -- definitions hold
  pub definitions_by_outlines : (ds : List NDecl) → DefinitionsHold (decls_at ms) ds ↔ DefinitionsHold (decls_at (outlined_all ms)) ds
  definitions_by_outlines ds =
      (λ h. definitions_there _ _ (outlines_declare ms) h, λ h. definitions_there _ _ (turned _ _ (outlines_declare ms)) h)

  -- where an expression has a type among the modules, it is the one that is read off among their outlines
  pub type_read_off_by_outlines : (c : Context) (e : NExpr) (t : NTy) → HasType (decls_at ms) c e t → type_read_off (decls_at (outlined_all ms)) c e ≡ Some t
  type_read_off_by_outlines c e t typed = type_is_read_off (decls_at (outlined_all ms)) (type_there _ _ (outlines_declare ms) typed)
