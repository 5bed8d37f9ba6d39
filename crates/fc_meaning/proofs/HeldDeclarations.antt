-- What holds of what is found in modules whose declarations and definitions hold: types of definitions are lifted, and types that a
-- constructor takes are of kinds without `#`.
use Rattle.std.proofs.Common.{◌≡◌, ℕ, ◌+◌, All, true, bytes_eq, List, [], ◌∷◌, Option, Some, None, Ok, refl}
use Rattle.std.proofs.lemmas.List.Elements.{All-head, All-tail, All-weaker}
use Rattle.std.specs.List.{list_all}
use Rattle.fc_syntax.specs.declared.ty.Name.{Name}
use Rattle.fc_syntax.specs.Tree.{Word, Kind}
use Rattle.fc_model.specs.Calling.{Constructor, con_among, con_decl, constructor, first_of}
use Rattle.fc_model.specs.Erasure.{sort_of_type}
use Rattle.fc_model.specs.Headers.{ndecls_in}
use Rattle.fc_model.specs.Kinding.{Modules, decls_at, decls_of_module, is_lifted, param_kinds}
use Rattle.fc_model.specs.LintingRules.{ConHolds, ConsHold, no_cons, one_con, TypeDeclsHold, no_type_decls, one_type_decl, data_holds, newtype_holds, family_holds, axiom_holds, def_declares_no_type, wrap_declares_no_type}
use Rattle.fc_model.specs.LintingRules.{DefinitionsHold, no_definitions, one_definition, def_holds, wrap_holds, data_defines_nothing, newtype_defines_nothing, family_defines_nothing, axiom_defines_nothing}
use Rattle.fc_model.specs.LintingRules.{ModuleHolds, module_holds}
use Rattle.fc_model.specs.Nameless.{NTy, NParam, NConDecl, NDecl, NModule, NModuleOf}
use Rattle.fc_model.specs.Terms.{Lifted}
use Rattle.fc_model.specs.Typing.{def_type, value_type}
use Rattle.fc_model.proofs.Parts.{err_ok, ok_ok}
use Rattle.fc_meaning.proofs.Optional.{cond_keeps, found_has, some_is, none_some}
use Rattle.fc_meaning.proofs.SortsOfTypes.{lifted_by_kind}

-- whatever modules declare holds against them
pub record AreHeld (ms : Modules) : Type 0 where
  pub types : (o : Option Word) → TypeDeclsHold ms (ms o)
  pub definitions : (o : Option Word) → DefinitionsHold ms (ms o)

-- MODULES

-- what holds where nothing is declared, and of the declarations of each module, holds of whatever the modules declare
module _ (P : List NDecl → Type 0) (none : P []) where
  of_module_have : (ns : List NModule) → All (λ n. P (ndecls_in n)) ns → (w : Word) → P (decls_of_module ns w)
  of_module_have [] all w = none
  of_module_have (NModuleOf m imports exports hidden ds ∷ ns) all w =
      let n = NModuleOf m imports exports hidden ds in
      cond_keeps P (bytes_eq m w) ds (decls_of_module ns w) (All-head (λ k. P (ndecls_in k)) n ns all) (of_module_have ns (All-tail (λ k. P (ndecls_in k)) n ns all) w)

  pub declared_have : (ns : List NModule) → All (λ n. P (ndecls_in n)) ns → (o : Option Word) → P (decls_at ns o)
  declared_have ns all None = none
  declared_have ns all (Some w) = of_module_have ns all w

module_parts : {ms : Modules} {n : NModule} → ModuleHolds ms n → TypeDeclsHold ms (ndecls_in n) × DefinitionsHold ms (ndecls_in n)
module_parts (module_holds x h types definitions) = (types, definitions)

-- what modules declare that hold against all of them holds against them
pub modules_are_held : (ns : List NModule) → All (ModuleHolds (decls_at ns)) ns → AreHeld (decls_at ns)
modules_are_held ns all =
    let ds = decls_at ns in
    record {
      types = declared_have (TypeDeclsHold ds) no_type_decls ns (All-weaker (ModuleHolds ds) (λ n. TypeDeclsHold ds (ndecls_in n)) (λ n holds. (module_parts holds).0) ns all);
      definitions = declared_have (DefinitionsHold ds) no_definitions ns (All-weaker (ModuleHolds ds) (λ n. DefinitionsHold ds (ndecls_in n)) (λ n holds. (module_parts holds).1) ns all);
    }

-- DEFINITIONS

-- the types of definitions are lifted
def_lifted : {ms : Modules} {ds : List NDecl} → DefinitionsHold ms ds → (w : Word) (t : NTy) → def_type ds w ≡ Ok t → sort_of_type t ≡ Lifted
def_lifted no_definitions w t h = err_ok h
def_lifted (one_definition {ds = ds} (def_holds {n = n} {t = u} kind e) rest) w t h =
    found_has (λ x. sort_of_type x ≡ Lifted) (λ x. Ok x) (λ x y same. ok_ok same) (bytes_eq n w) u t (def_type ds w) (lifted_by_kind kind refl) (λ q. def_lifted rest w t q) h
def_lifted (one_definition {ds = ds} (wrap_holds {n = n} {t = u} kind e) rest) w t h =
    found_has (λ x. sort_of_type x ≡ Lifted) (λ x. Ok x) (λ x y same. ok_ok same) (bytes_eq n w) u t (def_type ds w) (lifted_by_kind kind refl) (λ q. def_lifted rest w t q) h
def_lifted (one_definition data_defines_nothing rest) w t h = def_lifted rest w t h
def_lifted (one_definition newtype_defines_nothing rest) w t h = def_lifted rest w t h
def_lifted (one_definition family_defines_nothing rest) w t h = def_lifted rest w t h
def_lifted (one_definition axiom_defines_nothing rest) w t h = def_lifted rest w t h

-- no variable of modules whose declarations hold has the type `Int#`
pub value_lifted : {ms : Modules} → AreHeld ms → (n : Name) (t : NTy) → value_type ms n ≡ Ok t → sort_of_type t ≡ Lifted
value_lifted held n t e = def_lifted (held.definitions n.module) n.text t e

-- CONSTRUCTORS

-- the types that a constructor takes are of kinds without `#`, and no value stands among them
pub record ConstructorHolds (ms : Modules) (k : Constructor) : Type 0 where
  pub params : list_all is_lifted (param_kinds k.params) ≡ true
  pub kinds : List Kind
  pub holds : ConHolds ms kinds k.binders k.fields

con_among_holds : {ms : Modules} {ks : List Kind} {cs : List NConDecl} → ConsHold ms ks cs → (d : Word) (ps : List NParam) → list_all is_lifted (param_kinds ps) ≡ true
    → (i : ℕ) (w : Word) (k : Constructor) → con_among d ps i cs w ≡ Some k → ConstructorHolds ms k
con_among_holds no_cons d ps l i w k h = absurd (none_some h)
con_among_holds {ms = ms} {ks = ks} (one_con {n = n} {bs = bs} {ts = ts} {cs = cs} con rest) d ps l i w k h =
    let here : Constructor = record { data_word = d; params = ps; number = i; binders = bs; fields = ts } in
    found_has (ConstructorHolds ms) (λ x. Some x) (λ x y same. some_is same) (bytes_eq n w) here k (con_among d ps (i + 1) cs w)
    (record { params = l; kinds = ks; holds = con }) (λ q. con_among_holds rest d ps l (i + 1) w k q) h

-- what is found first or else is found in one of two places
first_has : {X : Type 0} (P : X → Type 0) (o p : Option X) (x : X) → (o ≡ Some x → P x) → (p ≡ Some x → P x) → first_of o p ≡ Some x → P x
first_has P (Some y) p x f g h = f h
first_has P None p x f g h = g h

con_decl_holds : {ms : Modules} {ds : List NDecl} → TypeDeclsHold ms ds → (w : Word) (k : Constructor) → con_decl ds w ≡ Some k → ConstructorHolds ms k
con_decl_holds no_type_decls w k h = absurd (none_some h)
con_decl_holds {ms = ms} (one_type_decl {ds = ds} (data_holds {n = n} {ps = ps} {cs = cs} l cons roles) rest) w k h =
    first_has (ConstructorHolds ms) (con_among n ps 0 cs w) (con_decl ds w) k (λ q. con_among_holds cons n ps l 0 w k q) (λ q. con_decl_holds rest w k q) h
con_decl_holds (one_type_decl (newtype_holds l t roles) rest) w k h = con_decl_holds rest w k h
con_decl_holds (one_type_decl (family_holds l t) rest) w k h = con_decl_holds rest w k h
con_decl_holds (one_type_decl (axiom_holds j l t u f) rest) w k h = con_decl_holds rest w k h
con_decl_holds (one_type_decl def_declares_no_type rest) w k h = con_decl_holds rest w k h
con_decl_holds (one_type_decl wrap_declares_no_type rest) w k h = con_decl_holds rest w k h

pub constructor_holds : {ms : Modules} → AreHeld ms → (n : Name) (k : Constructor) → constructor ms n ≡ Some k → ConstructorHolds ms k
constructor_holds held n k e = con_decl_holds (held.types n.module) n.text k e
