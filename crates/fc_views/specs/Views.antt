-- What judgements see of modules. A view is a set of modules. What mentions modules of the view alone is judged by what these declare.
use Rattle.std.specs.Prelude.{◌≡◌, All, Bool, true, List, [], ◌++◌, Option, Some, Ok}
use Rattle.std.specs.List.{flat_map, list_all}
use Rattle.fc_syntax.specs.declared.ty.Name.{Name}
use Rattle.fc_syntax.specs.declared.ty.Role.{Role}
use Rattle.fc_syntax.specs.Tree.{Word, Kind}
use Rattle.fc_model.specs.Calling.{Constructor, con_decl, constructor}
use Rattle.fc_model.specs.Coercing.{Axiom, Ends, axiom_decl, axiom_named}
use Rattle.fc_model.specs.CoercingRules.{Proves}
use Rattle.fc_model.specs.Headers.{ndecls_in}
use Rattle.fc_model.specs.Kinding.{Modules, HasKind, type_decl}
use Rattle.fc_model.specs.LintingRules.{ModuleHolds}
use Rattle.fc_model.specs.Mentioning.{in_name}
use Rattle.fc_model.specs.Nameless.{NTy, NCo, NExpr, NDecl, NData, NNew, NFamily, NAxiom, NDef, NWrap, NModule}
use Rattle.fc_model.specs.Typing.{Context, JoinPoint, value_type}
use Rattle.fc_model.specs.TypingRules.{HasType}
use Rattle.fc_headers.specs.NamelessHeaders.{modules_in_binders, modules_in_coercion, modules_in_decl, modules_in_decls, modules_in_expr, modules_in_type, modules_in_types}
use Rattle.fc_reaching.specs.Reaching.{names_in}

-- VIEWS

-- the modules in view, by their words
abbrev pub View : Type 0
View = Word → Bool

-- all of these modules are in view
abbrev pub AreInView : View → List Word → Type 0
AreInView view ws = list_all view ws ≡ true

-- the module of a name is in view; so is a name without a module
abbrev pub IsModuleInView : View → Option Word → Type 0
IsModuleInView view o = AreInView view (in_name o)

abbrev pub IsNameInView : View → Name → Type 0
IsNameInView view n = IsModuleInView view n.module

-- in view both declare the same types, constructors and axioms
pub record AgreeInView (view : View) (ms ns : Modules) : Type 0 where
  pub types : (o : Option Word) (w : Word) → IsModuleInView view o → type_decl (ms o) w ≡ type_decl (ns o) w
  pub constructors : (o : Option Word) (w : Word) → IsModuleInView view o → con_decl (ms o) w ≡ con_decl (ns o) w
  pub axioms : (o : Option Word) (w : Word) → IsModuleInView view o → axiom_decl o (ms o) w ≡ axiom_decl o (ns o) w

-- What modules in view declare mentions modules in view alone: the binders and fields of constructors, the sides of axioms, and the types of
-- definitions. Right sides are not asked.
pub record IsClosedView (view : View) (ms : Modules) : Type 0 where
  pub constructors : (n : Name) (k : Constructor) → IsNameInView view n → constructor ms n ≡ Some k
      → AreInView view (modules_in_binders k.binders ++ modules_in_types k.fields)
  pub axioms : (n : Name) (a : Axiom) → IsNameInView view n → axiom_named ms n ≡ Some a → AreInView view (modules_in_type a.ends.left ++ modules_in_type a.ends.right)
  pub values : (n : Name) (t : NTy) → IsNameInView view n → value_type ms n ≡ Ok t → AreInView view (modules_in_type t)

-- the modules that a declaration mentions without its right side
abbrev pub modules_in_header : NDecl → List Word
modules_in_header (NData n ps cs) = modules_in_decl (NData n ps cs)
modules_in_header (NNew n ps t con) = modules_in_type t
modules_in_header (NFamily n ps k) = []
modules_in_header (NAxiom n ps t u) = modules_in_type t ++ modules_in_type u
modules_in_header (NDef n t e) = modules_in_type t
modules_in_header (NWrap n t e) = modules_in_type t

abbrev pub modules_in_headers : List NDecl → List Word
modules_in_headers ds = flat_map modules_in_header ds

-- CONTEXTS

-- both types mention modules in view alone
abbrev pub AreTypesInView : View → NTy → NTy → Type 0
AreTypesInView view t u = AreInView view (modules_in_type t ++ modules_in_type u)

abbrev pub AreEndsInView : View → Ends → Type 0
AreEndsInView view e = AreTypesInView view e.left e.right

abbrev pub IsJoinInView : View → JoinPoint → Type 0
IsJoinInView view j = AreTypesInView view j.type j.result

-- what local coercions prove, the types of local variables and those of join points mention modules in view alone
pub record IsContextInView (view : View) (c : Context) : Type 0 where
  pub coercions : All (AreEndsInView view) c.coercions
  pub values : All (λ t. AreInView view (modules_in_type t)) c.values
  pub joins : All (IsJoinInView view) c.joins

-- DEFINITIONS

-- the second tells the type that the definition of this name has in the first
abbrev pub KeepsItsType : Modules → Modules → Name → Type 0
KeepsItsType ms ns n = (t : NTy) → value_type ms n ≡ Ok t → value_type ns n ≡ Ok t

-- the definitions that the right side of a declaration mentions
abbrev pub names_in_decl : NDecl → List Name
names_in_decl (NData n ps cs) = []
names_in_decl (NNew n ps t con) = []
names_in_decl (NFamily n ps k) = []
names_in_decl (NAxiom n ps t u) = []
names_in_decl (NDef n t e) = names_in e
names_in_decl (NWrap n t e) = names_in e

abbrev pub names_in_decls : List NDecl → List Name
names_in_decls ds = flat_map names_in_decl ds

-- THE LAWS

-- a view is closed where the declarations of its modules, without right sides, mention modules in view alone
abbrev pub HeadersCloseViews : Type 0
HeadersCloseViews = (view : View) (ms : Modules) → ((o : Option Word) → IsModuleInView view o → AreInView view (modules_in_headers (ms o))) → IsClosedView view ms

-- declarations that mention modules in view alone do so without their right sides too
abbrev pub HeadersMentionFewer : Type 0
HeadersMentionFewer = (view : View) (ds : List NDecl) → AreInView view (modules_in_decls ds) → AreInView view (modules_in_headers ds)

-- the definitions that declarations in view mention are of modules in view
abbrev pub NamesAreInView : Type 0
NamesAreInView = (view : View) (ds : List NDecl) → AreInView view (modules_in_decls ds) → All (IsNameInView view) (names_in_decls ds)

-- what has a kind against the one has it against the other
abbrev pub KindsSeeTheView : Type 0
KindsSeeTheView = (view : View) (ms ns : Modules) → AgreeInView view ms ns → (ks : List Kind) (t : NTy) (k : Kind) → AreInView view (modules_in_type t)
    → HasKind ms ks t k → HasKind ns ks t k

-- what a coercion proves against the one it proves against the other, and its ends mention modules in view alone
abbrev pub CoercionsSeeTheView : Type 0
CoercionsSeeTheView = (view : View) (ms ns : Modules) → AgreeInView view ms ns → IsClosedView view ms → (ks : List Kind) (cs : List Ends) (g : NCo) (r : Role) (s t : NTy)
    → All (AreEndsInView view) cs → AreInView view (modules_in_coercion g) → Proves ms ks cs g r s t → Proves ns ks cs g r s t × AreTypesInView view s t

-- An expression has against the other the type that it has against the one, where the definitions that it mentions keep theirs, and its type
-- mentions modules in view alone.
abbrev pub ExpressionsSeeTheView : Type 0
ExpressionsSeeTheView = (view : View) (ms ns : Modules) → AgreeInView view ms ns → IsClosedView view ms → (c : Context) (e : NExpr) (t : NTy)
    → IsContextInView view c → AreInView view (modules_in_expr e) → All (KeepsItsType ms ns) (names_in e)
    → HasType ms c e t → HasType ns c e t × AreInView view (modules_in_type t)

-- a module that holds against the one holds against the other, where the definitions that its right sides mention keep their types
abbrev pub ModulesSeeTheView : Type 0
ModulesSeeTheView = (view : View) (ms ns : Modules) → AgreeInView view ms ns → IsClosedView view ms → (n : NModule)
    → AreInView view (modules_in_decls (ndecls_in n)) → All (KeepsItsType ms ns) (names_in_decls (ndecls_in n)) → ModuleHolds ms n → ModuleHolds ns n
