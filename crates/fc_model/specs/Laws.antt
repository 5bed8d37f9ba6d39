-- What the judgements as functions and the relations by cases have to do with each other.
use Rattle.std.specs.Prelude.{◌≡◌, ◌↔◌, ℕ, true, List, Some, Ok}
use Rattle.fc_syntax.specs.declared.ty.Role.{Role}
use Rattle.fc_syntax.specs.Tree.{Kind, Module}
use Rattle.fc_model.specs.Kinding.{Modules, HasHeadKind, head_kind_or_fault, same_type}
use Rattle.fc_model.specs.Linting.{done, lint_or_fault}
use Rattle.fc_model.specs.LintingRules.{ModuleHolds}
use Rattle.fc_model.specs.Nameless.{NConDecl, NExpr, NModule, NTy}
use Rattle.fc_model.specs.Needs.{IsNeed, OccursAt, OccursInCons, need_in, need_in_cons}
use Rattle.fc_model.specs.Resolution.{resolved_or_fault}
use Rattle.fc_model.specs.ResolutionRules.{Resolves}
use Rattle.fc_model.specs.Typing.{Context, type_or_fault, type_read_off}
use Rattle.fc_model.specs.TypingRules.{HasType}

-- the function gives a nameless form exactly where the rules do
abbrev pub NamelessFormsAreByCases : Type 0
NamelessFormsAreByCases = (m : Module) (n : NModule) → (resolved_or_fault m ≡ Ok n) ↔ Resolves m n

-- a module has at most one nameless form
abbrev pub NamelessFormsAreUnique : Type 0
NamelessFormsAreUnique = (m : Module) (n k : NModule) → Resolves m n → Resolves m k → n ≡ k

-- the test for sameness of types is their equality
abbrev pub SamenessIsEquality : Type 0
SamenessIsEquality = (s t : NTy) → (same_type s t ≡ true) ↔ (s ≡ t)

-- the function gives a kind exactly where the relation does
abbrev pub KindsAreByCases : Type 0
KindsAreByCases = (ms : Modules) (ks : List Kind) (args : ℕ) (t : NTy) (k : Kind) → (head_kind_or_fault ms ks args t ≡ Ok k) ↔ HasHeadKind ms ks args t k

-- a type has at most one kind
abbrev pub KindsAreUnique : Type 0
KindsAreUnique = (ms : Modules) (ks : List Kind) (args : ℕ) (t : NTy) (j k : Kind) → HasHeadKind ms ks args t j → HasHeadKind ms ks args t k → j ≡ k

-- the function gives a type exactly where the relation does
abbrev pub TypesAreByCases : Type 0
TypesAreByCases = (ms : Modules) (c : Context) (e : NExpr) (t : NTy) → (type_or_fault ms c e ≡ Ok t) ↔ HasType ms c e t

-- an expression has at most one type
abbrev pub TypesAreUnique : Type 0
TypesAreUnique = (ms : Modules) (c : Context) (e : NExpr) (s t : NTy) → HasType ms c e s → HasType ms c e t → s ≡ t

-- where an expression has a type, it is the one that is read off
abbrev pub TypesAreReadOff : Type 0
TypesAreReadOff = (ms : Modules) (c : Context) (e : NExpr) (t : NTy) → HasType ms c e t → type_read_off ms c e ≡ Some t

-- the need of a variable is the least of the roles at which it occurs, in a type and in constructors
abbrev pub NeedsAreLeast : Type 0
NeedsAreLeast = (ms : Modules) (r : Role) (i : ℕ) (t : NTy) → IsNeed (OccursAt ms r i t) (need_in ms r i t)

abbrev pub ConstructorNeedsAreLeast : Type 0
ConstructorNeedsAreLeast = (ms : Modules) (i : ℕ) (cs : List NConDecl) → IsNeed (OccursInCons ms i cs) (need_in_cons ms i cs)

-- Lint as a function finds no fault exactly where the rules hold
abbrev pub LintIsByCases : Type 0
LintIsByCases = (ms : Modules) (n : NModule) → (lint_or_fault ms n ≡ Ok done) ↔ ModuleHolds ms n
