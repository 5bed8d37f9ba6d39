-- What the numbers of the types of what modules declare mean.
use Rattle.std.specs.Prelude.{◌≡◌, List, [], map, Option, Some, None}
use Rattle.fc_model.specs.Calling.{Constructor, constructor_type, over_binders}
use Rattle.fc_model.specs.Coercing.{Axiom}
use Rattle.fc_model.specs.Kinding.{Modules}
use Rattle.fc_model.specs.Nameless.{NBType, NDecl, NTInt, NTy}
use Rattle.fc_syntax.specs.Tree.{Kind, Word}
use Rattle.fc_syntax.specs.declared.ty.Name.{Name}
use Rattle.fc_type_scope.specs.Scopes.{AreTypesAt, shown_all_at}
use Rattle.fc_type_table.specs.Scopes.{IsTypeAt, shown_at}
use Rattle.fc_type_table.specs.declared.node.Node.{Node}
use Rattle.fc_types.specs.Listed.{definition_types, own_axioms, own_constructors}
use Rattle.fc_types.specs.TableViews.{axiom_of}
use Rattle.fc_types.specs.ModuleViews.{modules_of}
use Rattle.fc_types.specs.declared.declarations.Declarations.{Declarations}
use Rattle.fc_lint_context.specs.declared.declared_types.DeclaredTypes.{DeclaredTypes}
use Rattle.fc_lint_context.specs.declared.declared_types.TypedAxiom.{TypedAxiom}

-- what is declared
abbrev pub modules_read : DeclaredTypes → Modules
modules_read d = modules_of d.declared.now

-- a name of a module
abbrev pub name_in : Word → Word → Name
name_in m w = record { «module» = Some m; text = w }

-- a constructor of a module as a function of its binders; of its name, only the module counts
abbrev pub own_constructor_type : Word → Constructor → NTy
own_constructor_type m k = constructor_type (name_in m k.data_word) k

-- the constructors as functions of their binders, each in its own module
unfoldable pub constructor_types : Declarations → List NTy
constructor_types d = map (λ k. own_constructor_type k.0 k.1) (own_constructors d)

-- a side of an axiom as a `forall` over the axiom's parameters
abbrev pub over_kinds : List Kind → NTy → NTy
over_kinds ks t = over_binders (map NBType ks) t

-- the sides of the axiom of a declaration; a declaration that has none counts as one of `Int#`
abbrev pub left_side : Option Axiom → NTy
left_side (Some a) = over_kinds a.params a.ends.left
left_side None = NTInt

abbrev pub right_side : Option Axiom → NTy
right_side (Some a) = over_kinds a.params a.ends.right
right_side None = NTInt

-- the sides of the axiom of a declaration of the module of a word
abbrev pub axiom_left : Word × NDecl → NTy
axiom_left a = left_side (axiom_of (Some a.0) a.1)

abbrev pub axiom_right : Word × NDecl → NTy
axiom_right a = right_side (axiom_of (Some a.0) a.1)

unfoldable pub axiom_lefts : Declarations → List NTy
axiom_lefts d = map axiom_left (own_axioms d)

unfoldable pub axiom_rights : Declarations → List NTy
axiom_rights d = map axiom_right (own_axioms d)

-- the sides of an axiom are types, and show what it relates
pub record AreSidesAt (ns : List Node) (ks : List Kind) (k : TypedAxiom) : Type 0 where
  pub left : IsTypeAt ns ks k.left.0
  pub right : IsTypeAt ns ks k.right.0

pub record ShowSides (ns : List Node) (ks : List Kind) (k : TypedAxiom) (a : Axiom) : Type 0 where
  pub left : shown_at ns ks k.left.0 ≡ over_kinds a.params a.ends.left
  pub right : shown_at ns ks k.right.0 ≡ over_kinds a.params a.ends.right

-- the numbers of the types of definitions, of constructors and of the sides of axioms are right in the table, with no type variable in scope
pub record AreRead (ns : List Node) (d : DeclaredTypes) : Type 0 where
  pub definitions_in : AreTypesAt ns [] d.definition_types
  pub definitions : shown_all_at ns [] d.definition_types ≡ definition_types d.declared.now
  pub constructors_in : AreTypesAt ns [] d.constructor_types
  pub constructors : shown_all_at ns [] d.constructor_types ≡ constructor_types d.declared.now
  pub lefts_in : AreTypesAt ns [] d.axiom_lefts
  pub lefts : shown_all_at ns [] d.axiom_lefts ≡ axiom_lefts d.declared.now
  pub rights_in : AreTypesAt ns [] d.axiom_rights
  pub rights : shown_all_at ns [] d.axiom_rights ≡ axiom_rights d.declared.now
