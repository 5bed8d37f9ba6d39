-- The definitions, the axioms and the constructors of modules in the order of the first declarations of their words.
use Rattle.std.specs.Prelude.{◌≡◌, List, map, Some, Ok}
use Rattle.fc_model.specs.Kinding.{Modules}
use Rattle.fc_model.specs.Nameless.{NDecl, NTy}
use Rattle.fc_model.specs.NamelessView.{ndecl_of, nty_of}
use Rattle.fc_model.specs.Calling.{Constructor, constructor}
use Rattle.fc_model.specs.Typing.{value_type}
use Rattle.fc_syntax.specs.declared.ty.Name.{Name}
use Rattle.fc_syntax.specs.Tree.{Word}
use Rattle.fc_types.specs.TableViews.{constructor_of}
use Rattle.fc_types.specs.declared.declarations.Declarations.{Declarations}
use Rattle.fc_types.specs.declared.tables.DeclaredAxiom.{DeclaredAxiom}
use Rattle.fc_types.specs.declared.tables.DeclaredCon.{DeclaredCon}
use Rattle.indexmap.specs.IndexMap.{values}

-- the types of the definitions
unfoldable pub definition_types : Declarations → List NTy
definition_types d = map (λ t. nty_of t.now) (values d.tables.definitions)

-- the declarations of the axioms
unfoldable pub axioms_in : Declarations → List NDecl
axioms_in d = map (λ a. ndecl_of a.decl.now) (values d.tables.axioms)

-- the constructors
unfoldable pub constructors_in : Declarations → List Constructor
constructors_in d = map constructor_of (values d.tables.constructors)

-- the type of a definition, of some name
abbrev pub IsDefinitionType : Modules → NTy → Type 0
IsDefinitionType ms t = (n : Name) × (value_type ms n ≡ Ok t)

-- an axiom and a constructor with the words of their modules
abbrev pub own_axiom : DeclaredAxiom → Word × NDecl
own_axiom a = (a.module.now, ndecl_of a.decl.now)

abbrev pub own_constructor : DeclaredCon → Word × Constructor
own_constructor c = (c.module.now, constructor_of c)

-- the axioms and the constructors with the words of their modules
unfoldable pub own_axioms : Declarations → List (Word × NDecl)
own_axioms d = map own_axiom (values d.tables.axioms)

unfoldable pub own_constructors : Declarations → List (Word × Constructor)
own_constructors d = map own_constructor (values d.tables.constructors)

-- a constructor, of some name
abbrev pub IsConstructor : Modules → Constructor → Type 0
IsConstructor ms k = (n : Name) × (constructor ms n ≡ Some k)
