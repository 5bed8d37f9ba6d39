-- What the contracts of a table of types speak of.
use Rattle.std.specs.Prelude.{◌≡◌, ℕ, ◌+◌, ◌<◌, List, length, Option}
use Rattle.fc_syntax.specs.declared.ty.Name.{Name}
use Rattle.fc_syntax.specs.Tree.{Kind}
use Rattle.fc_model.specs.Kinding.{Modules, type_decl}
use Rattle.fc_model.specs.Nameless.{NDecl, NTy}
use Rattle.fc_model.specs.Substituting.{renamed_type}
use Rattle.fc_types.specs.ModuleViews.{modules_of}
use Rattle.fc_type_table.specs.Nodes.{Extends, IsKindAt, kind_at}
use Rattle.fc_type_table.specs.Scopes.{IsTypeAt, shown_at}
use Rattle.fc_type_table.specs.declared.node.Node.{Node}
use Rattle.fc_type_table.specs.declared.node.TypeId.{TypeId}
use Rattle.fc_type_table.specs.declared.table.TypeTable.{TypeTable}

-- the nodes of a table, by their numbers
abbrev pub nodes_of : TypeTable → List Node
nodes_of table = table.nodes.keys

-- what is declared where the types of a table stand
abbrev pub modules_in : TypeTable → Modules
modules_in table = modules_of table.declared.now

-- a number of the table
abbrev pub IsNumber : TypeTable → TypeId → Type 0
IsNumber table id = id.0 < length (nodes_of table)

-- a number of the table, of a type whose variables stand in a context of type variables of these kinds, the innermost first
abbrev pub IsType : TypeTable → List Kind → TypeId → Type 0
IsType table ks id = IsTypeAt (nodes_of table) ks id.0

-- the type of a number in a context of type variables of these kinds
abbrev pub shown : TypeTable → List Kind → TypeId → NTy
shown table ks id = shown_at (nodes_of table) ks id.0

-- a number of the table, of a kind
abbrev pub IsKindId : TypeTable → TypeId → Type 0
IsKindId table id = IsKindAt (nodes_of table) id.0

-- the kind of a number
abbrev pub kind_shown : TypeTable → TypeId → Kind
kind_shown table id = kind_at (nodes_of table) id.0

-- the numbers of old are numbers of new and show the same, and both stand in the same modules
pub record Grows (old new : TypeTable) : Type 0 where
  pub nodes : Extends (nodes_of old) (nodes_of new)
  pub modules : modules_in new ≡ modules_in old

-- a type past more type variables of the context, all of them further in
abbrev pub past : ℕ → NTy → NTy
past more t = renamed_type (λ i. i + more) t

-- the declaration of the type of a name
abbrev pub declaration_in : Modules → Name → Option NDecl
declaration_in ms n = type_decl (ms n.module) n.text
