-- Numbers of types where type variables are in scope.
use Rattle.std.specs.Prelude.{List, map, All}
use Rattle.fc_syntax.specs.Tree.{Kind}
use Rattle.fc_model.specs.Nameless.{NTy}
use Rattle.fc_type_table.specs.Scopes.{IsTypeAt, shown_at}
use Rattle.fc_type_table.specs.TypeTables.{nodes_of}
use Rattle.fc_type_table.specs.declared.node.Node.{Node}
use Rattle.fc_type_table.specs.declared.node.TypeId.{TypeId}
use Rattle.fc_type_table.specs.declared.table.TypeTable.{TypeTable}
use Rattle.fc_type_table.specs.InScope.{IsScopeAt, kinds_of}
use Rattle.fc_type_scope.specs.declared.scope.TypeScope as code

-- the kinds of the type variables in scope, the innermost first
unfoldable pub scope_in : code.TypeScope → List Kind
scope_in s = kinds_of s.kinds.now

-- the numbers of the kinds are right in a table
abbrev pub IsScope : TypeTable → code.TypeScope → Type 0
IsScope table s = IsScopeAt (nodes_of table) s.kinds.now

-- each is the number of a type where type variables of these kinds are in scope
pub record AreTypesAt (ns : List Node) (ks : List Kind) (ids : List TypeId) : Type 0 where
  pub each : All (λ id. IsTypeAt ns ks id.0) ids

-- the types of the numbers there
unfoldable pub shown_all_at : List Node → List Kind → List TypeId → List NTy
shown_all_at ns ks ids = map (λ id. shown_at ns ks id.0) ids

abbrev pub AreTypes : TypeTable → List Kind → List TypeId → Type 0
AreTypes table ks ids = AreTypesAt (nodes_of table) ks ids

abbrev pub shown_all : TypeTable → List Kind → List TypeId → List NTy
shown_all table ks ids = shown_all_at (nodes_of table) ks ids
