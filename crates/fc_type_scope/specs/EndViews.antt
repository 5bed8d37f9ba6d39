-- What coercions prove, where type variables are in scope.
use Rattle.std.specs.Prelude.{List, map, All}
use Rattle.fc_syntax.specs.Tree.{Kind}
use Rattle.fc_model.specs.Coercing.{Ends}
use Rattle.fc_type_table.specs.Scopes.{IsTypeAt, shown_at}
use Rattle.fc_type_table.specs.TypeTables.{nodes_of}
use Rattle.fc_type_table.specs.declared.node.Node.{Node}
use Rattle.fc_type_table.specs.declared.table.TypeTable.{TypeTable}
use Rattle.fc_type_scope.specs.declared.ends.Ends as code

-- both are numbers of types where type variables of these kinds are in scope
pub record IsEndsAt (ns : List Node) (ks : List Kind) (e : code.Ends) : Type 0 where
  pub left : IsTypeAt ns ks e.left.0
  pub right : IsTypeAt ns ks e.right.0

pub record AreEndsAt (ns : List Node) (ks : List Kind) (es : List code.Ends) : Type 0 where
  pub each : All (λ e. IsEndsAt ns ks e) es

-- the types of the numbers there
abbrev pub shown_ends_at : List Node → List Kind → code.Ends → Ends
shown_ends_at ns ks e = record { role = e.role; left = shown_at ns ks e.left.0; right = shown_at ns ks e.right.0 }

unfoldable pub shown_all_ends_at : List Node → List Kind → List code.Ends → List Ends
shown_all_ends_at ns ks es = map (λ e. shown_ends_at ns ks e) es

abbrev pub IsEnds : TypeTable → List Kind → code.Ends → Type 0
IsEnds table ks e = IsEndsAt (nodes_of table) ks e

abbrev pub shown_ends : TypeTable → List Kind → code.Ends → Ends
shown_ends table ks e = shown_ends_at (nodes_of table) ks e
