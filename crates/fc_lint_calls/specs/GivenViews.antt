-- What arguments mean, where type variables are in scope.
use Rattle.std.specs.Prelude.{List, map, All}
use Rattle.fc_syntax.specs.Tree.{Kind}
use Rattle.fc_model.specs.Calling as words
use Rattle.fc_type_scope.specs.EndViews.{IsEndsAt}
use Rattle.fc_type_table.specs.Nodes.{IsKindAt, kind_at}
use Rattle.fc_type_table.specs.Scopes.{IsTypeAt, shown_at}
use Rattle.fc_type_table.specs.TypeTables.{nodes_of}
use Rattle.fc_type_table.specs.declared.node.Node.{Node}
use Rattle.fc_type_table.specs.declared.table.TypeTable.{TypeTable}
use Rattle.fc_lint_calls.specs.declared.arguments.Given.{Given}
use Rattle.fc_lint_calls.specs.declared.arguments.Given.TheVariants.{Term, OfType, Coercion}

-- its numbers are those of types where type variables of these kinds are in scope, and of a kind
abbrev pub IsGivenAt : List Node → List Kind → Given → Type 0
IsGivenAt ns ks (Term t atom) = IsTypeAt ns ks t.0
IsGivenAt ns ks (OfType t k) = IsTypeAt ns ks t.0 × IsKindAt ns k.0
IsGivenAt ns ks (Coercion e) = IsEndsAt ns ks e

-- the argument there
abbrev pub given_at : List Node → List Kind → Given → words.Given
given_at ns ks (Term t atom) = words.GivenTerm (shown_at ns ks t.0) atom
given_at ns ks (OfType t k) = words.GivenType (shown_at ns ks t.0) (kind_at ns k.0)
given_at ns ks (Coercion e) = words.GivenCoercion e.role (shown_at ns ks e.left.0) (shown_at ns ks e.right.0)

abbrev pub IsGiven : TypeTable → List Kind → Given → Type 0
IsGiven table ks g = IsGivenAt (nodes_of table) ks g

abbrev pub given_in : TypeTable → List Kind → Given → words.Given
given_in table ks g = given_at (nodes_of table) ks g

-- each is
pub record AreGivenAt (ns : List Node) (ks : List Kind) (gs : List Given) : Type 0 where
  pub each : All (IsGivenAt ns ks) gs

-- the arguments there
unfoldable pub givens_at : List Node → List Kind → List Given → List words.Given
givens_at ns ks gs = map (given_at ns ks) gs

abbrev pub AreGiven : TypeTable → List Kind → List Given → Type 0
AreGiven table ks gs = AreGivenAt (nodes_of table) ks gs

abbrev pub givens_in : TypeTable → List Kind → List Given → List words.Given
givens_in table ks gs = givens_at (nodes_of table) ks gs
