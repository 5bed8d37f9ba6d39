-- What is in scope, and what numbers of types mean there.
use Rattle.std.specs.Prelude.{◌≡◌, List}
use Rattle.fc_model.specs.Kinding.{Modules}
use Rattle.fc_model.specs.Typing.{Context}
use Rattle.fc_type_scope.specs.EndViews.{AreEndsAt, shown_all_ends_at}
use Rattle.fc_type_scope.specs.Scopes.{AreTypesAt, scope_in, shown_all_at}
use Rattle.fc_type_table.specs.InScope.{IsScopeAt}
use Rattle.fc_type_table.specs.TypeTables.{modules_in, nodes_of}
use Rattle.fc_type_table.specs.declared.node.Node.{Node}
use Rattle.fc_type_table.specs.declared.table.TypeTable.{TypeTable}
use Rattle.fc_lint_context.specs.CoercionViews.{proven_of}
use Rattle.fc_lint_context.specs.DeclaredViews.{AreRead, modules_read}
use Rattle.fc_lint_context.specs.JoinViews.{AreJoinsAt, points_of, shown_joins_at}
use Rattle.fc_lint_context.specs.LocalViews.{numbers_of}
use Rattle.fc_lint_context.specs.declared.context.Context as code

-- what is declared
abbrev pub modules_of_context : code.Context → Modules
modules_of_context c = modules_read c.declared.now

-- the numbers of the table show the types of what is declared, the kinds of the type variables in scope, the types of what the coercion variables prove, of the local variables and of the
-- join points
pub record IsContextAt (ns : List Node) (c : code.Context) : Type 0 where
  pub declared : AreRead ns c.declared.now
  pub scope : IsScopeAt ns c.scope.kinds.now
  pub coercions : AreEndsAt ns (scope_in c.scope) (proven_of c.coercions)
  pub locals : AreTypesAt ns (scope_in c.scope) (numbers_of c.locals)
  pub joins : AreJoinsAt ns (scope_in c.scope) (points_of c.joins)

abbrev pub IsContext : TypeTable → code.Context → Type 0
IsContext table c = IsContextAt (nodes_of table) c

-- the numbers in it are of this table, whose modules are those that declare what it names
pub record IsContextOver (table : TypeTable) (c : code.Context) : Type 0 where
  pub valid : IsContext table c
  pub modules : modules_in table ≡ modules_of_context c

-- the kinds of the type variables, what the coercion variables prove, the types of the variables of values and the join points
unfoldable pub context_at : List Node → code.Context → Context
context_at ns c = record {
  kinds = scope_in c.scope;
  coercions = shown_all_ends_at ns (scope_in c.scope) (proven_of c.coercions);
  values = shown_all_at ns (scope_in c.scope) (numbers_of c.locals);
  joins = shown_joins_at ns (scope_in c.scope) (points_of c.joins);
}

abbrev pub context_in : TypeTable → code.Context → Context
context_in table c = context_at (nodes_of table) c
