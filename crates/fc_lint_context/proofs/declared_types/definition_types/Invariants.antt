use Rattle.std.proofs.Common.{◌≡◌, [], take}
use Rattle.fc_type_scope.specs.Scopes.{AreTypesAt, shown_all_at}
use Rattle.fc_type_table.specs.TypeTables.{Grows, nodes_of}
use Rattle.fc_types.specs.Listed as listed
use Rattle.fc_lint_context.proofs.declared_types.definition_types.Given as goal

-- the types so far
abbrev pub invariant-loop-number : goal.invariant-loop-number
invariant-loop-number l = record {
  grows : Grows l.initial.types l.types;
  types_in : AreTypesAt (nodes_of l.types) [] l.ids;
  so_far : shown_all_at (nodes_of l.types) [] l.ids ≡ take l.number (listed.definition_types l.declared);
}
