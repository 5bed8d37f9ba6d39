use Rattle.std.proofs.Common.{◌≡◌, [], take}
use Rattle.fc_type_scope.specs.Scopes.{AreTypesAt, shown_all_at}
use Rattle.fc_type_table.specs.TypeTables.{Grows, nodes_of}
use Rattle.fc_lint_context.specs.DeclaredViews as views
use Rattle.fc_lint_context.proofs.declared_types.sides_of_axioms.Given as goal

-- the sides so far
abbrev pub invariant-loop-number : goal.invariant-loop-number
invariant-loop-number l = record {
  grows : Grows l.fn.types l.types;
  lefts_in : AreTypesAt (nodes_of l.types) [] l.sides.lefts;
  rights_in : AreTypesAt (nodes_of l.types) [] l.sides.rights;
  lefts : shown_all_at (nodes_of l.types) [] l.sides.lefts ≡ take l.number (views.axiom_lefts l.declared);
  rights : shown_all_at (nodes_of l.types) [] l.sides.rights ≡ take l.number (views.axiom_rights l.declared);
}
