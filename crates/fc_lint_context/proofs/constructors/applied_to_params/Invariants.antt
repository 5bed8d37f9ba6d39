use Rattle.std.proofs.Common.{◌≡◌}
use Rattle.fc_model.specs.Calling.{applied_to_variables}
use Rattle.fc_type_scope.specs.Scopes.{scope_in}
use Rattle.fc_type_table.specs.TypeTables.{Grows, IsType, shown}
use Rattle.fc_lint_context.proofs.constructors.applied_to_params.Given as goal

-- what is applied so far, to the variables that are still to come
abbrev pub invariant-loop-left : goal.invariant-loop-left
invariant-loop-left l = record {
  grows : Grows l.initial.types l.types;
  valid : IsType l.types (scope_in l.scope) l.id;
  so_far : applied_to_variables (shown l.types (scope_in l.scope) l.id) l.left l.outer ≡ applied_to_variables (shown l.initial.types (scope_in l.scope) l.initial.id) l.count l.outer;
}

abbrev pub decreases-loop-left : goal.decreases-loop-left
decreases-loop-left l = l.left
