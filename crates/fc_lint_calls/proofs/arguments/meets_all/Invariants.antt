use Rattle.std.proofs.Common.{◌≡◌, drop}
use Rattle.fc_model.specs.Calling.{met}
use Rattle.fc_type_scope.specs.Scopes.{scope_in}
use Rattle.fc_type_table.specs.TypeTables.{Grows, IsType, nodes_of, shown}
use Rattle.fc_lint_calls.specs.GivenViews.{AreGiven, givens_in}
use Rattle.fc_lint_calls.specs.Meetings.{met_from}
use Rattle.fc_lint_calls.proofs.arguments.meets_all.Given as goal

-- what is still to come, with what is met so far, answers as the whole
abbrev pub invariant-loop-given : goal.invariant-loop-given
invariant-loop-given l = record {
  grows : Grows l.initial.types l.types;
  all_in : AreGiven l.types (scope_in l.scope) l.givens;
  whole_in : IsType l.types (scope_in l.scope) l.so_far.whole;
  view : met (shown l.initial.types (scope_in l.scope) l.fn.ty) (givens_in l.initial.types (scope_in l.scope) l.givens) ≡ met_from (nodes_of l.types) (scope_in l.scope) l.so_far (givens_in l.types (scope_in l.scope) (drop l.given-index l.givens));
}
