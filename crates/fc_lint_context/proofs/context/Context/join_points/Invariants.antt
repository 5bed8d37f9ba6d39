use Rattle.std.proofs.Common.{◌≡◌, ◌++◌, drop}
use Rattle.fc_model.specs.NamelessView.{njoins_of}
use Rattle.fc_type_scope.specs.Scopes.{scope_in}
use Rattle.fc_type_table.specs.TypeTables.{Grows, IsType, nodes_of, shown}
use Rattle.fc_lint_context.specs.JoinViews.{AreJoinsAt, join_points, shown_joins_at}
use Rattle.fc_lint_context.proofs.context.Context.join_points.Given as goal

-- the join points so far, before those that are still to come
abbrev pub invariant-loop-join : goal.invariant-loop-join
invariant-loop-join l = record {
  grows : Grows l.initial.types l.types;
  answer_in : IsType l.types (scope_in l.self.scope) l.answer;
  same_answer : shown l.types (scope_in l.self.scope) l.answer ≡ shown l.initial.types (scope_in l.self.scope) l.answer;
  points_in : AreJoinsAt (nodes_of l.types) (scope_in l.self.scope) l.points;
  so_far :
      join_points (shown l.initial.types (scope_in l.self.scope) l.answer) (njoins_of l.joins)
      ≡ shown_joins_at (nodes_of l.types) (scope_in l.self.scope) l.points ++ join_points (shown l.initial.types (scope_in l.self.scope) l.answer) (njoins_of (drop l.join-index l.joins));
}
