use Rattle.std.proofs.Common.{◌≡◌, drop}
use Rattle.fc_type_scope.specs.EndViews.{shown_all_ends_at}
use Rattle.fc_type_scope.specs.Scopes.{scope_in}
use Rattle.fc_type_table.specs.TypeTables.{Grows, IsType, nodes_of, shown}
use Rattle.fc_coercion_forms.specs.Axioms.{sides_at}
use Rattle.fc_coercion_forms.proofs.axioms.at_all_ends.Given as goal

-- the sides so far come to the whole with what is still to come
abbrev pub invariant-loop-ends : goal.invariant-loop-ends
invariant-loop-ends l = record {
  grows : Grows l.fn.types l.types;
  left_in : IsType l.types (scope_in l.scope) l.so_far.left;
  right_in : IsType l.types (scope_in l.scope) l.so_far.right;
  so_far : sides_at (shown l.fn.types (scope_in l.scope) l.fn.pair.left) (shown l.fn.types (scope_in l.scope) l.fn.pair.right)
      (shown_all_ends_at (nodes_of l.fn.types) (scope_in l.scope) l.group)
      ≡ sides_at (shown l.types (scope_in l.scope) l.so_far.left) (shown l.types (scope_in l.scope) l.so_far.right)
      (shown_all_ends_at (nodes_of l.fn.types) (scope_in l.scope) (drop l.ends-index l.group));
}
