use Rattle.std.proofs.Common.{◌≡◌, ◌≤◌, ◌-◌, drop, length}
use Rattle.fc_model.specs.Coercing as words
use Rattle.fc_type_scope.specs.EndViews.{shown_all_ends_at}
use Rattle.fc_type_scope.specs.Scopes.{scope_in}
use Rattle.fc_type_table.specs.InScope.{own_kinds}
use Rattle.fc_type_table.specs.TypeTables.{modules_in, nodes_of}
use Rattle.fc_coercion_forms.proofs.axioms.are_of_kinds.Given as goal

-- what is still to come answers as the whole
abbrev pub invariant-loop-at : goal.invariant-loop-at
invariant-loop-at l = record {
  within : l.at ≤ length l.kinds;
  so_far : words.are_of_kinds (modules_in l.types) (scope_in l.scope) (own_kinds l.kinds) (shown_all_ends_at (nodes_of l.types) (scope_in l.scope) l.group)
      ≡ words.are_of_kinds (modules_in l.types) (scope_in l.scope) (own_kinds (drop l.at l.kinds))
      (shown_all_ends_at (nodes_of l.types) (scope_in l.scope) (drop l.at l.group));
}

abbrev pub decreases-loop-at : goal.decreases-loop-at
decreases-loop-at l = length l.kinds - l.at
