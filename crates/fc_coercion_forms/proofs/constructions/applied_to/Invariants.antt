use Rattle.std.proofs.Common.{◌≡◌, drop}
use Rattle.fc_model.specs.Coercing as words
use Rattle.fc_type_scope.specs.EndViews.{AreEndsAt, IsEnds, shown_all_ends_at}
use Rattle.fc_type_scope.specs.Scopes.{scope_in}
use Rattle.fc_type_table.specs.TypeTables.{Grows, nodes_of, shown}
use Rattle.fc_coercion_forms.proofs.constructions.applied_to.Given as goal

-- what is applied so far comes to the whole with what is still to come
abbrev pub invariant-loop-ends : goal.invariant-loop-ends
invariant-loop-ends l = record {
  grows : Grows l.fn.types l.types;
  group_in : AreEndsAt (nodes_of l.types) (scope_in l.scope) l.group;
  valid : IsEnds l.types (scope_in l.scope) l.so_far;
  role : l.so_far.role ≡ l.fn.role;
  left : words.applied_to (shown l.fn.types (scope_in l.scope) l.fn.head) (words.lefts (shown_all_ends_at (nodes_of l.fn.types) (scope_in l.scope) l.group))
      ≡ words.applied_to (shown l.types (scope_in l.scope) l.so_far.left) (words.lefts (shown_all_ends_at (nodes_of l.types) (scope_in l.scope) (drop l.ends-index l.group)));
  right : words.applied_to (shown l.fn.types (scope_in l.scope) l.fn.head) (words.rights (shown_all_ends_at (nodes_of l.fn.types) (scope_in l.scope) l.group))
      ≡ words.applied_to (shown l.types (scope_in l.scope) l.so_far.right) (words.rights (shown_all_ends_at (nodes_of l.types) (scope_in l.scope) (drop l.ends-index l.group)));
}
