use Rattle.std.proofs.Common.{◌≡◌, ℕ, ◌+◌, ◌*◌, max, drop}
use denote.Param.Weighed.{most}
use Rattle.fc_syntax.specs.declared.co.Co.{size-Co}
use Rattle.fc_model.specs.Coercing.{all_ends_or_fault}
use Rattle.fc_model.specs.NamelessView.{ncos_of}
use Rattle.fc_type_scope.specs.EndViews.{AreEndsAt, shown_all_ends_at}
use Rattle.fc_type_scope.specs.Scopes.{scope_in}
use Rattle.fc_type_table.specs.TypeTables.{Grows, nodes_of}
use Rattle.fc_lint_context.specs.ContextViews.{IsContextOver, context_in, modules_of_context}
use Rattle.fc_coercion.specs.Pairs.{with_ends}
use Rattle.fc_coercion.proofs.coercions.+coercions.Given as goal

-- what is still to come answers as the whole, in the table as it was
abbrev pub invariant-each_ends-loop-g : goal.invariant-each_ends-loop-g
invariant-each_ends-loop-g l = record {
  grows : Grows l.initial.types l.types;
  context : IsContextOver l.types l.context;
  are_proven : AreEndsAt (nodes_of l.types) (scope_in l.context.scope) l.group;
  so_far : all_ends_or_fault (modules_of_context l.context) (scope_in l.context.scope) (context_in l.initial.types l.context).coercions 0 (ncos_of l.gs)
      ≡ with_ends (shown_all_ends_at (nodes_of l.types) (scope_in l.context.scope) l.group)
      (all_ends_or_fault (modules_of_context l.context) (scope_in l.context.scope) (context_in l.initial.types l.context).coercions l.part (ncos_of (drop l.g-index l.gs)));
}

-- ---- measures: the depth of what is judged, where a function that is given the same or several parts stands above those that it calls

abbrev pub decreases-ends_of_part : goal.decreases-ends_of_part
decreases-ends_of_part l = 10 * size-Co ℕ l.g.now + 1

abbrev pub decreases-ends_behind : goal.decreases-ends_behind
decreases-ends_behind l = 10 * size-Co ℕ l.g.now + 2

abbrev pub decreases-both_ends : goal.decreases-both_ends
decreases-both_ends l = 10 * max (size-Co ℕ l.g.now) (size-Co ℕ l.h.now) + 2

abbrev pub decreases-each_ends : goal.decreases-each_ends
decreases-each_ends l = 10 * most (size-Co ℕ) l.gs.now + 2

abbrev pub decreases-ends_of : goal.decreases-ends_of
decreases-ends_of l = 10 * size-Co ℕ l.g.now
