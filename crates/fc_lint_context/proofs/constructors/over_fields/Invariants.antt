use Rattle.std.proofs.Common.{◌≡◌, ◌≤◌, drop, length, map}
use Rattle.fc_model.specs.Calling.{over_binders}
use Rattle.fc_model.specs.Nameless.{NBValue}
use Rattle.fc_model.specs.NamelessView.{ntys_of}
use Rattle.fc_type_scope.specs.Scopes.{scope_in}
use Rattle.fc_type_table.specs.TypeTables.{Grows, IsType, shown}
use Rattle.fc_lint_context.proofs.constructors.over_fields.Given as goal

-- the function of the fields that are done
abbrev pub invariant-loop-left : goal.invariant-loop-left
invariant-loop-left l = record {
  within : l.left ≤ length l.fields;
  grows : Grows l.initial.types l.types;
  valid : IsType l.types (scope_in l.scope) l.id;
  so_far : shown l.types (scope_in l.scope) l.id ≡ over_binders (map NBValue (ntys_of (drop l.left l.fields))) (shown l.initial.types (scope_in l.scope) l.initial.id);
}

abbrev pub decreases-loop-left : goal.decreases-loop-left
decreases-loop-left l = l.left
