use Rattle.std.proofs.Common.{◌≡◌, ◌≤◌, [], length, map, take}
use Rattle.fc_model.specs.Calling.{over_binders}
use Rattle.fc_model.specs.Nameless.{NBType}
use Rattle.fc_type_table.specs.TypeTables.{Grows, IsType, shown}
use Rattle.fc_type_table.specs.InScope.{behind_group, own_kinds}
use Rattle.fc_lint_context.proofs.constructors.over_params.Given as goal

-- what is bound so far, below the `forall`s that are still to come
abbrev pub invariant-loop-left : goal.invariant-loop-left
invariant-loop-left l = record {
  within : l.left ≤ length l.kinds;
  grows : Grows l.initial.types l.types;
  valid : IsType l.types (behind_group (own_kinds (take l.left l.kinds)) []) l.id;
  so_far :
      over_binders (map NBType (own_kinds (take l.left l.kinds))) (shown l.types (behind_group (own_kinds (take l.left l.kinds)) []) l.id)
      ≡ over_binders (map NBType (own_kinds l.kinds)) (shown l.initial.types (behind_group (own_kinds l.kinds) []) l.initial.id);
}

abbrev pub decreases-loop-left : goal.decreases-loop-left
decreases-loop-left l = l.left
