use Rattle.std.proofs.Common.{◌≡◌, ◌++◌, drop, map, slice_get}
use Rattle.std.specs.List.{filter_map}
use Rattle.fc_syntax.specs.View.{module_of}
use Rattle.fc_plan.specs.Modules.{behind}
use Rattle.fc_plan.proofs.ordered.in_order.Given as goal

-- what is picked, before what is still to come, is the whole
abbrev pub invariant-loop-number : goal.invariant-loop-number
invariant-loop-number l =
    behind l.found.items ++ filter_map (slice_get (map module_of l.modules)) (drop l.number-index l.order) ≡ filter_map (slice_get (map module_of l.modules)) l.order
