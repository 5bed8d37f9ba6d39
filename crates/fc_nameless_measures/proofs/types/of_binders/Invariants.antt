use Rattle.std.proofs.Common.{◌≡◌, ◌+◌, max, drop}
use Rattle.fc_syntax.specs.View.{binders_of}
use Rattle.fc_syntax.specs.Measures.{binders_depth, binders_size, value_count}
use Rattle.fc_nameless_measures.proofs.types.of_binders.Given as goal

abbrev pub invariant-loop-x : goal.invariant-loop-x
invariant-loop-x l = (l.all.nodes + value_count (binders_of (drop l.x-index l.items)) ≡ value_count (binders_of l.items))
    × (l.all.size + binders_size (binders_of (drop l.x-index l.items)) ≡ binders_size (binders_of l.items))
    × (max l.all.depth (binders_depth (binders_of (drop l.x-index l.items))) ≡ binders_depth (binders_of l.items))
