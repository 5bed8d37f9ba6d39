use Rattle.std.proofs.Common.{◌≡◌, ◌+◌, max, drop}
use Rattle.fc_syntax.specs.View.{tys_of}
use Rattle.fc_syntax.specs.Measures.{tys_depth, tys_size}
use Rattle.fc_nameless_measures.proofs.types.of_types.Given as goal

abbrev pub invariant-loop-x : goal.invariant-loop-x
invariant-loop-x l = (l.all.nodes ≡ 0)
    × (l.all.size + tys_size (tys_of (drop l.x-index l.items)) ≡ tys_size (tys_of l.items))
    × (max l.all.depth (tys_depth (tys_of (drop l.x-index l.items))) ≡ tys_depth (tys_of l.items))
