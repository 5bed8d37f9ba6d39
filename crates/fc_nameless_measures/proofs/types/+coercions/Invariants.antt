use Rattle.std.proofs.Common.{◌≡◌, ◌+◌, max, drop}
use Rattle.fc_syntax.specs.View.{cos_of}
use Rattle.fc_syntax.specs.Measures.{cos_depth, cos_size}
use Rattle.fc_nameless_measures.proofs.types.+coercions.Given as goal

abbrev pub invariant-of_coercions-loop-x : goal.invariant-of_coercions-loop-x
invariant-of_coercions-loop-x l = (l.all.nodes ≡ 0)
    × (l.all.size + cos_size (cos_of (drop l.x-index l.items)) ≡ cos_size (cos_of l.items))
    × (max l.all.depth (cos_depth (cos_of (drop l.x-index l.items))) ≡ cos_depth (cos_of l.items))
