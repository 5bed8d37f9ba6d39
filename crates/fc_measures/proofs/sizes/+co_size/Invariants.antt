use Rattle.std.proofs.Common.{◌≡◌, ◌≤◌, ◌+◌, min, drop}
use Rattle.fc_syntax.specs.View.{cos_of}
use Rattle.fc_syntax.specs.Measures.{cos_size}
use Rattle.fc_measures.proofs.sizes.+co_size.Given as goal

abbrev pub invariant-size_of_cos-loop-x : goal.invariant-size_of_cos-loop-x
invariant-size_of_cos-loop-x l = (l.sum ≤ l.most) × (min (cos_size (cos_of l.items)) l.most ≡ min (l.sum + cos_size (cos_of (drop l.x-index l.items))) l.most)
