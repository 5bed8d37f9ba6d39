use Rattle.std.proofs.Common.{◌≡◌, ◌≤◌, max, min, drop}
use Rattle.fc_syntax.specs.View.{cos_of}
use Rattle.fc_syntax.specs.Measures.{cos_depth}
use Rattle.fc_measures.proofs.depths.+co_depth.Given as goal

abbrev pub invariant-depth_of_cos-loop-x : goal.invariant-depth_of_cos-loop-x
invariant-depth_of_cos-loop-x l = (l.deepest ≤ l.most) × (min (cos_depth (cos_of l.items)) l.most ≡ min (max l.deepest (cos_depth (cos_of (drop l.x-index l.items)))) l.most)
