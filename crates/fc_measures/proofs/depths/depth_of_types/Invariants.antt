use Rattle.std.proofs.Common.{◌≡◌, ◌≤◌, max, min, drop}
use Rattle.fc_syntax.specs.View.{tys_of}
use Rattle.fc_syntax.specs.Measures.{tys_depth}
use Rattle.fc_measures.proofs.depths.depth_of_types.Given as goal

abbrev pub invariant-loop-x : goal.invariant-loop-x
invariant-loop-x l = (l.deepest ≤ l.most) × (min (tys_depth (tys_of l.items)) l.most ≡ min (max l.deepest (tys_depth (tys_of (drop l.x-index l.items)))) l.most)
