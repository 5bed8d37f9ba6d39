use Rattle.std.proofs.Common.{◌≡◌, ◌≤◌, max, min, drop}
use Rattle.fc_syntax.specs.View.{binders_of}
use Rattle.fc_syntax.specs.Measures.{binders_depth}
use Rattle.fc_measures.proofs.depths.depth_of_binders.Given as goal

abbrev pub invariant-loop-x : goal.invariant-loop-x
invariant-loop-x l = (l.deepest ≤ l.most) × (min (binders_depth (binders_of l.items)) l.most ≡ min (max l.deepest (binders_depth (binders_of (drop l.x-index l.items)))) l.most)
