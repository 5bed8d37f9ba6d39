use Rattle.std.proofs.Common.{◌≡◌, ◌≤◌, max, min, drop}
use Rattle.fc_syntax.specs.View.{cons_of}
use Rattle.fc_syntax.specs.Measures.{cons_depth}
use Rattle.fc_measures.proofs.depths.depth_of_constructors.Given as goal

abbrev pub invariant-loop-x : goal.invariant-loop-x
invariant-loop-x l = (l.deepest ≤ l.most) × (min (cons_depth (cons_of l.items)) l.most ≡ min (max l.deepest (cons_depth (cons_of (drop l.x-index l.items)))) l.most)
