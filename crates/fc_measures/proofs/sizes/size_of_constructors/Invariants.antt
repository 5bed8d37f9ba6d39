use Rattle.std.proofs.Common.{◌≡◌, ◌≤◌, ◌+◌, min, drop}
use Rattle.fc_syntax.specs.View.{cons_of}
use Rattle.fc_syntax.specs.Measures.{cons_size}
use Rattle.fc_measures.proofs.sizes.size_of_constructors.Given as goal

abbrev pub invariant-loop-x : goal.invariant-loop-x
invariant-loop-x l = (l.sum ≤ l.most) × (min (cons_size (cons_of l.items)) l.most ≡ min (l.sum + cons_size (cons_of (drop l.x-index l.items))) l.most)
