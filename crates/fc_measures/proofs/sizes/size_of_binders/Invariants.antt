use Rattle.std.proofs.Common.{◌≡◌, ◌≤◌, ◌+◌, min, drop}
use Rattle.fc_syntax.specs.View.{binders_of}
use Rattle.fc_syntax.specs.Measures.{binders_size}
use Rattle.fc_measures.proofs.sizes.size_of_binders.Given as goal

abbrev pub invariant-loop-x : goal.invariant-loop-x
invariant-loop-x l = (l.sum ≤ l.most) × (min (binders_size (binders_of l.items)) l.most ≡ min (l.sum + binders_size (binders_of (drop l.x-index l.items))) l.most)
