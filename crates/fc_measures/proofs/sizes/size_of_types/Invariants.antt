use Rattle.std.proofs.Common.{◌≡◌, ◌≤◌, ◌+◌, min, drop}
use Rattle.fc_syntax.specs.View.{tys_of}
use Rattle.fc_syntax.specs.Measures.{tys_size}
use Rattle.fc_measures.proofs.sizes.size_of_types.Given as goal

abbrev pub invariant-loop-x : goal.invariant-loop-x
invariant-loop-x l = (l.sum ≤ l.most) × (min (tys_size (tys_of l.items)) l.most ≡ min (l.sum + tys_size (tys_of (drop l.x-index l.items))) l.most)
