use Rattle.std.proofs.Common.{◌≡◌, ◌≤◌, ◌+◌, min, drop}
use Rattle.fc_syntax.specs.View.{binders_of}
use Rattle.fc_syntax.specs.Measures.{value_count}
use Rattle.fc_measures.proofs.node_counts.value_binders.Given as goal

abbrev pub invariant-loop-b : goal.invariant-loop-b
invariant-loop-b l = (l.sum ≤ l.most) × (min (value_count (binders_of l.binders)) l.most ≡ min (l.sum + value_count (binders_of (drop l.b-index l.binders))) l.most)
