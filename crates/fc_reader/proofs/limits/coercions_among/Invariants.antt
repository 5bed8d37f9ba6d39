use Rattle.std.proofs.Common.{◌≡◌, ◌≤◌, ◌+◌, min, drop}
use Rattle.fc_syntax.specs.View.{binders_of}
use Rattle.fc_model.specs.ReadFaults.{co_count}
use Rattle.fc_reader.proofs.limits.coercions_among.Given as goal

abbrev pub invariant-loop-b : goal.invariant-loop-b
invariant-loop-b l = (l.sum ≤ l.most) × (min (co_count (binders_of l.binders)) l.most ≡ min (l.sum + co_count (binders_of (drop l.b-index l.binders))) l.most)
