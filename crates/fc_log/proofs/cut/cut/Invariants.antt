use Rattle.std.proofs.Common.{◌≡◌, ◌≤◌, ◌++◌}
use Rattle.fc_log.specs.Seen.{seen_all, uncut}
use Rattle.fc_log.specs.Texts.{cuts_of}
use Rattle.fc_log.proofs.cut.cut.Given as goal

abbrev pub invariant-loop-at : goal.invariant-loop-at
invariant-loop-at l = (l.begun ≤ l.at) × (seen_all l.pieces ++ uncut l.bytes l.fresh l.begun l.at ≡ cuts_of l.bytes)
