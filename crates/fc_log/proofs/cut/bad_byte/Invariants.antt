use Rattle.std.proofs.Common.{◌≡◌, drop}
use Rattle.fc_log.specs.Texts.{bad_byte_from}
use Rattle.fc_log.proofs.cut.bad_byte.Given as goal

abbrev pub invariant-loop-at : goal.invariant-loop-at
invariant-loop-at l = bad_byte_from l.at (drop l.at l.bytes) ≡ bad_byte_from 0 l.bytes
