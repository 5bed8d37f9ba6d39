use Rattle.std.proofs.Common.{length}
use Rattle.fc_read_parts.specs.Seen.{ahead}
use Rattle.fc_read_interface.proofs.Collected.{Collected}
use Rattle.fc_read_interface.proofs.items.read_items.Given as goal

abbrev pub invariant-each : goal.invariant-each
invariant-each l = Collected l.fn.room (ahead l.fn.tokens) l.all l.size (ahead l.tokens)

abbrev pub decreases-each : goal.decreases-each
decreases-each l = length (ahead l.tokens)
