use Rattle.std.proofs.Common.{length, map}
use Rattle.fc_lattice.specs.View.{demand_of}
use Rattle.fc_read_parts.specs.Seen.{ahead}
use Rattle.fc_read_items.proofs.Signatures.{SigSoFar}
use Rattle.fc_read_items.proofs.demands.read_signature_end.Given as goal

abbrev pub invariant-each : goal.invariant-each
invariant-each l = SigSoFar (ahead l.fn.tokens) (map demand_of l.args) (ahead l.tokens)

abbrev pub decreases-each : goal.decreases-each
decreases-each l = length (ahead l.tokens)
