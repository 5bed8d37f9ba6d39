use Rattle.std.proofs.Common.{length}
use Rattle.fc_syntax.specs.View.{binders_of}
use Rattle.fc_read_parts.specs.Seen.{ahead}
use Rattle.fc_read_types.proofs.FieldsRead.{FieldsSoFar}
use Rattle.fc_read_types.proofs.parameters.read_fields.Given as goal

abbrev pub invariant-each : goal.invariant-each
invariant-each l = FieldsSoFar (ahead l.fn.tokens) (binders_of l.all) (ahead l.tokens)

abbrev pub decreases-each : goal.decreases-each
decreases-each l = length (ahead l.tokens)
