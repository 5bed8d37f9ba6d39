use Rattle.std.proofs.Common.{length}
use Rattle.fc_read_parts.specs.Seen.{ahead}
use Rattle.fc_read_types.proofs.kinds.+kinds.Given as goal

abbrev pub decreases-read_kind : goal.decreases-read_kind
decreases-read_kind l = length (ahead l.tokens.now)

abbrev pub decreases-read_kind_form : goal.decreases-read_kind_form
decreases-read_kind_form l = length (ahead l.tokens.now)
