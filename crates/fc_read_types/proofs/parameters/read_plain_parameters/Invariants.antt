use Rattle.std.proofs.Common.{length}
use Rattle.fc_syntax.specs.View.{plains_of}
use Rattle.fc_model.specs.Grammar.{APlainParameter}
use Rattle.fc_read_parts.proofs.Stars.{Star, many_at}
use Rattle.fc_read_parts.specs.Seen.{ahead}
use Rattle.fc_read_types.proofs.parameters.read_plain_parameters.Given as goal

abbrev pub invariant-each : goal.invariant-each
invariant-each l = Star APlainParameter (many_at APlainParameter (ahead l.fn.tokens)) (ahead l.fn.tokens) (plains_of l.all) (ahead l.tokens)

abbrev pub decreases-each : goal.decreases-each
decreases-each l = length (ahead l.tokens)
