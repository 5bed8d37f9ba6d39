use Rattle.std.proofs.Common.{length}
use Rattle.fc_syntax.specs.View.{params_of}
use Rattle.fc_model.specs.Grammar.{AParameter}
use Rattle.fc_read_parts.proofs.Stars.{Star, many_at}
use Rattle.fc_read_parts.specs.Seen.{ahead}
use Rattle.fc_read_types.proofs.parameters.read_parameters.Given as goal

abbrev pub invariant-each : goal.invariant-each
invariant-each l = Star AParameter (many_at AParameter (ahead l.fn.tokens)) (ahead l.fn.tokens) (params_of l.all) (ahead l.tokens)

abbrev pub decreases-each : goal.decreases-each
decreases-each l = length (ahead l.tokens)
