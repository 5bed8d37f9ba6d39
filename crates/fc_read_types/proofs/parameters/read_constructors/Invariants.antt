use Rattle.std.proofs.Common.{length}
use Rattle.fc_syntax.specs.View.{cons_of}
use Rattle.fc_model.specs.Grammar.{AConstructor}
use Rattle.fc_read_parts.proofs.Stars.{Star, many_at}
use Rattle.fc_read_parts.specs.Seen.{ahead}
use Rattle.fc_read_types.proofs.parameters.read_constructors.Given as goal

abbrev pub invariant-each : goal.invariant-each
invariant-each l = Star AConstructor (many_at AConstructor (ahead l.fn.tokens)) (ahead l.fn.tokens) (cons_of l.all) (ahead l.tokens)

abbrev pub decreases-each : goal.decreases-each
decreases-each l = length (ahead l.tokens)
