use Rattle.std.proofs.Common.{length}
use Rattle.fc_syntax.specs.View.{tys_of}
use Rattle.fc_model.specs.Grammar.{AType}
use Rattle.fc_read_parts.proofs.Stars.{Star, many_at}
use Rattle.fc_read_parts.specs.Seen.{ahead}
use Rattle.fc_read_types.proofs.types.read_types.Given as goal

abbrev pub invariant-each : goal.invariant-each
invariant-each l = Star AType (many_at AType (ahead l.fn.tokens)) (ahead l.fn.tokens) (tys_of l.all) (ahead l.tokens)

abbrev pub decreases-each : goal.decreases-each
decreases-each l = length (ahead l.tokens)
