use Rattle.std.proofs.Common.{length}
use Rattle.fc_syntax.specs.View.{binders_of}
use Rattle.fc_model.specs.Grammar.{ABinder}
use Rattle.fc_read_parts.proofs.Stars.{Star, several_at}
use Rattle.fc_read_parts.specs.Seen.{ahead}
use Rattle.fc_read_types.proofs.binders.read_some_binders.Given as goal

abbrev pub invariant-each : goal.invariant-each
invariant-each l = Star ABinder (several_at ABinder (ahead l.fn.tokens)) (ahead l.fn.tokens) (binders_of l.all) (ahead l.tokens)

abbrev pub decreases-each : goal.decreases-each
decreases-each l = length (ahead l.tokens)
