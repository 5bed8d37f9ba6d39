use Rattle.std.proofs.Common.{◌≡◌, [], length}
use Rattle.fc_syntax.specs.Tree.{Word}
use Rattle.fc_log.specs.Grammar.{AtLine, reads}
use Rattle.fc_log.specs.Reading.{ahead}
use Rattle.fc_log.proofs.reading.read_entries.Given as goal

abbrev pub invariant-each : goal.invariant-each
invariant-each l = (m : Word) → reads (AtLine m []) (ahead l.fn.tokens) ≡ reads (AtLine m l.entries) (ahead l.tokens)

abbrev pub decreases-each : goal.decreases-each
decreases-each l = length (ahead l.tokens)
