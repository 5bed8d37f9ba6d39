use Rattle.std.proofs.Common.{length}
use Rattle.fc_model.specs.Grammar.{AModuleName}
use Rattle.fc_read_parts.proofs.Stars.{Star, many_at}
use Rattle.fc_read_parts.specs.Seen.{ahead}
use Rattle.fc_reader.proofs.header.read_module_names.Given as goal

abbrev pub invariant-each : goal.invariant-each
invariant-each l = Star AModuleName (many_at AModuleName (ahead l.fn.tokens)) (ahead l.fn.tokens) l.all (ahead l.tokens)

abbrev pub decreases-each : goal.decreases-each
decreases-each l = length (ahead l.tokens)
