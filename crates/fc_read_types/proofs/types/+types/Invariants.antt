use Rattle.std.proofs.Common.{length, ◌*◌, ◌+◌}
use Rattle.fc_syntax.specs.View.{tys_of}
use Rattle.fc_model.specs.Grammar.{AType}
use Rattle.fc_read_parts.proofs.Stars.{Star, several_at}
use Rattle.fc_read_parts.specs.Seen.{ahead}
use Rattle.fc_read_types.proofs.types.+types.Given as goal

abbrev pub decreases-read_type : goal.decreases-read_type
decreases-read_type l = 3 * length (ahead l.tokens.now) + 0

abbrev pub decreases-read_type_form : goal.decreases-read_type_form
decreases-read_type_form l = 3 * length (ahead l.tokens.now) + 2

abbrev pub decreases-read_function : goal.decreases-read_function
decreases-read_function l = 3 * length (ahead l.tokens.now) + 1

abbrev pub decreases-read_for_all : goal.decreases-read_for_all
decreases-read_for_all l = 3 * length (ahead l.tokens.now) + 1

abbrev pub decreases-read_for_all_coercions : goal.decreases-read_for_all_coercions
decreases-read_for_all_coercions l = 3 * length (ahead l.tokens.now) + 1

abbrev pub decreases-read_some_types : goal.decreases-read_some_types
decreases-read_some_types l = 3 * length (ahead l.tokens.now) + 1

abbrev pub invariant-read_some_types-each : goal.invariant-read_some_types-each
invariant-read_some_types-each l = Star AType (several_at AType (ahead l.fn.tokens)) (ahead l.fn.tokens) (tys_of l.all) (ahead l.tokens)

abbrev pub decreases-read_some_types-each : goal.decreases-read_some_types-each
decreases-read_some_types-each l = length (ahead l.tokens)
