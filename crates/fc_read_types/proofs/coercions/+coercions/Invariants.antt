use Rattle.std.proofs.Common.{length, map, ◌*◌, ◌+◌}
use Rattle.fc_syntax.specs.View.{co_of}
use Rattle.fc_model.specs.Grammar.{ACoercion}
use Rattle.fc_read_parts.proofs.Stars.{Star, many_at, several_at}
use Rattle.fc_read_parts.specs.Seen.{ahead}
use Rattle.fc_read_types.proofs.coercions.+coercions.Given as goal

abbrev pub decreases-read_coercion : goal.decreases-read_coercion
decreases-read_coercion l = 2 * length (ahead l.tokens.now)

abbrev pub decreases-read_coercion_form : goal.decreases-read_coercion_form
decreases-read_coercion_form l = 2 * length (ahead l.tokens.now)

abbrev pub decreases-read_symmetric : goal.decreases-read_symmetric
decreases-read_symmetric l = 2 * length (ahead l.tokens.now) + 1

abbrev pub decreases-read_transitive : goal.decreases-read_transitive
decreases-read_transitive l = 2 * length (ahead l.tokens.now) + 1

abbrev pub decreases-read_constructor : goal.decreases-read_constructor
decreases-read_constructor l = 2 * length (ahead l.tokens.now) + 1

abbrev pub decreases-read_applied : goal.decreases-read_applied
decreases-read_applied l = 2 * length (ahead l.tokens.now) + 1

abbrev pub decreases-read_function : goal.decreases-read_function
decreases-read_function l = 2 * length (ahead l.tokens.now) + 1

abbrev pub decreases-read_for_all : goal.decreases-read_for_all
decreases-read_for_all l = 2 * length (ahead l.tokens.now) + 1

abbrev pub decreases-read_for_all_coercions : goal.decreases-read_for_all_coercions
decreases-read_for_all_coercions l = 2 * length (ahead l.tokens.now) + 1

abbrev pub decreases-read_instance : goal.decreases-read_instance
decreases-read_instance l = 2 * length (ahead l.tokens.now) + 1

abbrev pub decreases-read_nth : goal.decreases-read_nth
decreases-read_nth l = 2 * length (ahead l.tokens.now) + 1

abbrev pub decreases-read_left : goal.decreases-read_left
decreases-read_left l = 2 * length (ahead l.tokens.now) + 1

abbrev pub decreases-read_right : goal.decreases-read_right
decreases-read_right l = 2 * length (ahead l.tokens.now) + 1

abbrev pub decreases-read_weaker : goal.decreases-read_weaker
decreases-read_weaker l = 2 * length (ahead l.tokens.now) + 1

abbrev pub decreases-read_axiom : goal.decreases-read_axiom
decreases-read_axiom l = 2 * length (ahead l.tokens.now) + 1

abbrev pub decreases-read_some_coercions : goal.decreases-read_some_coercions
decreases-read_some_coercions l = 2 * length (ahead l.tokens.now) + 1

abbrev pub decreases-read_coercions : goal.decreases-read_coercions
decreases-read_coercions l = 2 * length (ahead l.tokens.now) + 1

abbrev pub invariant-read_some_coercions-each : goal.invariant-read_some_coercions-each
invariant-read_some_coercions-each l = Star ACoercion (several_at ACoercion (ahead l.fn.tokens)) (ahead l.fn.tokens) (map co_of l.all) (ahead l.tokens)

abbrev pub decreases-read_some_coercions-each : goal.decreases-read_some_coercions-each
decreases-read_some_coercions-each l = length (ahead l.tokens)

abbrev pub invariant-read_coercions-each : goal.invariant-read_coercions-each
invariant-read_coercions-each l = Star ACoercion (many_at ACoercion (ahead l.fn.tokens)) (ahead l.fn.tokens) (map co_of l.all) (ahead l.tokens)

abbrev pub decreases-read_coercions-each : goal.decreases-read_coercions-each
decreases-read_coercions-each l = length (ahead l.tokens)
