use Rattle.std.proofs.Common.{length, map, ◌*◌, ◌+◌}
use Rattle.fc_syntax.specs.View.{alt_of, arg_of, bind_of, expr_of, join_of}
use Rattle.fc_model.specs.Grammar.{ABind, AJoinBind, AnAlternative, AnArgument, AnExpression}
use Rattle.fc_read_parts.proofs.Stars.{Star, many_at, several_at}
use Rattle.fc_read_parts.specs.Seen.{ahead}
use Rattle.fc_read_terms.proofs.+expressions.Given as goal

abbrev pub decreases-expressions::read_expression : goal.decreases-expressions::read_expression
decreases-expressions::read_expression l = 3 * length (ahead l.tokens.now)

abbrev pub decreases-expressions::read_expression_form : goal.decreases-expressions::read_expression_form
decreases-expressions::read_expression_form l = 3 * length (ahead l.tokens.now)

abbrev pub decreases-expressions::read_application : goal.decreases-expressions::read_application
decreases-expressions::read_application l = 3 * length (ahead l.tokens.now) + 1

abbrev pub decreases-expressions::read_lambda : goal.decreases-expressions::read_lambda
decreases-expressions::read_lambda l = 3 * length (ahead l.tokens.now) + 1

abbrev pub decreases-expressions::read_cast : goal.decreases-expressions::read_cast
decreases-expressions::read_cast l = 3 * length (ahead l.tokens.now) + 1

abbrev pub decreases-expressions::read_construction : goal.decreases-expressions::read_construction
decreases-expressions::read_construction l = 3 * length (ahead l.tokens.now) + 1

abbrev pub decreases-expressions::read_primitive : goal.decreases-expressions::read_primitive
decreases-expressions::read_primitive l = 3 * length (ahead l.tokens.now) + 1

abbrev pub decreases-expressions::read_jump : goal.decreases-expressions::read_jump
decreases-expressions::read_jump l = 3 * length (ahead l.tokens.now) + 1

abbrev pub decreases-expressions::read_argument : goal.decreases-expressions::read_argument
decreases-expressions::read_argument l = 3 * length (ahead l.tokens.now)

abbrev pub decreases-expressions::read_argument_form : goal.decreases-expressions::read_argument_form
decreases-expressions::read_argument_form l = 3 * length (ahead l.tokens.now) + 1

abbrev pub decreases-expressions::read_some_arguments : goal.decreases-expressions::read_some_arguments
decreases-expressions::read_some_arguments l = 3 * length (ahead l.tokens.now) + 1

abbrev pub decreases-expressions::read_arguments : goal.decreases-expressions::read_arguments
decreases-expressions::read_arguments l = 3 * length (ahead l.tokens.now) + 1

abbrev pub decreases-expressions::read_expressions : goal.decreases-expressions::read_expressions
decreases-expressions::read_expressions l = 3 * length (ahead l.tokens.now) + 1

abbrev pub decreases-groups::read_let : goal.decreases-groups::read_let
decreases-groups::read_let l = 3 * length (ahead l.tokens.now) + 1

abbrev pub decreases-groups::read_recursive_let : goal.decreases-groups::read_recursive_let
decreases-groups::read_recursive_let l = 3 * length (ahead l.tokens.now) + 1

abbrev pub decreases-groups::read_join : goal.decreases-groups::read_join
decreases-groups::read_join l = 3 * length (ahead l.tokens.now) + 1

abbrev pub decreases-groups::read_recursive_join : goal.decreases-groups::read_recursive_join
decreases-groups::read_recursive_join l = 3 * length (ahead l.tokens.now) + 1

abbrev pub decreases-groups::read_bind : goal.decreases-groups::read_bind
decreases-groups::read_bind l = 3 * length (ahead l.tokens.now)

abbrev pub decreases-groups::read_some_binds : goal.decreases-groups::read_some_binds
decreases-groups::read_some_binds l = 3 * length (ahead l.tokens.now) + 1

abbrev pub decreases-groups::read_join_bind : goal.decreases-groups::read_join_bind
decreases-groups::read_join_bind l = 3 * length (ahead l.tokens.now)

abbrev pub decreases-groups::read_some_join_binds : goal.decreases-groups::read_some_join_binds
decreases-groups::read_some_join_binds l = 3 * length (ahead l.tokens.now) + 1

abbrev pub decreases-alternatives::read_case : goal.decreases-alternatives::read_case
decreases-alternatives::read_case l = 3 * length (ahead l.tokens.now) + 1

abbrev pub decreases-alternatives::read_alternative : goal.decreases-alternatives::read_alternative
decreases-alternatives::read_alternative l = 3 * length (ahead l.tokens.now)

abbrev pub decreases-alternatives::read_alternative_form : goal.decreases-alternatives::read_alternative_form
decreases-alternatives::read_alternative_form l = 3 * length (ahead l.tokens.now)

abbrev pub decreases-alternatives::read_alternatives : goal.decreases-alternatives::read_alternatives
decreases-alternatives::read_alternatives l = 3 * length (ahead l.tokens.now) + 1

abbrev pub invariant-expressions::read_some_arguments-each : goal.invariant-expressions::read_some_arguments-each
invariant-expressions::read_some_arguments-each l = Star AnArgument (several_at AnArgument (ahead l.fn.tokens)) (ahead l.fn.tokens) (map arg_of l.all) (ahead l.tokens)

abbrev pub decreases-expressions::read_some_arguments-each : goal.decreases-expressions::read_some_arguments-each
decreases-expressions::read_some_arguments-each l = length (ahead l.tokens)

abbrev pub invariant-expressions::read_arguments-each : goal.invariant-expressions::read_arguments-each
invariant-expressions::read_arguments-each l = Star AnArgument (many_at AnArgument (ahead l.fn.tokens)) (ahead l.fn.tokens) (map arg_of l.all) (ahead l.tokens)

abbrev pub decreases-expressions::read_arguments-each : goal.decreases-expressions::read_arguments-each
decreases-expressions::read_arguments-each l = length (ahead l.tokens)

abbrev pub invariant-expressions::read_expressions-each : goal.invariant-expressions::read_expressions-each
invariant-expressions::read_expressions-each l = Star AnExpression (many_at AnExpression (ahead l.fn.tokens)) (ahead l.fn.tokens) (map expr_of l.all) (ahead l.tokens)

abbrev pub decreases-expressions::read_expressions-each : goal.decreases-expressions::read_expressions-each
decreases-expressions::read_expressions-each l = length (ahead l.tokens)

abbrev pub invariant-groups::read_some_binds-each : goal.invariant-groups::read_some_binds-each
invariant-groups::read_some_binds-each l = Star ABind (several_at ABind (ahead l.fn.tokens)) (ahead l.fn.tokens) (map bind_of l.all) (ahead l.tokens)

abbrev pub decreases-groups::read_some_binds-each : goal.decreases-groups::read_some_binds-each
decreases-groups::read_some_binds-each l = length (ahead l.tokens)

abbrev pub invariant-groups::read_some_join_binds-each : goal.invariant-groups::read_some_join_binds-each
invariant-groups::read_some_join_binds-each l = Star AJoinBind (several_at AJoinBind (ahead l.fn.tokens)) (ahead l.fn.tokens) (map join_of l.all) (ahead l.tokens)

abbrev pub decreases-groups::read_some_join_binds-each : goal.decreases-groups::read_some_join_binds-each
decreases-groups::read_some_join_binds-each l = length (ahead l.tokens)

abbrev pub invariant-alternatives::read_alternatives-each : goal.invariant-alternatives::read_alternatives-each
invariant-alternatives::read_alternatives-each l = Star AnAlternative (many_at AnAlternative (ahead l.fn.tokens)) (ahead l.fn.tokens) (map alt_of l.all) (ahead l.tokens)

abbrev pub decreases-alternatives::read_alternatives-each : goal.decreases-alternatives::read_alternatives-each
decreases-alternatives::read_alternatives-each l = length (ahead l.tokens)
