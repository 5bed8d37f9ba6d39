use Rattle.std.proofs.Common.{ap, map, refl}
use Rattle.fc_syntax.specs.View.{alt_of, arg_of, bind_of, expr_of, join_of}
use Rattle.fc_model.specs.Grammar.{ABind, AJoinBind, AnAlternative, AnArgument, AnExpression}
use Rattle.fc_read_parts.proofs.Stars.{many_start, several_start, star_more}
use Rattle.fc_read_terms.proofs.+expressions.Goals as goal

pub expressions::read_some_arguments-each-init : goal.expressions::read_some_arguments-each-init
expressions::read_some_arguments-each-init t c = several_start AnArgument arg_of _ _ _ _ _ c.new-all.ensures c.in_ok-read_argument.ensures.read c.in_ok-read_argument.ensures.shorter c.in_ok-push.ensures.ok

pub expressions::read_some_arguments-each-preserved : goal.expressions::read_some_arguments-each-preserved
expressions::read_some_arguments-each-preserved t c =
    star_more AnArgument _ arg_of _ _ _ _ _ _ _ c.each.invariant (c.if-closes.ensures.open refl) c.in_ok-read_argument-2.ensures.read c.in_ok-read_argument-2.ensures.shorter c.in_ok-push-2.ensures.ok

pub expressions::read_arguments-each-init : goal.expressions::read_arguments-each-init
expressions::read_arguments-each-init t c = many_start AnArgument _ _ (ap (map arg_of) c.new-all.ensures)

pub expressions::read_arguments-each-preserved : goal.expressions::read_arguments-each-preserved
expressions::read_arguments-each-preserved t c =
    star_more AnArgument _ arg_of _ _ _ _ _ _ _ c.each.invariant (c.if-closes.ensures.open refl) c.in_ok-read_argument.ensures.read c.in_ok-read_argument.ensures.shorter c.in_ok-push.ensures.ok

pub expressions::read_expressions-each-init : goal.expressions::read_expressions-each-init
expressions::read_expressions-each-init t c = many_start AnExpression _ _ (ap (map expr_of) c.new-all.ensures)

pub expressions::read_expressions-each-preserved : goal.expressions::read_expressions-each-preserved
expressions::read_expressions-each-preserved t c =
    star_more AnExpression _ expr_of _ _ _ _ _ _ _ c.each.invariant (c.if-closes.ensures.open refl) c.in_ok-read_expression.ensures.read c.in_ok-read_expression.ensures.shorter c.in_ok-push.ensures.ok

pub groups::read_some_binds-each-init : goal.groups::read_some_binds-each-init
groups::read_some_binds-each-init t c = several_start ABind bind_of _ _ _ _ _ c.new-all.ensures c.in_ok-read_bind.ensures.read c.in_ok-read_bind.ensures.shorter c.in_ok-push.ensures.ok

pub groups::read_some_binds-each-preserved : goal.groups::read_some_binds-each-preserved
groups::read_some_binds-each-preserved t c =
    star_more ABind _ bind_of _ _ _ _ _ _ _ c.each.invariant (c.if-closes.ensures.open refl) c.in_ok-read_bind-2.ensures.read c.in_ok-read_bind-2.ensures.shorter c.in_ok-push-2.ensures.ok

pub groups::read_some_join_binds-each-init : goal.groups::read_some_join_binds-each-init
groups::read_some_join_binds-each-init t c = several_start AJoinBind join_of _ _ _ _ _ c.new-all.ensures c.in_ok-read_join_bind.ensures.read c.in_ok-read_join_bind.ensures.shorter c.in_ok-push.ensures.ok

pub groups::read_some_join_binds-each-preserved : goal.groups::read_some_join_binds-each-preserved
groups::read_some_join_binds-each-preserved t c =
    star_more AJoinBind _ join_of _ _ _ _ _ _ _ c.each.invariant (c.if-closes.ensures.open refl) c.in_ok-read_join_bind-2.ensures.read c.in_ok-read_join_bind-2.ensures.shorter c.in_ok-push-2.ensures.ok

pub alternatives::read_alternatives-each-init : goal.alternatives::read_alternatives-each-init
alternatives::read_alternatives-each-init t c = many_start AnAlternative _ _ (ap (map alt_of) c.new-all.ensures)

pub alternatives::read_alternatives-each-preserved : goal.alternatives::read_alternatives-each-preserved
alternatives::read_alternatives-each-preserved t c =
    star_more AnAlternative _ alt_of _ _ _ _ _ _ _ c.each.invariant (c.if-closes.ensures.open refl) c.in_ok-read_alternative.ensures.read c.in_ok-read_alternative.ensures.shorter c.in_ok-push.ensures.ok
