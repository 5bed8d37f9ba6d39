use Rattle.std.proofs.Common.{refl, ap, ◌∙◌}
use Rattle.fc_syntax.specs.View.{alts_of, arg_of, args_of, binders_of, binds_of, expr_of, exprs_of, joins_of}
use Rattle.fc_free.specs.Free.{of_words, value_words}
use Rattle.fc_occur.specs.Counts.{counted, counted_in_alts, counted_in_arg, counted_in_args, counted_in_binds, counted_in_exprs, counted_in_joins, unless}
use Rattle.fc_occur.proofs.Together.{counted_step}
use Rattle.fc_occur.proofs.named.+named.Goals as goal

pub in_arguments-loop-item-preserved : goal.in_arguments-loop-item-preserved
in_arguments-loop-item-preserved t c =
    counted_step (λ ys. counted_in_args c.args.x.now (args_of ys)) (λ y. counted_in_arg c.args.x.now (arg_of y)) (λ y ys. refl) c.args.items.now c.loop-item.item-index c.item-item.result c.loop-item.all
    c.in_argument.result c.and_further-all.result c.loop-item.invariant c.loop-item-test.true c.item-item.is c.in_argument.ensures c.and_further-all.ensures

pub in_expressions-loop-item-preserved : goal.in_expressions-loop-item-preserved
in_expressions-loop-item-preserved t c =
    counted_step (λ ys. counted_in_exprs c.args.x.now (exprs_of ys)) (λ y. counted c.args.x.now (expr_of y)) (λ y ys. refl) c.args.items.now c.loop-item.item-index c.item-item.result c.loop-item.all
    c.in_expression.result c.and_further-all.result c.loop-item.invariant c.loop-item-test.true c.item-item.is c.in_expression.ensures c.and_further-all.ensures

pub in_right_sides-loop-item-preserved : goal.in_right_sides-loop-item-preserved
in_right_sides-loop-item-preserved t c =
    counted_step (λ ys. counted_in_binds c.args.x.now (binds_of ys)) (λ y. counted c.args.x.now (expr_of y.rhs)) (λ y ys. refl) c.args.items.now c.loop-item.item-index c.item-item.result c.loop-item.all
    c.in_expression.result c.and_further-all.result c.loop-item.invariant c.loop-item-test.true c.item-item.is c.in_expression.ensures c.and_further-all.ensures

pub in_join_points-loop-item-preserved : goal.in_join_points-loop-item-preserved
in_join_points-loop-item-preserved t c =
    counted_step (λ ys. counted_in_joins c.args.x.now (joins_of ys)) (λ y. unless (of_words (value_words (binders_of y.params)) c.args.x.now) (counted c.args.x.now (expr_of y.rhs))) (λ y ys. refl) c.args.items.now c.loop-item.item-index c.item-item.result c.loop-item.all
    c.in_scoped.result c.and_further-all.result c.loop-item.invariant c.loop-item-test.true c.item-item.is (c.in_scoped.ensures ∙ ap (λ bs. unless (of_words (value_words (binders_of bs)) c.args.x.now) (counted c.args.x.now (expr_of c.item-item.result.rhs))) c.as_slice.ensures) c.and_further-all.ensures

pub in_alternatives-loop-item-preserved : goal.in_alternatives-loop-item-preserved
in_alternatives-loop-item-preserved t c =
    counted_step (λ ys. counted_in_alts c.args.x.now (alts_of ys)) (λ y. unless (of_words (value_words (binders_of y.binders)) c.args.x.now) (counted c.args.x.now (expr_of y.body))) (λ y ys. refl) c.args.items.now c.loop-item.item-index c.item-item.result c.loop-item.all
    c.in_scoped.result c.and_further-all.result c.loop-item.invariant c.loop-item-test.true c.item-item.is (c.in_scoped.ensures ∙ ap (λ bs. unless (of_words (value_words (binders_of bs)) c.args.x.now) (counted c.args.x.now (expr_of c.item-item.result.body))) c.as_slice.ensures) c.and_further-all.ensures
