use Rattle.std.proofs.Common.{◌∙◌, sym, ap, refl}
use Rattle.fc_syntax.specs.View.{alts_of, arg_of, args_of, binders_of, binds_of, expr_of, exprs_of, joins_of}
use Rattle.fc_free.specs.Free.{free_in, free_in_alts, free_in_arg, free_in_args, free_in_binds, free_in_exprs, free_in_joins, is_among, of_words, value_words, without}
use Rattle.fc_free.proofs.Among.{among_behind, among_here}
use Rattle.fc_free.proofs.mentioning.+mentions.Goals as goal

pub in_arguments-returns-then-in_argument : goal.in_arguments-returns-then-in_argument
in_arguments-returns-then-in_argument t c =
    among_here c.args.name.now (λ xs. free_in_args (args_of xs)) (λ x. free_in_arg (arg_of x)) (λ x xs. refl) c.args.items.now c.loop-x.x-index c.x-item.result
    c.loop-x.invariant c.loop-x-test.true c.x-item.is (sym c.in_argument.ensures ∙ c.if-in_argument.true)

pub in_arguments-loop-x-preserved : goal.in_arguments-loop-x-preserved
in_arguments-loop-x-preserved t c =
    among_behind c.args.name.now (λ xs. free_in_args (args_of xs)) (λ x. free_in_arg (arg_of x)) (λ x xs. refl) c.args.items.now c.loop-x.x-index c.x-item.result
    c.loop-x.invariant c.loop-x-test.true c.x-item.is (sym c.in_argument.ensures ∙ c.if-in_argument.false)

pub in_expressions-returns-then-mentions : goal.in_expressions-returns-then-mentions
in_expressions-returns-then-mentions t c =
    among_here c.args.name.now (λ xs. free_in_exprs (exprs_of xs)) (λ x. free_in (expr_of x)) (λ x xs. refl) c.args.items.now c.loop-x.x-index c.x-item.result
    c.loop-x.invariant c.loop-x-test.true c.x-item.is (sym c.mentions.ensures ∙ c.if-mentions.true)

pub in_expressions-loop-x-preserved : goal.in_expressions-loop-x-preserved
in_expressions-loop-x-preserved t c =
    among_behind c.args.name.now (λ xs. free_in_exprs (exprs_of xs)) (λ x. free_in (expr_of x)) (λ x xs. refl) c.args.items.now c.loop-x.x-index c.x-item.result
    c.loop-x.invariant c.loop-x-test.true c.x-item.is (sym c.mentions.ensures ∙ c.if-mentions.false)

pub in_binds-returns-then-mentions : goal.in_binds-returns-then-mentions
in_binds-returns-then-mentions t c =
    among_here c.args.name.now (λ xs. free_in_binds (binds_of xs)) (λ x. free_in (expr_of x.rhs)) (λ x xs. refl) c.args.items.now c.loop-x.x-index c.x-item.result
    c.loop-x.invariant c.loop-x-test.true c.x-item.is (sym c.mentions.ensures ∙ c.if-mentions.true)

pub in_binds-loop-x-preserved : goal.in_binds-loop-x-preserved
in_binds-loop-x-preserved t c =
    among_behind c.args.name.now (λ xs. free_in_binds (binds_of xs)) (λ x. free_in (expr_of x.rhs)) (λ x xs. refl) c.args.items.now c.loop-x.x-index c.x-item.result
    c.loop-x.invariant c.loop-x-test.true c.x-item.is (sym c.mentions.ensures ∙ c.if-mentions.false)

pub in_join_points-returns-then-in_scoped : goal.in_join_points-returns-then-in_scoped
in_join_points-returns-then-in_scoped t c =
    among_here c.args.name.now (λ xs. free_in_joins (joins_of xs)) (λ x. without (of_words (value_words (binders_of x.params))) (free_in (expr_of x.rhs))) (λ x xs. refl) c.args.items.now c.loop-x.x-index c.x-item.result
    c.loop-x.invariant c.loop-x-test.true c.x-item.is (sym (c.in_scoped.ensures ∙ ap (λ bs. is_among c.args.name.now (without (of_words (value_words (binders_of bs))) (free_in (expr_of c.x-item.result.rhs)))) c.as_slice.ensures) ∙ c.if-in_scoped.true)

pub in_join_points-loop-x-preserved : goal.in_join_points-loop-x-preserved
in_join_points-loop-x-preserved t c =
    among_behind c.args.name.now (λ xs. free_in_joins (joins_of xs)) (λ x. without (of_words (value_words (binders_of x.params))) (free_in (expr_of x.rhs))) (λ x xs. refl) c.args.items.now c.loop-x.x-index c.x-item.result
    c.loop-x.invariant c.loop-x-test.true c.x-item.is (sym (c.in_scoped.ensures ∙ ap (λ bs. is_among c.args.name.now (without (of_words (value_words (binders_of bs))) (free_in (expr_of c.x-item.result.rhs)))) c.as_slice.ensures) ∙ c.if-in_scoped.false)

pub in_alternatives-returns-then-in_scoped : goal.in_alternatives-returns-then-in_scoped
in_alternatives-returns-then-in_scoped t c =
    among_here c.args.name.now (λ xs. free_in_alts (alts_of xs)) (λ x. without (of_words (value_words (binders_of x.binders))) (free_in (expr_of x.body))) (λ x xs. refl) c.args.items.now c.loop-x.x-index c.x-item.result
    c.loop-x.invariant c.loop-x-test.true c.x-item.is (sym (c.in_scoped.ensures ∙ ap (λ bs. is_among c.args.name.now (without (of_words (value_words (binders_of bs))) (free_in (expr_of c.x-item.result.body)))) c.as_slice.ensures) ∙ c.if-in_scoped.true)

pub in_alternatives-loop-x-preserved : goal.in_alternatives-loop-x-preserved
in_alternatives-loop-x-preserved t c =
    among_behind c.args.name.now (λ xs. free_in_alts (alts_of xs)) (λ x. without (of_words (value_words (binders_of x.binders))) (free_in (expr_of x.body))) (λ x xs. refl) c.args.items.now c.loop-x.x-index c.x-item.result
    c.loop-x.invariant c.loop-x-test.true c.x-item.is (sym (c.in_scoped.ensures ∙ ap (λ bs. is_among c.args.name.now (without (of_words (value_words (binders_of bs))) (free_in (expr_of c.x-item.result.body)))) c.as_slice.ensures) ∙ c.if-in_scoped.false)
