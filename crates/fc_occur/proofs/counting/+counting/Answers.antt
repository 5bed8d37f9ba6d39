use Rattle.std.proofs.Common.{refl, sym, ap, ◌∙◌}
use Rattle.std.proofs.lemmas.Result.{IfOk-weaker}
use Rattle.fc_model.specs.NamelessView.{nalts_of, narg_of, nargs_of, nbinders_of, nbinds_of, nexpr_of, nexprs_of, njoins_of, nty_of}
use Rattle.fc_numbers.proofs.Counted.{binds_counted, joins_counted}
use Rattle.fc_rows.specs.Occurrences.{behind_all, behind_values, in_alts, in_arg, in_args, in_binds, in_exprs, in_field, in_fields, in_joins, occurrences}
use Rattle.fc_occur.specs.Spans.{sought_of}
use Rattle.fc_occur.proofs.Spans.{behind_bound}
use Rattle.fc_occur.proofs.Together.{case_counted, counted_step, join_counted, join_many, let_counted, let_many}
use Rattle.fc_occur.proofs.counting.+counting.Goals as goal

pub in_arguments-loop-x-preserved : goal.in_arguments-loop-x-preserved
in_arguments-loop-x-preserved t c =
    counted_step (λ xs. in_args (sought_of c.args.sought) (nargs_of xs)) (λ x. in_arg (sought_of c.args.sought) (narg_of x)) (λ x xs. refl) c.args.items.now c.loop-x.x-index c.x-item.result c.loop-x.all
    c.in_ok-in_argument.field-0 c.and_further-all.result c.loop-x.invariant c.loop-x-test.true c.x-item.is c.in_ok-in_argument.ensures c.and_further-all.ensures

pub in_constructor-loop-x-preserved : goal.in_constructor-loop-x-preserved
in_constructor-loop-x-preserved t c =
    counted_step (λ xs. in_fields (sought_of c.args.sought) (nargs_of xs)) (λ x. in_field (sought_of c.args.sought) (narg_of x)) (λ x xs. refl) c.args.items.now c.loop-x.x-index c.x-item.result c.loop-x.all
    c.in_ok-in_constructor_argument.field-0 c.and_further-all.result c.loop-x.invariant c.loop-x-test.true c.x-item.is c.in_ok-in_constructor_argument.ensures c.and_further-all.ensures

pub in_expressions-loop-x-preserved : goal.in_expressions-loop-x-preserved
in_expressions-loop-x-preserved t c =
    counted_step (λ xs. in_exprs (sought_of c.args.sought) (nexprs_of xs)) (λ x. occurrences (sought_of c.args.sought) (nexpr_of x)) (λ x xs. refl) c.args.items.now c.loop-x.x-index c.x-item.result c.loop-x.all
    c.in_ok-in_expression.field-0 c.and_further-all.result c.loop-x.invariant c.loop-x-test.true c.x-item.is c.in_ok-in_expression.ensures c.and_further-all.ensures

pub in_group-loop-x-preserved : goal.in_group-loop-x-preserved
in_group-loop-x-preserved t c =
    counted_step (λ xs. in_binds (sought_of c.args.sought) (nbinds_of xs)) (λ x. occurrences (sought_of c.args.sought) (nexpr_of x.rhs)) (λ x xs. refl) c.args.items.now c.loop-x.x-index c.x-item.result c.loop-x.all
    c.in_ok-in_expression.field-0 c.and_further-all.result c.loop-x.invariant c.loop-x-test.true c.x-item.is c.in_ok-in_expression.ensures c.and_further-all.ensures

pub in_join_points-loop-x-preserved : goal.in_join_points-loop-x-preserved
in_join_points-loop-x-preserved t c =
    counted_step (λ xs. in_joins (sought_of c.args.sought) (njoins_of xs)) (λ x. occurrences (behind_all (nbinders_of x.params) (sought_of c.args.sought)) (nexpr_of x.rhs)) (λ x xs. refl) c.args.items.now c.loop-x.x-index c.x-item.result c.loop-x.all
    c.in_ok-in_scoped.field-0 c.and_further-all.result c.loop-x.invariant c.loop-x-test.true c.x-item.is (c.in_ok-in_scoped.ensures ∙ ap (λ bs. occurrences (behind_all (nbinders_of bs) (sought_of c.args.sought)) (nexpr_of c.x-item.result.rhs)) c.as_slice.ensures) c.and_further-all.ensures

pub in_alternatives-loop-x-preserved : goal.in_alternatives-loop-x-preserved
in_alternatives-loop-x-preserved t c =
    counted_step (λ xs. in_alts (sought_of c.args.sought) (nalts_of xs)) (λ x. occurrences (behind_all (nbinders_of x.binders) (sought_of c.args.sought)) (nexpr_of x.body)) (λ x xs. refl) c.args.items.now c.loop-x.x-index c.x-item.result c.loop-x.all
    c.in_ok-in_scoped.field-0 c.and_further-all.result c.loop-x.invariant c.loop-x-test.true c.x-item.is (c.in_ok-in_scoped.ensures ∙ ap (λ bs. occurrences (behind_all (nbinders_of bs) (sought_of c.args.sought)) (nexpr_of c.x-item.result.body)) c.as_slice.ensures) c.and_further-all.ensures

pub in_let-returns : goal.in_let-returns
in_let-returns t c =
    c.and_further.ensures
    ∙ let_counted c.args.recursive c.in_ok-number.field-0 (nbinds_of c.args.binds.now) (nexpr_of c.args.body.now) (sought_of c.args.sought) (sought_of c.in_ok-inner.inner) c.in_ok-first.first c.in_ok-in_expression.field-0
    (c.in_ok-number.ensures ∙ sym (binds_counted c.args.binds.now)) c.in_ok-inner.ensures c.in_ok-first.ensures c.in_ok-in_expression.ensures

pub in_let-returns-then-is_many : goal.in_let-returns-then-is_many
in_let-returns-then-is_many t c =
    let_many c.args.recursive c.in_ok-number.field-0 (nbinds_of c.args.binds.now) (nexpr_of c.args.body.now) (sought_of c.args.sought) (sought_of c.in_ok-inner.inner) c.in_ok-first.first
    (c.in_ok-number.ensures ∙ sym (binds_counted c.args.binds.now)) c.in_ok-inner.ensures c.in_ok-first.ensures (c.is_many.ensures.0 c.if-is_many.true)

pub in_join-returns : goal.in_join-returns
in_join-returns t c =
    c.and_further.ensures
    ∙ join_counted c.args.recursive c.in_ok-number.field-0 (nty_of c.args.t.now) (njoins_of c.args.joins.now) (nexpr_of c.args.body.now) (sought_of c.args.sought) (sought_of c.in_ok-inner.inner) c.in_ok-first.first c.in_ok-in_expression.field-0
    (c.in_ok-number.ensures ∙ sym (joins_counted c.args.joins.now)) c.in_ok-inner.ensures c.in_ok-first.ensures c.in_ok-in_expression.ensures

pub in_join-returns-then-is_many : goal.in_join-returns-then-is_many
in_join-returns-then-is_many t c =
    join_many c.args.recursive c.in_ok-number.field-0 (nty_of c.args.t.now) (njoins_of c.args.joins.now) (nexpr_of c.args.body.now) (sought_of c.args.sought) (sought_of c.in_ok-inner.inner) c.in_ok-first.first
    (c.in_ok-number.ensures ∙ sym (joins_counted c.args.joins.now)) c.in_ok-inner.ensures c.in_ok-first.ensures (c.is_many.ensures.0 c.if-is_many.true)

pub in_case-returns : goal.in_case-returns
in_case-returns t c =
    c.and_further.ensures
    ∙ case_counted (nexpr_of c.args.scrutinee.now) (nty_of c.args.t.now) (nty_of c.args.u.now) (nalts_of c.args.alts.now) (sought_of c.args.sought) (sought_of c.in_ok-inner.inner) c.in_ok-first.first c.in_ok-in_alternatives.field-0
    c.in_ok-inner.ensures c.in_ok-first.ensures c.in_ok-in_alternatives.ensures

pub in_scoped-returns : goal.in_scoped-returns
in_scoped-returns t c =
    IfOk-weaker c.in_expression.result _ _
    (λ _ h. h ∙ ap (λ u. occurrences u (nexpr_of c.args.body.now)) (c.in_ok-inner.ensures ∙ ap (λ n. behind_values n (sought_of c.args.sought)) c.in_ok-value_binders.ensures ∙ behind_bound (nbinders_of c.args.binders.now) (sought_of c.args.sought)))
    c.in_expression.ensures
