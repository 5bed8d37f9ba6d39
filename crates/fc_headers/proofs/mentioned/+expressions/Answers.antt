use Rattle.std.proofs.Common.{arith, append_assoc, refl, sym, ap, ◌++◌}
use Rattle.fc_model.specs.Mentioning.{in_head}
use Rattle.fc_model.specs.NamelessView.{nalts_of, narg_of, nargs_of, nbinders_of, nbinds_of, nexpr_of, nexprs_of, njoins_of, nty_of}
use Rattle.fc_headers.specs.NamelessHeaders.{modules_in_alts, modules_in_arg, modules_in_args, modules_in_binders, modules_in_binds, modules_in_expr, modules_in_exprs, modules_in_joins, modules_in_type}
use Rattle.fc_headers.proofs.WordSteps.{both_added, item_added, parts_added}
use Rattle.fc_headers.proofs.mentioned.+expressions.Goals as goal

pub in_arguments-loop-x-preserved : goal.in_arguments-loop-x-preserved
in_arguments-loop-x-preserved t c =
    item_added (λ xs. modules_in_args (nargs_of xs)) (λ x. modules_in_arg (narg_of x)) (λ x xs. refl)
    c.args.items.now c.loop-x.x-index c.x-item.result _ _ _ c.loop-x.invariant (omega arith) c.x-item.is c.in_ok-in_argument.ensures

pub in_expressions-loop-x-preserved : goal.in_expressions-loop-x-preserved
in_expressions-loop-x-preserved t c =
    item_added (λ xs. modules_in_exprs (nexprs_of xs)) (λ x. modules_in_expr (nexpr_of x)) (λ x xs. refl)
    c.args.items.now c.loop-x.x-index c.x-item.result _ _ _ c.loop-x.invariant (omega arith) c.x-item.is c.in_ok-in_expression.ensures

pub in_binds-loop-x-preserved : goal.in_binds-loop-x-preserved
in_binds-loop-x-preserved t c =
    parts_added (λ xs. modules_in_binds (nbinds_of xs)) (λ x. modules_in_type (nty_of x.ty)) (λ x. modules_in_expr (nexpr_of x.rhs)) (λ x xs. refl)
    c.args.items.now c.loop-x.x-index c.x-item.result _ _ _ _ c.loop-x.invariant (omega arith) c.x-item.is c.in_ok-in_type.ensures c.in_ok-in_expression.ensures

pub in_join_points-loop-x-preserved : goal.in_join_points-loop-x-preserved
in_join_points-loop-x-preserved t c =
    parts_added (λ xs. modules_in_joins (njoins_of xs)) (λ x. modules_in_binders (nbinders_of x.params)) (λ x. modules_in_expr (nexpr_of x.rhs)) (λ x xs. refl)
    c.args.items.now c.loop-x.x-index c.x-item.result _ _ _ _ c.loop-x.invariant (omega arith) c.x-item.is
    (rw (← c.as_slice.ensures) c.in_ok-in_binders.ensures) c.in_ok-in_expression.ensures

pub in_alternatives-loop-x-preserved : goal.in_alternatives-loop-x-preserved
in_alternatives-loop-x-preserved t c =
    parts_added (λ xs. modules_in_alts (nalts_of xs)) (λ x. in_head x.head) (λ x. modules_in_binders (nbinders_of x.binders) ++ modules_in_expr (nexpr_of x.body))
    (λ x xs. ap (λ ws. in_head x.head ++ ws)
    (sym (append_assoc (modules_in_binders (nbinders_of x.binders)) (modules_in_expr (nexpr_of x.body)) (modules_in_alts (nalts_of xs)))))
    c.args.items.now c.loop-x.x-index c.x-item.result _ _ _ _ c.loop-x.invariant (omega arith) c.x-item.is c.in_ok-in_head.ensures
    (both_added (modules_in_binders (nbinders_of c.x-item.result.binders)) (modules_in_expr (nexpr_of c.x-item.result.body)) _ _ _
    (rw (← c.as_slice.ensures) c.in_ok-in_binders.ensures) c.in_ok-in_expression.ensures)
