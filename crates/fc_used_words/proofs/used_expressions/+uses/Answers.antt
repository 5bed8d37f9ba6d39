use Rattle.std.proofs.Common.{rules, arith, refl}
use Rattle.fc_syntax.proofs.View.{view_rules}
use Rattle.fc_model.specs.DeclaredWords.{words_by_space}
use Rattle.fc_used_words.proofs.Collecting.{adds_alts, adds_application, adds_args, adds_binds, adds_bound, adds_branch, adds_case, adds_cast, adds_constructor, adds_exprs, adds_join, adds_joined, adds_joins, adds_jump, adds_lambda, adds_let, adds_primitive}
use Rattle.fc_used_words.proofs.Collecting.{alts_below, binds_below, expr_below, joins_below}
use Rattle.fc_used_words.proofs.used_expressions.+uses.Goals as goal

pub use_expr-returns-in_ok-use_arg-in-App : goal.use_expr-returns-in_ok-use_arg-in-App
use_expr-returns-in_ok-use_arg-in-App t c = adds_application c.in_ok-use_expr-in-App.ensures c.in_ok-use_arg-in-App.ensures (search (rules, view_rules))

pub use_expr-returns-in_ok-use_expr-in-Lam : goal.use_expr-returns-in_ok-use_expr-in-Lam
use_expr-returns-in_ok-use_expr-in-Lam t c = adds_lambda c.in_ok-use_binder-in-Lam.ensures (expr_below c.in_ok-use_expr-in-Lam.ensures (search rules)) (search (rules, view_rules))

pub use_expr-returns-in_ok-use_expr-in-Let : goal.use_expr-returns-in_ok-use_expr-in-Let
use_expr-returns-in_ok-use_expr-in-Let t c = adds_let {r = c.in-Let.recursive} (binds_below c.in_ok-use_binds-in-Let.ensures (search rules)) (expr_below c.in_ok-use_expr-in-Let.ensures (search rules)) (search (rules, view_rules))

pub use_expr-returns-in_ok-use_alts-in-Case : goal.use_expr-returns-in_ok-use_alts-in-Case
use_expr-returns-in_ok-use_alts-in-Case t c = adds_case c.in_ok-use_expr-in-Case.ensures c.in_ok-use_ty-in-Case.ensures c.in_ok-use_ty-in-Case-2.ensures (alts_below c.in_ok-use_alts-in-Case.ensures (search rules)) (search (rules, view_rules))

pub use_expr-returns-in_ok-use_co-in-Cast : goal.use_expr-returns-in_ok-use_co-in-Cast
use_expr-returns-in_ok-use_co-in-Cast t c = adds_cast c.in_ok-use_expr-in-Cast.ensures c.in_ok-use_co-in-Cast.ensures (search (rules, view_rules))

pub use_expr-returns-in_ok-use_args-in-Con : goal.use_expr-returns-in_ok-use_args-in-Con
use_expr-returns-in_ok-use_args-in-Con t c = adds_constructor {x = c.in-Con.field-0} c.in_ok-use_args-in-Con.ensures (search (rules, view_rules))

pub use_expr-returns-in_ok-use_exprs-in-Prim : goal.use_expr-returns-in_ok-use_exprs-in-Prim
use_expr-returns-in_ok-use_exprs-in-Prim t c = adds_primitive {op = c.in-Prim.field-0} c.in_ok-use_exprs-in-Prim.ensures (search (rules, view_rules))

pub use_expr-returns-in_ok-use_expr-in-Join : goal.use_expr-returns-in_ok-use_expr-in-Join
use_expr-returns-in_ok-use_expr-in-Join t c = adds_join {r = c.in-Join.recursive} c.in_ok-use_ty-in-Join.ensures (joins_below c.in_ok-use_joins-in-Join.ensures (search rules)) (expr_below c.in_ok-use_expr-in-Join.ensures (search rules)) (search (rules, view_rules))

pub use_expr-returns-in_ok-use_args-in-Jump : goal.use_expr-returns-in_ok-use_args-in-Jump
unfolding words_by_space
use_expr-returns-in_ok-use_args-in-Jump t c = adds_jump c.in_ok-add_join-in-Jump.ensures refl c.in_ok-use_args-in-Jump.ensures (search (rules, view_rules))

pub use_args-loop-arg-preserved : goal.use_args-loop-arg-preserved
use_args-loop-arg-preserved t c = adds_args c.args.args.now c.loop-arg.arg-index c.arg-item.result _ _ _ (omega arith) c.arg-item.is c.loop-arg.invariant c.in_ok-use_arg.ensures

pub use_exprs-loop-e-preserved : goal.use_exprs-loop-e-preserved
use_exprs-loop-e-preserved t c = adds_exprs c.args.es.now c.loop-e.e-index c.e-item.result _ _ _ (omega arith) c.e-item.is c.loop-e.invariant c.in_ok-use_expr.ensures

pub use_binds-loop-bind-preserved : goal.use_binds-loop-bind-preserved
use_binds-loop-bind-preserved t c = adds_binds c.args.binds.now c.loop-bind.bind-index c.bind-item.result _ _ _ (omega arith) c.bind-item.is c.loop-bind.invariant (adds_bound c.in_ok-use_ty.ensures c.in_ok-use_expr.ensures refl)

pub use_joins-loop-join-preserved : goal.use_joins-loop-join-preserved
use_joins-loop-join-preserved t c = adds_joins c.args.joins.now c.loop-join.join-index c.join-item.result _ _ _ (omega arith) c.join-item.is c.loop-join.invariant (adds_joined c.in_ok-inner.ensures.adds (expr_below c.in_ok-use_expr.ensures c.in_ok-inner.ensures.below) (search rules))

pub use_alts-loop-alt-preserved : goal.use_alts-loop-alt-preserved
use_alts-loop-alt-preserved t c = adds_alts c.args.alts.now c.loop-alt.alt-index c.alt-item.result _ _ _ (omega arith) c.alt-item.is c.loop-alt.invariant (adds_branch {h = c.alt-item.result.head} c.in_ok-inner.ensures.adds (expr_below c.in_ok-use_expr.ensures c.in_ok-inner.ensures.below) (search rules))
