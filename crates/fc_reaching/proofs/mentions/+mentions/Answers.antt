use Rattle.std.proofs.Common.{arith, rules}
use Rattle.fc_syntax.proofs.View.{view_rules}
use Rattle.fc_reaching.proofs.Mentioning.{adds_alts, adds_args, adds_binds, adds_both, adds_exprs, adds_joins}
use Rattle.fc_reaching.proofs.mentions.+mentions.Goals as goal

pub mention_expr-returns-in_ok-mention_arg-in-App : goal.mention_expr-returns-in_ok-mention_arg-in-App
mention_expr-returns-in_ok-mention_arg-in-App t c = adds_both c.in_ok-mention_expr-in-App.ensures c.in_ok-mention_arg-in-App.ensures (search (rules, view_rules))

pub mention_expr-returns-in_ok-mention_expr-in-Let : goal.mention_expr-returns-in_ok-mention_expr-in-Let
mention_expr-returns-in_ok-mention_expr-in-Let t c = adds_both c.in_ok-mention_binds-in-Let.ensures c.in_ok-mention_expr-in-Let.ensures (search (rules, view_rules))

pub mention_expr-returns-in_ok-mention_alts-in-Case : goal.mention_expr-returns-in_ok-mention_alts-in-Case
mention_expr-returns-in_ok-mention_alts-in-Case t c = adds_both c.in_ok-mention_expr-in-Case.ensures c.in_ok-mention_alts-in-Case.ensures (search (rules, view_rules))

pub mention_expr-returns-in_ok-mention_expr-in-Join : goal.mention_expr-returns-in_ok-mention_expr-in-Join
mention_expr-returns-in_ok-mention_expr-in-Join t c = adds_both c.in_ok-mention_joins-in-Join.ensures c.in_ok-mention_expr-in-Join.ensures (search (rules, view_rules))

pub mention_args-loop-arg-preserved : goal.mention_args-loop-arg-preserved
mention_args-loop-arg-preserved t c = adds_args c.args.args.now c.loop-arg.arg-index c.arg-item.result (omega arith) c.arg-item.is c.loop-arg.invariant c.in_ok-mention_arg.ensures

pub mention_exprs-loop-e-preserved : goal.mention_exprs-loop-e-preserved
mention_exprs-loop-e-preserved t c = adds_exprs c.args.es.now c.loop-e.e-index c.e-item.result (omega arith) c.e-item.is c.loop-e.invariant c.in_ok-mention_expr.ensures

pub mention_binds-loop-bind-preserved : goal.mention_binds-loop-bind-preserved
mention_binds-loop-bind-preserved t c = adds_binds c.args.binds.now c.loop-bind.bind-index c.bind-item.result (omega arith) c.bind-item.is c.loop-bind.invariant c.in_ok-mention_expr.ensures

pub mention_joins-loop-join-preserved : goal.mention_joins-loop-join-preserved
mention_joins-loop-join-preserved t c = adds_joins c.args.joins.now c.loop-join.join-index c.join-item.result (omega arith) c.join-item.is c.loop-join.invariant c.in_ok-mention_expr.ensures

pub mention_alts-loop-alt-preserved : goal.mention_alts-loop-alt-preserved
mention_alts-loop-alt-preserved t c = adds_alts c.args.alts.now c.loop-alt.alt-index c.alt-item.result (omega arith) c.alt-item.is c.loop-alt.invariant c.in_ok-mention_expr.ensures
