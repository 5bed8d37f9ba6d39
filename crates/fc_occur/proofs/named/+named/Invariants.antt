use Rattle.std.proofs.Common.{◌≡◌, ◌+◌, ◌*◌, max, drop}
use denote.Param.Weighed.{most}
use Rattle.fc_syntax.specs.View.{alts_of, args_of, binds_of, exprs_of, joins_of}
use Rattle.fc_syntax.specs.declared.expr.Alt.{size-Alt}
use Rattle.fc_syntax.specs.declared.expr.Arg.{size-Arg}
use Rattle.fc_syntax.specs.declared.expr.Bind.{size-Bind}
use Rattle.fc_syntax.specs.declared.expr.Expr.{size-Expr}
use Rattle.fc_syntax.specs.declared.expr.JoinBind.{size-JoinBind}
use Rattle.fc_syntax.specs.declared.text.Text.{Text}
use Rattle.fc_syntax.specs.declared.ty.Name.{Name}
use Rattle.fc_rows.specs.Occurrences.{and_further}
use Rattle.fc_occur.specs.Counts.{counted_in_alts, counted_in_args, counted_in_binds, counted_in_exprs, counted_in_joins}
use Rattle.fc_occur.proofs.named.+named.Given as goal

abbrev pub invariant-in_arguments-loop-item : goal.invariant-in_arguments-loop-item
invariant-in_arguments-loop-item l = and_further l.all (counted_in_args l.x (args_of (drop l.item-index l.items))) ≡ counted_in_args l.x (args_of l.items)

abbrev pub invariant-in_expressions-loop-item : goal.invariant-in_expressions-loop-item
invariant-in_expressions-loop-item l = and_further l.all (counted_in_exprs l.x (exprs_of (drop l.item-index l.items))) ≡ counted_in_exprs l.x (exprs_of l.items)

abbrev pub invariant-in_right_sides-loop-item : goal.invariant-in_right_sides-loop-item
invariant-in_right_sides-loop-item l = and_further l.all (counted_in_binds l.x (binds_of (drop l.item-index l.items))) ≡ counted_in_binds l.x (binds_of l.items)

abbrev pub invariant-in_join_points-loop-item : goal.invariant-in_join_points-loop-item
invariant-in_join_points-loop-item l = and_further l.all (counted_in_joins l.x (joins_of (drop l.item-index l.items))) ≡ counted_in_joins l.x (joins_of l.items)

abbrev pub invariant-in_alternatives-loop-item : goal.invariant-in_alternatives-loop-item
invariant-in_alternatives-loop-item l = and_further l.all (counted_in_alts l.x (alts_of (drop l.item-index l.items))) ≡ counted_in_alts l.x (alts_of l.items)

-- measures: the size of what is gone through, where a function that is given the same or several parts stands above those that it calls
abbrev pub decreases-in_expression : goal.decreases-in_expression
decreases-in_expression l = 10 * size-Expr Text Name l.e.now

abbrev pub decreases-in_application : goal.decreases-in_application
decreases-in_application l = 10 * max (size-Expr Text Name l.f.now) (size-Arg Text Name l.a.now) + 5

abbrev pub decreases-in_lambda : goal.decreases-in_lambda
decreases-in_lambda l = 10 * size-Expr Text Name l.body.now + 5

abbrev pub decreases-in_let : goal.decreases-in_let
decreases-in_let l = 10 * max (most (size-Bind Text Name) l.binds.now) (size-Expr Text Name l.body.now) + 5

abbrev pub decreases-in_case : goal.decreases-in_case
decreases-in_case l = 10 * max (most (size-Alt Text Name) l.alts.now) (size-Expr Text Name l.scrutinee.now) + 5

abbrev pub decreases-in_join : goal.decreases-in_join
decreases-in_join l = 10 * max (most (size-JoinBind Text Name) l.joins.now) (size-Expr Text Name l.body.now) + 5

abbrev pub decreases-in_argument : goal.decreases-in_argument
decreases-in_argument l = 10 * size-Arg Text Name l.a.now

abbrev pub decreases-in_scoped : goal.decreases-in_scoped
decreases-in_scoped l = 10 * size-Expr Text Name l.body.now + 1

abbrev pub decreases-in_arguments : goal.decreases-in_arguments
decreases-in_arguments l = 10 * most (size-Arg Text Name) l.items.now + 2

abbrev pub decreases-in_expressions : goal.decreases-in_expressions
decreases-in_expressions l = 10 * most (size-Expr Text Name) l.items.now + 2

abbrev pub decreases-in_right_sides : goal.decreases-in_right_sides
decreases-in_right_sides l = 10 * most (size-Bind Text Name) l.items.now + 2

abbrev pub decreases-in_join_points : goal.decreases-in_join_points
decreases-in_join_points l = 10 * most (size-JoinBind Text Name) l.items.now + 2

abbrev pub decreases-in_alternatives : goal.decreases-in_alternatives
decreases-in_alternatives l = 10 * most (size-Alt Text Name) l.items.now + 2
