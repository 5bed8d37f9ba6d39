use Rattle.std.proofs.Common.{◌≡◌, ◌+◌, ◌*◌, ◌++◌, max, map, drop}
use denote.Param.Weighed.{most}
use Rattle.fc_syntax.specs.View.{alts_of, args_of, binds_of, exprs_of, joins_of}
use Rattle.fc_syntax.specs.declared.expr.Alt.{size-Alt}
use Rattle.fc_syntax.specs.declared.expr.Arg.{size-Arg}
use Rattle.fc_syntax.specs.declared.expr.Bind.{size-Bind}
use Rattle.fc_syntax.specs.declared.expr.Expr.{size-Expr}
use Rattle.fc_syntax.specs.declared.expr.JoinBind.{size-JoinBind}
use Rattle.fc_syntax.specs.declared.text.Text.{Text}
use Rattle.fc_syntax.specs.declared.ty.Name.{Name}
use Rattle.fc_free.specs.Bound.{words_of}
use Rattle.fc_free.specs.Free.{free_in_alts, free_in_args, free_in_binds, free_in_exprs, free_in_joins, without}
use Rattle.fc_free.proofs.collecting.+collecting.Given as goal

-- what is found so far and in what is still to come is what was there and what is found in all
abbrev pub invariant-in_arguments-loop-x : goal.invariant-in_arguments-loop-x
invariant-in_arguments-loop-x l =
    map (λ n. n.now) l.to.items ++ without (words_of l.around) (free_in_args (args_of (drop l.x-index l.items))) ≡ map (λ n. n.now) l.fn.to.items ++ without (words_of l.around) (free_in_args (args_of l.items))

abbrev pub invariant-in_expressions-loop-x : goal.invariant-in_expressions-loop-x
invariant-in_expressions-loop-x l =
    map (λ n. n.now) l.to.items ++ without (words_of l.around) (free_in_exprs (exprs_of (drop l.x-index l.items))) ≡ map (λ n. n.now) l.fn.to.items ++ without (words_of l.around) (free_in_exprs (exprs_of l.items))

abbrev pub invariant-in_binds-loop-x : goal.invariant-in_binds-loop-x
invariant-in_binds-loop-x l =
    map (λ n. n.now) l.to.items ++ without (words_of l.around) (free_in_binds (binds_of (drop l.x-index l.items))) ≡ map (λ n. n.now) l.fn.to.items ++ without (words_of l.around) (free_in_binds (binds_of l.items))

abbrev pub invariant-in_join_points-loop-x : goal.invariant-in_join_points-loop-x
invariant-in_join_points-loop-x l =
    map (λ n. n.now) l.to.items ++ without (words_of l.around) (free_in_joins (joins_of (drop l.x-index l.items))) ≡ map (λ n. n.now) l.fn.to.items ++ without (words_of l.around) (free_in_joins (joins_of l.items))

abbrev pub invariant-in_alternatives-loop-x : goal.invariant-in_alternatives-loop-x
invariant-in_alternatives-loop-x l =
    map (λ n. n.now) l.to.items ++ without (words_of l.around) (free_in_alts (alts_of (drop l.x-index l.items))) ≡ map (λ n. n.now) l.fn.to.items ++ without (words_of l.around) (free_in_alts (alts_of l.items))

-- measures: the depth of what is gone through, where a function that is given the same or several parts stands above those that it calls
abbrev pub decreases-in_expression : goal.decreases-in_expression
decreases-in_expression l = 10 * size-Expr Text Name l.e.now

abbrev pub decreases-in_let : goal.decreases-in_let
decreases-in_let l = 10 * max (most (size-Bind Text Name) l.binds.now) (size-Expr Text Name l.e.now) + 5

abbrev pub decreases-in_right_sides : goal.decreases-in_right_sides
decreases-in_right_sides l = 10 * most (size-Bind Text Name) l.binds.now + 4

abbrev pub decreases-in_join : goal.decreases-in_join
decreases-in_join l = 10 * max (most (size-JoinBind Text Name) l.joins.now) (size-Expr Text Name l.e.now) + 5

abbrev pub decreases-in_join_sides : goal.decreases-in_join_sides
decreases-in_join_sides l = 10 * most (size-JoinBind Text Name) l.joins.now + 4

abbrev pub decreases-in_scoped : goal.decreases-in_scoped
decreases-in_scoped l = 10 * size-Expr Text Name l.e.now + 1

abbrev pub decreases-in_argument : goal.decreases-in_argument
decreases-in_argument l = 10 * size-Arg Text Name l.a.now

abbrev pub decreases-in_arguments : goal.decreases-in_arguments
decreases-in_arguments l = 10 * most (size-Arg Text Name) l.items.now + 2

abbrev pub decreases-in_expressions : goal.decreases-in_expressions
decreases-in_expressions l = 10 * most (size-Expr Text Name) l.items.now + 2

abbrev pub decreases-in_binds : goal.decreases-in_binds
decreases-in_binds l = 10 * most (size-Bind Text Name) l.items.now + 2

abbrev pub decreases-in_join_points : goal.decreases-in_join_points
decreases-in_join_points l = 10 * most (size-JoinBind Text Name) l.items.now + 2

abbrev pub decreases-in_alternatives : goal.decreases-in_alternatives
decreases-in_alternatives l = 10 * most (size-Alt Text Name) l.items.now + 2
