use Rattle.std.proofs.Common.{◌≡◌, ◌+◌, ◌*◌, ℕ, max, drop}
use denote.Param.Weighed.{most}
use Rattle.fc_syntax.specs.declared.expr.Alt.{size-Alt}
use Rattle.fc_syntax.specs.declared.expr.Expr.{size-Expr}
use Rattle.fc_syntax.specs.declared.expr.JoinBind.{size-JoinBind}
use Rattle.fc_syntax.specs.declared.ty.Ref.{Ref}
use Rattle.fc_model.specs.NamelessView.{nalts_of, njoins_of}
use Rattle.fc_rows.specs.Shrinking.{jump_place_in_alts, jump_place_in_joins}
use Rattle.fc_jump_places.proofs.finding.+finding.Given as goal

abbrev pub invariant-in_join_points-loop-join : goal.invariant-in_join_points-loop-join
invariant-in_join_points-loop-join l = jump_place_in_joins l.distance l.part (njoins_of (drop l.join-index l.joins)) ≡ jump_place_in_joins l.distance 1 (njoins_of l.joins)

abbrev pub invariant-in_alternatives-loop-alt : goal.invariant-in_alternatives-loop-alt
invariant-in_alternatives-loop-alt l = jump_place_in_alts l.distance l.held l.part (nalts_of (drop l.alt-index l.alts)) ≡ jump_place_in_alts l.distance l.held 3 (nalts_of l.alts)

-- measures: the size of what is gone through, where a function that is given the same or several parts stands above those that it calls
abbrev pub decreases-in_expression : goal.decreases-in_expression
decreases-in_expression l = 10 * size-Expr ℕ Ref l.e.now

abbrev pub decreases-in_let : goal.decreases-in_let
decreases-in_let l = 10 * size-Expr ℕ Ref l.body.now + 5

abbrev pub decreases-in_join_point : goal.decreases-in_join_point
decreases-in_join_point l = 10 * size-JoinBind ℕ Ref l.join.now

abbrev pub decreases-in_join_points : goal.decreases-in_join_points
decreases-in_join_points l = 10 * most (size-JoinBind ℕ Ref) l.joins.now + 2

abbrev pub decreases-in_join_sides : goal.decreases-in_join_sides
decreases-in_join_sides l = 10 * most (size-JoinBind ℕ Ref) l.joins.now + 3

abbrev pub decreases-in_join : goal.decreases-in_join
decreases-in_join l = 10 * max (most (size-JoinBind ℕ Ref) l.joins.now) (size-Expr ℕ Ref l.body.now) + 5

abbrev pub decreases-in_alternative : goal.decreases-in_alternative
decreases-in_alternative l = 10 * size-Alt ℕ Ref l.alt.now

abbrev pub decreases-in_alternatives : goal.decreases-in_alternatives
decreases-in_alternatives l = 10 * most (size-Alt ℕ Ref) l.alts.now + 2
