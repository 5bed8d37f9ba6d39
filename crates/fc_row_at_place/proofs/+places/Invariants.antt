use Rattle.std.proofs.Common.{◌+◌, ◌*◌, length}
use Rattle.fc_row_at_place.proofs.Frames.{joined_weight, row_weight, weight}
use Rattle.fc_row_at_place.proofs.+places.Given as goal

-- Each call goes on with the same place or with what is left of it; with the same place, this many calls at most are still to come before one number goes. A walk to a jump
-- begins anew with a place, which is shorter than the weight of a row.

abbrev pub decreases-alternatives::row_behind_branch : goal.decreases-alternatives::row_behind_branch
decreases-alternatives::row_behind_branch l = weight l.site.now.asked.now.question + (8 * length l.place.now + 4)

abbrev pub decreases-alternatives::row_in_branch : goal.decreases-alternatives::row_in_branch
decreases-alternatives::row_in_branch l = weight l.site.now.asked.now.question + (8 * length l.place.now + 4)

abbrev pub decreases-alternatives::row_in_case : goal.decreases-alternatives::row_in_case
decreases-alternatives::row_in_case l = weight l.site.now.asked.now.question + (8 * length l.rest.now + 5)

abbrev pub decreases-alternatives::row_past_branch : goal.decreases-alternatives::row_past_branch
decreases-alternatives::row_past_branch l = weight l.site.now.asked.now.question + (8 * length l.place.now + 3)

abbrev pub decreases-binders::row_behind_binders : goal.decreases-binders::row_behind_binders
decreases-binders::row_behind_binders l = weight l.site.now.asked.now.question + (8 * length l.place.now + 4)

abbrev pub decreases-binders::row_in_lambda : goal.decreases-binders::row_in_lambda
decreases-binders::row_in_lambda l = weight l.site.now.asked.now.question + (8 * length l.place.now + 5)

abbrev pub decreases-binders::row_past_binders : goal.decreases-binders::row_past_binders
decreases-binders::row_past_binders l = weight l.site.now.asked.now.question + (8 * length l.place.now + 3)

abbrev pub decreases-groups::row_at_join_side : goal.decreases-groups::row_at_join_side
decreases-groups::row_at_join_side l = weight l.site.now.asked.now.question + (8 * length l.place.now + 5)

abbrev pub decreases-groups::row_at_right_side : goal.decreases-groups::row_at_right_side
decreases-groups::row_at_right_side l = weight l.site.now.asked.now.question + (8 * length l.place.now + 5)

abbrev pub decreases-groups::row_behind_bindings : goal.decreases-groups::row_behind_bindings
decreases-groups::row_behind_bindings l = weight l.site.now.asked.now.question + (8 * length l.place.now + 3)

abbrev pub decreases-groups::row_behind_points : goal.decreases-groups::row_behind_points
decreases-groups::row_behind_points l = weight l.site.now.asked.now.question + (8 * length l.place.now + 3)

abbrev pub decreases-groups::row_in_join : goal.decreases-groups::row_in_join
decreases-groups::row_in_join l = weight l.site.now.asked.now.question + (8 * length l.rest.now + 6)

abbrev pub decreases-groups::row_in_let : goal.decreases-groups::row_in_let
decreases-groups::row_in_let l = weight l.site.now.asked.now.question + (8 * length l.rest.now + 6)

abbrev pub decreases-groups::row_of_binding : goal.decreases-groups::row_of_binding
decreases-groups::row_of_binding l = weight l.site.now.asked.now.question + (8 * length l.place.now + 3)

abbrev pub decreases-groups::row_of_member : goal.decreases-groups::row_of_member
decreases-groups::row_of_member l = weight l.site.now.asked.now.question + (8 * length l.place.now + 4)

abbrev pub decreases-groups::row_of_point : goal.decreases-groups::row_of_point
decreases-groups::row_of_point l = weight l.site.now.asked.now.question + (8 * length l.place.now + 3)

abbrev pub decreases-groups::row_of_point_alone : goal.decreases-groups::row_of_point_alone
decreases-groups::row_of_point_alone l = weight l.site.now.asked.now.question + (8 * length l.place.now + 4)

abbrev pub decreases-groups::row_of_recursive_point : goal.decreases-groups::row_of_recursive_point
decreases-groups::row_of_recursive_point l = weight l.site.now.asked.now.question + (8 * length l.place.now + 4)

abbrev pub decreases-places::row_among_arguments : goal.decreases-places::row_among_arguments
decreases-places::row_among_arguments l = weight l.site.now.asked.now.question + (8 * length l.rest.now + 5)

abbrev pub decreases-places::row_among_operands : goal.decreases-places::row_among_operands
decreases-places::row_among_operands l = weight l.site.now.asked.now.question + (8 * length l.rest.now + 4)

abbrev pub decreases-places::row_apart : goal.decreases-places::row_apart
decreases-places::row_apart l = weight l.site.now.asked.now.question + (8 * length l.place.now + 3)

abbrev pub decreases-places::row_at : goal.decreases-places::row_at
decreases-places::row_at l = weight l.site.now.asked.now.question + (8 * length l.place.now + 2)

abbrev pub decreases-places::row_at_head : goal.decreases-places::row_at_head
decreases-places::row_at_head l = weight l.site.now.asked.now.question + (8 * length l.place.now + 3)

abbrev pub decreases-places::row_in_argument : goal.decreases-places::row_in_argument
decreases-places::row_in_argument l = weight l.site.now.asked.now.question + (8 * length l.place.now + 4)

abbrev pub decreases-places::row_within : goal.decreases-places::row_within
decreases-places::row_within l = weight l.site.now.asked.now.question + (8 * length l.rest.now + 9)

abbrev pub decreases-joins::answer_here : goal.decreases-joins::answer_here
decreases-joins::answer_here l = weight l.site.now.asked.now.question + 1

abbrev pub decreases-joins::join_once : goal.decreases-joins::join_once
decreases-joins::join_once l = row_weight

abbrev pub decreases-joins::joined_once : goal.decreases-joins::joined_once
decreases-joins::joined_once l = joined_weight
