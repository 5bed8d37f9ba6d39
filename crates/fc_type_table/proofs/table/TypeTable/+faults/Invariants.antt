use Rattle.std.proofs.Common.{◌+◌, ◌*◌, max}
use Rattle.fc_type_table.proofs.table.TypeTable.+faults.Given as goal

-- the parts of a piece have smaller numbers than the piece
abbrev pub decreases-fault : goal.decreases-fault
decreases-fault l = 5 * l.id.0

abbrev pub decreases-head_kind : goal.decreases-head_kind
decreases-head_kind l = 5 * l.id.0 + 1

abbrev pub decreases-part_kind : goal.decreases-part_kind
decreases-part_kind l = 5 * l.id.0 + 2

abbrev pub decreases-body_fault : goal.decreases-body_fault
decreases-body_fault l = 5 * l.body.0 + 3

abbrev pub decreases-application_fault : goal.decreases-application_fault
decreases-application_fault l = 5 * max l.head.0 l.argument.0 + 4

abbrev pub decreases-function_fault : goal.decreases-function_fault
decreases-function_fault l = 5 * max l.from.0 l.to.0 + 4

abbrev pub decreases-forall_fault : goal.decreases-forall_fault
decreases-forall_fault l = 5 * l.body.0 + 4

abbrev pub decreases-coforall_fault : goal.decreases-coforall_fault
decreases-coforall_fault l = 5 * max l.ends.0.0 (max l.ends.1.0 l.body.0) + 4
