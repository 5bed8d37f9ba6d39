use Rattle.std.proofs.Common.{◌+◌, ◌*◌}
use Rattle.fc_type_table.proofs.table.TypeTable.+close.Given as goal

abbrev pub decreases-close_seen : goal.decreases-close_seen
decreases-close_seen l = 2 * l.part.0 + 1

abbrev pub decreases-close_part : goal.decreases-close_part
decreases-close_part l = 2 * l.part.0
