use Rattle.std.proofs.Common.{◌+◌, ◌*◌}
use Rattle.fc_type_table.proofs.table.TypeTable.+open.Given as goal

abbrev pub decreases-open_seen : goal.decreases-open_seen
decreases-open_seen l = 2 * l.part.0 + 1

abbrev pub decreases-open_part : goal.decreases-open_part
decreases-open_part l = 2 * l.part.0
