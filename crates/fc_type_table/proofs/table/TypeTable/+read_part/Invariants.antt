use Rattle.std.proofs.Common.{◌-◌}
use Rattle.fc_type_table.proofs.table.TypeTable.+read_part.Given as goal

-- how much deeper a type may be read
abbrev pub decreases-read_part : goal.decreases-read_part
decreases-read_part l = 10000 - l.nested
