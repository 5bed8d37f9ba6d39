use Rattle.std.proofs.Common.{◌+◌, ◌*◌}
use Rattle.fc_type_trees.proofs.kinds.+kinds.Given as goal

abbrev pub decreases-kind_within : goal.decreases-kind_within
decreases-kind_within l = 2 * l.id.0 + 1

abbrev pub decreases-kind_below : goal.decreases-kind_below
decreases-kind_below l = 2 * l.id.0
