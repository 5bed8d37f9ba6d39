use Rattle.std.proofs.Common.{◌≡◌, length, not, take}
use Rattle.std.specs.List.{count_by}
use Rattle.fc_def_dead.proofs.moving.room_for.Given as goal

abbrev pub invariant-loop-marked : goal.invariant-loop-marked
invariant-loop-marked l = length l.room ≡ count_by not (take l.marked-index l.marks)
