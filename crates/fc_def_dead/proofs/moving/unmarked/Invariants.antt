use Rattle.std.proofs.Common.{◌≡◌, ◌++◌, ◌≤◌, drop, length, take}
use Rattle.fc_def_dead.specs.Dead.{without_marked}
use Rattle.fc_def_dead.proofs.moving.unmarked.Given as goal

abbrev pub invariant-loop-number : goal.invariant-loop-number
invariant-loop-number l = record {
  within : l.at ≤ l.number;
  count : length l.from ≡ length l.marks;
  room : length l.to ≡ length (without_marked l.marks l.fn.decls);
  moved : take l.at l.to ++ without_marked (drop l.number l.marks) (drop l.number l.from) ≡ without_marked l.marks l.fn.decls;
}
