use Rattle.std.proofs.Common.{◌≡◌, ◌++◌, take}
use Rattle.fc_simplify.proofs.steps.add_all.Given as goal

-- the numbers so far
abbrev pub invariant-loop-number : goal.invariant-loop-number
invariant-loop-number l = l.path ≡ l.fn.path ++ take l.number-index l.numbers
