use Rattle.std.proofs.Common.{◌≡◌, ◌++◌}
use Rattle.fc_simplify.specs.Steps.{lines_of}
use Rattle.fc_simplify.proofs.lines.add_steps.Given as goal

-- the lines so far
abbrev pub invariant-loop-number : goal.invariant-loop-number
invariant-loop-number l = l.lines ≡ l.fn.lines ++ lines_of l.number l.step
