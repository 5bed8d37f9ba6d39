use Rattle.std.proofs.Common.{◌≡◌, ◌++◌, take}
use Rattle.fc_simplify.proofs.lines.add_lines.Given as goal

-- the lines so far
abbrev pub invariant-loop-line : goal.invariant-loop-line
invariant-loop-line l = l.lines ≡ l.fn.lines ++ take l.line-index l.log
