use Rattle.std.proofs.Common.{drop}
use Rattle.fc_plan.specs.Modules.{modules_of}
use Rattle.fc_plan.specs.Numbering.{at}
use Rattle.fc_plan.proofs.Numbered.{IsNumbering}
use Rattle.fc_plan.proofs.numbers.numbers_of.Given as goal

abbrev pub invariant-loop-number : goal.invariant-loop-number
invariant-loop-number l = IsNumbering (at l.numbers) l.number (modules_of l.modules) (modules_of (drop l.number l.modules))
