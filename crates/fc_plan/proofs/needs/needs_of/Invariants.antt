use Rattle.std.proofs.Common.{drop}
use Rattle.fc_plan.specs.Modules.{modules_of}
use Rattle.fc_plan.specs.Numbering.{at}
use Rattle.fc_plan.proofs.Needed.{IsGathering}
use Rattle.fc_plan.proofs.needs.needs_of.Given as goal

abbrev pub invariant-loop-module : goal.invariant-loop-module
invariant-loop-module l = IsGathering (at l.numbers) (modules_of l.modules) (modules_of (drop l.module-index l.modules)) l.needs
