use Rattle.std.proofs.Common.{drop}
use Rattle.fc_plan.specs.Numbering.{at}
use Rattle.fc_plan.proofs.Needed.{IsReading}
use Rattle.fc_plan.proofs.needs.numbers_of_imports.Given as goal

abbrev pub invariant-loop-import : goal.invariant-loop-import
invariant-loop-import l = IsReading (at l.numbers) l.imports (drop l.import-index l.imports) l.found.keys
