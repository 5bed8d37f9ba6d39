use Rattle.std.proofs.Common.{rules}
use Rattle.fc_lint_context.proofs.Faults.{fails}
use Rattle.fc_lint_context.proofs.Growing.{stays}
use Rattle.fc_coercion.proofs.coercions.reflexive.Goals as goal

pub returns-in_err-read-clause-says : goal.returns-in_err-read-clause-says
returns-in_err-read-clause-says c = rw (← c.requires.context.modules) (fails _ _ _ _ _ c.in_err-read.ensures.says (search rules))

pub returns-clause-says : goal.returns-clause-says
returns-clause-says c = rw (← c.requires.context.modules, c.in_ok-read.ensures.says, c.in_ok-read.ensures.view)

pub returns-clause-context : goal.returns-clause-context
returns-clause-context c = stays _ _ _ c.in_ok-read.ensures.grows c.requires.context
