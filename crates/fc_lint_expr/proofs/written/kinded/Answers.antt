use Rattle.fc_lint_context.proofs.Contexts.{context_kinds}
use Rattle.fc_lint_context.proofs.Growing.{stays_on}
use Rattle.fc_lint_expr.proofs.written.kinded.Goals as goal

pub returns-clause-says : goal.returns-clause-says
returns-clause-says c = rw (context_kinds, ← c.requires.context.modules) c.kinded.ensures.says

pub returns-clause-context : goal.returns-clause-context
returns-clause-context c = stays_on _ _ _ _ c.kinded.ensures.grows c.requires.context
