use Rattle.std.proofs.Common.{◌∙◌, refl}
use Rattle.fc_lint_context.proofs.Contexts.{closed_view, scope_is}
use Rattle.fc_lint_context.proofs.context.Context.closed.Goals as goal

pub returns-clause-scope : goal.returns-clause-scope
returns-clause-scope c = scope_is _ ∙ c.requires.kinds

pub returns-clause-view : goal.returns-clause-view
returns-clause-view c = λ ns. closed_view ns _ (scope_is _ ∙ c.requires.kinds) refl refl refl
