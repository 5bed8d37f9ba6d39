use Rattle.std.proofs.Common.{refl}
use Rattle.fc_lint_context.specs.ContextViews.{context_at}
use Rattle.fc_lint_context.specs.JoinViews.{shown_joins_at}
use Rattle.fc_lint_context.proofs.context.Context.without_joins.Goals as goal

pub returns-clause-view : goal.returns-clause-view
unfolding context_at shown_joins_at
returns-clause-view c = λ ns. refl
