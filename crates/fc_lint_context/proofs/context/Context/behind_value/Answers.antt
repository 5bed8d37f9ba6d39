use Rattle.std.proofs.Common.{refl}
use Rattle.fc_lint_context.specs.ContextViews.{context_at}
use Rattle.fc_type_scope.specs.Scopes.{shown_all_at}
use Rattle.fc_lint_context.proofs.context.Context.behind_value.Goals as goal

pub returns-clause-view : goal.returns-clause-view
unfolding context_at shown_all_at
returns-clause-view c = λ ns. refl
