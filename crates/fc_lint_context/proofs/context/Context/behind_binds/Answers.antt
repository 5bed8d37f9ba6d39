use Rattle.fc_type_scope.specs.Scopes.{scope_in}
use Rattle.fc_lint_context.proofs.Contexts.{parts_behind_binds}
use Rattle.fc_lint_context.specs.CoercionViews.{proven_of}
use Rattle.fc_lint_context.specs.ContextViews.{context_at}
use Rattle.fc_lint_context.specs.JoinViews.{points_of}
use Rattle.fc_lint_context.specs.LocalViews.{numbers_of}
use Rattle.fc_lint_context.proofs.context.Context.behind_binds.Goals as goal

pub returns-clause-view : goal.returns-clause-view
unfolding context_at
returns-clause-view c = λ ns bs e. let x = c.args.self.now in parts_behind_binds ns (scope_in x.scope) (proven_of x.coercions) (numbers_of x.locals) (points_of x.joins) c.args.ids.now bs e
