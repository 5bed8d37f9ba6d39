use Rattle.fc_type_scope.proofs.Numbers.{local_says, local_valid}
use Rattle.fc_type_scope.specs.Scopes.{scope_in}
use Rattle.fc_lint_context.specs.ContextViews.{context_at}
use Rattle.fc_lint_context.specs.LocalViews.{numbers_of}
use Rattle.fc_lint_context.proofs.context.Context.local.Goals as goal

pub returns-clause-valid : goal.returns-clause-valid
returns-clause-valid c = λ ns h. let x = c.args.self.now in local_valid c.local_type.result ns (scope_in x.scope) (numbers_of x.locals) c.args.distance c.local_type.ensures h.locals

pub returns-clause-says : goal.returns-clause-says
unfolding context_at
returns-clause-says c = λ ns. let x = c.args.self.now in local_says c.local_type.result ns (scope_in x.scope) (numbers_of x.locals) c.args.distance c.local_type.ensures
