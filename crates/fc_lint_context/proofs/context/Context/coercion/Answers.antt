use Rattle.fc_type_scope.proofs.Proven.{coercion_says, coercion_valid}
use Rattle.fc_type_scope.specs.Scopes.{scope_in}
use Rattle.fc_lint_context.specs.CoercionViews.{proven_of}
use Rattle.fc_lint_context.specs.ContextViews.{context_at}
use Rattle.fc_lint_context.proofs.context.Context.coercion.Goals as goal

pub returns-clause-valid : goal.returns-clause-valid
returns-clause-valid c = λ ns h. let x = c.args.self.now in coercion_valid c.ends_at.result ns (scope_in x.scope) (proven_of x.coercions) c.args.distance c.ends_at.ensures h.coercions

pub returns-clause-says : goal.returns-clause-says
unfolding context_at
returns-clause-says c = λ ns. let x = c.args.self.now in coercion_says c.ends_at.result ns (scope_in x.scope) (proven_of x.coercions) c.args.distance c.ends_at.ensures
