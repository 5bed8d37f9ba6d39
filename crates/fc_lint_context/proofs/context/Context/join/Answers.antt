use Rattle.std.proofs.Common.{ap, ◌∙◌}
use Rattle.std.specs.Option.{option_map}
use Rattle.fc_type_scope.specs.Scopes.{scope_in}
use Rattle.fc_lint_context.proofs.Reached.{join_shown, join_valid}
use Rattle.fc_lint_context.specs.ContextViews.{context_at}
use Rattle.fc_lint_context.specs.JoinViews.{points_of, shown_join}
use Rattle.fc_lint_context.specs.declared.joins.JoinPoint.{JoinPoint}
use Rattle.fc_lint_context.proofs.context.Context.join.Goals as goal

pub returns-clause-valid : goal.returns-clause-valid
returns-clause-valid c = λ ns h. let x = c.args.self.now in join_valid c.join_at.result ns (scope_in x.scope) (points_of x.joins) c.args.distance c.join_at.ensures h.joins

pub returns-clause-view : goal.returns-clause-view
unfolding context_at
returns-clause-view c = λ ns. let x = c.args.self.now in ap (option_map (λ (j : JoinPoint). shown_join ns (scope_in x.scope) j)) c.join_at.ensures ∙ join_shown ns (scope_in x.scope) (points_of x.joins) c.args.distance
