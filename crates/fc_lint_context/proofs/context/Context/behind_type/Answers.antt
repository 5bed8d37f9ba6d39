use Rattle.std.proofs.Common.{refl, ◌∙◌}
use Rattle.fc_lint_context.proofs.Contexts.{context_behind_type, scope_is, valid_behind_type}
use Rattle.fc_lint_context.proofs.context.Context.behind_type.Goals as goal

pub returns-clause-scope : goal.returns-clause-scope
returns-clause-scope c = scope_is _

pub returns-clause-valid : goal.returns-clause-valid
returns-clause-valid c = λ ns k e numbered g. valid_behind_type ns c.args.self.now _ k g (scope_is _ ∙ e) refl numbered refl refl refl

pub returns-clause-view : goal.returns-clause-view
returns-clause-view c = λ ns k e g. context_behind_type ns c.args.self.now _ k g (scope_is _ ∙ e) refl refl refl
