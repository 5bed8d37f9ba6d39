use Rattle.fc_type_scope.specs.Scopes.{scope_in}
use Rattle.fc_lint_context.proofs.Declared.{no_definition}
use Rattle.fc_lint_context.proofs.context.Context.definition_type.Goals as goal

pub returns-in-None-clause-says : goal.returns-in-None-clause-says
returns-in-None-clause-says c = λ ns h. no_definition c.flaw_here.result _ c.flaw_here.ensures (c.in-None.ensures.view ns (scope_in c.args.self.now.scope) h.declared)

pub returns-in-Some-clause-valid : goal.returns-in-Some-clause-valid
returns-in-Some-clause-valid c = λ ns h. c.in-Some.ensures.valid ns (scope_in c.args.self.now.scope) h.declared
