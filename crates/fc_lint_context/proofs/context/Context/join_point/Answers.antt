use Rattle.fc_type_scope.specs.Scopes.{scope_in}
use Rattle.fc_lint_context.proofs.Joined.{join_made}
use Rattle.fc_type_scope.proofs.ScopeKinds.{scope_grows}
use Rattle.fc_type_table.specs.TypeTables.{nodes_of}
use Rattle.fc_lint_context.proofs.context.Context.join_point.Goals as goal

pub function_to-requires-clause-scope : goal.function_to-requires-clause-scope
function_to-requires-clause-scope c = scope_grows (nodes_of c.args.types.now) (nodes_of c.enter.new.types) c.args.self.now.scope.kinds.now c.in_ok-entered.ensures.grows.nodes c.requires.scope

pub returns-clause-view : goal.returns-clause-view
returns-clause-view c =
    join_made c.args.types.now c.enter.new.types c.function_to.new.types (scope_in c.args.self.now.scope) c.args.params.now c.in_ok-ty.ty c.args.answer c.in_ok-entered.ensures.grows c.in_ok-ty.ensures.grows c.requires.answer_in c.in_ok-ty.ensures.view
