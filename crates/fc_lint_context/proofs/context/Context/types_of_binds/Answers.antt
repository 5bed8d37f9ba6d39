use Rattle.fc_type_scope.proofs.ScopeKinds.{scope_grows}
use Rattle.fc_type_table.specs.TypeTables.{nodes_of}
use Rattle.fc_lint_context.proofs.context.Context.types_of_binds.Goals as goal

pub add-requires-clause-scope : goal.add-requires-clause-scope
add-requires-clause-scope c = scope_grows (nodes_of c.args.types.now) (nodes_of c.loop-bind.types) c.args.self.now.scope.kinds.now c.loop-bind.invariant.grows.nodes c.requires
