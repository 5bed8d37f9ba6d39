use Rattle.fc_type_scope.proofs.ScopeKinds.{scope_grows}
use Rattle.fc_type_table.specs.TypeTables.{nodes_of}
use Rattle.fc_lint_context.proofs.constructors.applied_to_params.Goals as goal

pub applied_to_variable-requires-clause-scope : goal.applied_to_variable-requires-clause-scope
applied_to_variable-requires-clause-scope c = scope_grows (nodes_of c.args.types.now) (nodes_of c.loop-left.types) c.args.scope.now.kinds.now c.loop-left.invariant.grows.nodes c.requires.scope
