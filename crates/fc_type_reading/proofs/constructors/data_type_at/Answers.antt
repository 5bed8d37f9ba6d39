use Rattle.fc_type_scope.proofs.ScopeKinds.{scope_grows}
use Rattle.fc_type_table.specs.TypeTables.{nodes_of}
use Rattle.fc_type_reading.proofs.constructors.data_type_at.Goals as goal

pub applied_to-requires-clause-scope : goal.applied_to-requires-clause-scope
applied_to-requires-clause-scope c = scope_grows (nodes_of c.args.types.now) (nodes_of c.constructor.new.types) c.args.scope.now.kinds.now c.in_ok-head.ensures.grows.nodes c.requires
