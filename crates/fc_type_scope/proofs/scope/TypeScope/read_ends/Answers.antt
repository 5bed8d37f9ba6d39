use Rattle.fc_type_table.specs.TypeTables.{nodes_of}
use Rattle.fc_type_scope.proofs.ScopeKinds.{scope_grows}
use Rattle.fc_type_scope.proofs.scope.TypeScope.read_ends.Goals as goal

pub read-requires-2 : goal.read-requires-2
read-requires-2 c = scope_grows (nodes_of c.args.types.now) (nodes_of c.read.new.types) c.args.self.now.kinds.now c.in_ok-left.ensures.grows.nodes c.requires
