use Rattle.fc_type_scope.proofs.ScopeKinds.{scope_grows}
use Rattle.fc_type_table.specs.TypeTables.{nodes_of}
use Rattle.fc_lint_declarations.proofs.written.kind_of_part.Goals as goal

pub returns-in-Ok-clause-scope : goal.returns-in-Ok-clause-scope
returns-in-Ok-clause-scope c = scope_grows (nodes_of c.args.types.now) (nodes_of c.kinded_part.new.types) c.args.scope.now.kinds.now c.in-Ok.ensures.grows.nodes c.requires.scope
