use Rattle.std.proofs.Common.{[], ◌++◌, reverse}
use Rattle.fc_type_table.proofs.KindsInScope.{AreNumbered-behind, AreNumbered-grows, AreNumbered-none}
use Rattle.fc_type_table.specs.TypeTables.{nodes_of}
use Rattle.fc_lint_context.proofs.axioms.closed_newtype.Goals as goal

pub applied_to_params-requires-clause-scope : goal.applied_to_params-requires-clause-scope
applied_to_params-requires-clause-scope c =
    let ks = c.args.kinds.now in
    let old = nodes_of c.args.types.now in
    AreNumbered-grows old (nodes_of c.constructor.new.types) (reverse ks ++ []) c.in_ok-head.ensures.grows.nodes (AreNumbered-behind old ks [] c.requires (AreNumbered-none old))
