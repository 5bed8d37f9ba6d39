use Rattle.std.proofs.Common.{subst, sym}
use Rattle.fc_type_table.proofs.KindsInScope.{AreNumbered-grows}
use Rattle.fc_type_table.specs.InScope.{AreNumbered}
use Rattle.fc_type_table.specs.TypeTables.{nodes_of}
use Rattle.fc_lint_context.proofs.axioms.equation_sides.Goals as goal

pub closed_over-requires-2 : goal.closed_over-requires-2
closed_over-requires-2 c =
    let new = nodes_of c.closed_over.new.types in
    subst (AreNumbered new) (sym c.as_slice-2.ensures) (AreNumbered-grows (nodes_of c.plain_kinds.new.types) new c.in_ok-kinds.kinds c.in_ok-left.ensures.grows.nodes c.in_ok-kinds.ensures.numbered)
