use Rattle.std.proofs.Common.{ℕ, Result, arith}
use Rattle.fc_syntax.specs.Tree.{Kind}
use Rattle.fc_model.specs.Faulting.{F, under}
use Rattle.fc_type_table.specs.Nodes.{tree_at}
use Rattle.fc_type_table.specs.TreeFaults.{kind_or_fault_in}
use Rattle.fc_type_table.specs.TypeTables.{kind_shown, modules_in}
use Rattle.fc_type_table.proofs.KindsShown.{behind_none}
use Rattle.fc_type_table.proofs.table.TypeTable.+faults.Goals as goal

pub coforall_fault-body_fault-requires : goal.coforall_fault-body_fault-requires
coforall_fault-body_fault-requires t c =
    let kind : ℕ → Result Kind F = λ i. kind_or_fault_in (modules_in c.args.self.now) 0 (tree_at c.args.self.now.nodes.keys i) in
    let left = c.in-Ok.left in
    let right = c.in-Ok-part_kind.right in
    let none =
    behind_none (under 0 (kind c.args.ends.0.0)) (under 1 (kind c.args.ends.1.0)) (kind c.args.body.0)
    (kind_shown c.args.self.now left) (kind_shown c.args.self.now right) c.in-Ok.ensures.says c.in-Ok-part_kind.ensures.says c.requires.none in
    (omega arith, (c.in-Ok.ensures.is_kind, (c.in-Ok-part_kind.ensures.is_kind, (c.requires.body_in, none))))
