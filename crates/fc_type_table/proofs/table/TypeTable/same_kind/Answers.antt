use Rattle.std.proofs.Common.{◌∙◌}
use Rattle.fc_types.specs.ModuleViews.{modules_of}
use Rattle.fc_type_table.proofs.KindNumbers.{same_kinds}
use Rattle.fc_type_table.proofs.table.TypeTable.same_kind.Goals as goal

pub returns : goal.returns
returns c = λ p q. c.eq.ensures ∙ same_kinds (modules_of c.args.self.now.declared.now) c.args.self.now.nodes.keys c.args.self.now.table c.args.left.0 c.args.right.0 p q
