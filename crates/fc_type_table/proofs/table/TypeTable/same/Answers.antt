use Rattle.std.proofs.Common.{◌∙◌}
use Rattle.fc_types.specs.ModuleViews.{modules_of}
use Rattle.fc_type_table.proofs.Numbers.{same_types}
use Rattle.fc_type_table.proofs.table.TypeTable.same.Goals as goal

pub returns : goal.returns
returns c = λ ks t u. c.eq.ensures ∙ same_types (modules_of c.args.self.now.declared.now) c.args.self.now.nodes.keys c.args.self.now.table ks c.args.left.0 c.args.right.0 t u
