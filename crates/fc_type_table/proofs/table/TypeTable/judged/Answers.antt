use Rattle.fc_types.specs.ModuleViews.{modules_of}
use Rattle.fc_type_table.proofs.Tables.{read_judged}
use Rattle.fc_type_table.proofs.table.TypeTable.judged.Goals as goal

pub returns : goal.returns
returns c = read_judged (modules_of c.args.self.now.declared.now) c.args.self.now.nodes.keys c.args.self.now.table c.args.id.0 c.index.result.now c.requires c.index.ensures
