use Rattle.fc_types.specs.ModuleViews.{modules_of}
use Rattle.fc_type_table.proofs.Tables.{read_kinds, read_parts, read_shown}
use Rattle.fc_type_table.proofs.table.TypeTable.piece.Goals as goal

pub returns-clause-shown : goal.returns-clause-shown
returns-clause-shown c = read_shown (modules_of c.args.self.now.declared.now) c.args.self.now.nodes.keys c.args.self.now.table c.args.id.0 c.index.result.now c.requires c.index.ensures

pub returns-clause-parts : goal.returns-clause-parts
returns-clause-parts c = read_parts (modules_of c.args.self.now.declared.now) c.args.self.now.nodes.keys c.args.self.now.table c.args.id.0 c.index.result.now c.requires c.index.ensures

pub returns-clause-kinds : goal.returns-clause-kinds
returns-clause-kinds c = read_kinds (modules_of c.args.self.now.declared.now) c.args.self.now.nodes.keys c.args.self.now.table c.args.id.0 c.index.result.now c.requires c.index.ensures
