use Rattle.fc_model.specs.Nameless.{NTVar}
use Rattle.fc_type_table.specs.InScope.{kinds_of}
use Rattle.fc_type_table.proofs.Shown.{read_valid, read_view}
use Rattle.fc_type_table.proofs.table.TypeTable.variable.Goals as goal

pub returns-clause-valid : goal.returns-clause-valid
returns-clause-valid c = read_valid c.read_variable.result c.read_variable.new.self.nodes.keys (kinds_of c.args.kinds.now) c.args.variables (NTVar c.args.distance) c.requires.count c.requires.scoped c.read_variable.ensures.within c.read_variable.ensures.shown

pub returns-clause-view : goal.returns-clause-view
returns-clause-view c = read_view c.read_variable.result c.read_variable.new.self.nodes.keys (kinds_of c.args.kinds.now) c.args.variables (NTVar c.args.distance) c.requires.count c.requires.scoped c.read_variable.ensures.shown
