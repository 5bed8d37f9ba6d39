use Rattle.fc_model.specs.NamelessView.{nty_of}
use Rattle.fc_type_table.specs.InScope.{kinds_of}
use Rattle.fc_type_table.proofs.Shown.{read_valid, read_view}
use Rattle.fc_type_table.proofs.table.TypeTable.read.Goals as goal

pub returns-clause-valid : goal.returns-clause-valid
returns-clause-valid c = read_valid c.read_part.result c.read_part.new.self.nodes.keys (kinds_of c.args.kinds.now) c.args.variables (nty_of c.args.t.now) c.requires.count c.requires.scoped c.read_part.ensures.within c.read_part.ensures.shown

pub returns-clause-view : goal.returns-clause-view
returns-clause-view c = read_view c.read_part.result c.read_part.new.self.nodes.keys (kinds_of c.args.kinds.now) c.args.variables (nty_of c.args.t.now) c.requires.count c.requires.scoped c.read_part.ensures.shown
