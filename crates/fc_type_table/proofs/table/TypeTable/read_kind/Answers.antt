use Rattle.fc_syntax.specs.View.{kind_of}
use Rattle.fc_type_table.proofs.KindNumbers.{kind_read, kind_read_view}
use Rattle.fc_type_table.proofs.table.TypeTable.read_kind.Goals as goal

pub returns-clause-valid : goal.returns-clause-valid
returns-clause-valid c = kind_read c.put_kind.result c.put_kind.new.self.nodes.keys (kind_of c.args.kind.now) c.put_kind.ensures.within c.put_kind.ensures.shown

pub returns-clause-view : goal.returns-clause-view
returns-clause-view c = kind_read_view c.put_kind.result c.put_kind.new.self.nodes.keys (kind_of c.args.kind.now) c.put_kind.ensures.shown
