use Rattle.fc_type_table.specs.InScope.{kinds_of}
use Rattle.fc_type_table.proofs.Labels.{label_is_kind}
use Rattle.fc_type_table.proofs.table.TypeTable.read_variable.Goals as goal

pub intern-requires-clause-kinds : goal.intern-requires-clause-kinds
intern-requires-clause-kinds c = label_is_kind c.read_label.new.self.nodes.keys c.in_ok-kind.kind.0 (kinds_of c.args.kinds.now) c.args.index c.in_ok-kind.ensures.shown

pub intern-requires-2-clause-kinds : goal.intern-requires-2-clause-kinds
intern-requires-2-clause-kinds c = label_is_kind c.read_label.new.self.nodes.keys c.in_ok-kind.kind.0 (kinds_of c.args.kinds.now) c.args.index c.in_ok-kind.ensures.shown
