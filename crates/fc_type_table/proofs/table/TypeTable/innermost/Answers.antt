use Rattle.fc_syntax.specs.View.{kind_of}
use Rattle.fc_type_table.proofs.KindNumbers.{IsKindAt-tree}
use Rattle.fc_type_table.proofs.Shown.{innermost_valid, innermost_view}
use Rattle.fc_type_table.proofs.table.TypeTable.innermost.Goals as goal

pub returns-clause-valid : goal.returns-clause-valid
returns-clause-valid c = innermost_valid c.intern.result c.put_kind.new.self.nodes.keys c.intern.new.self.nodes.keys c.in_ok-kind.kind.0 c.args.variables (kind_of c.args.kind.now) c.in_ok-kind.ensures.shown c.intern.ensures.within c.intern.ensures.shown

pub returns-clause-view : goal.returns-clause-view
returns-clause-view c = innermost_view c.intern.result c.put_kind.new.self.nodes.keys c.intern.new.self.nodes.keys c.in_ok-kind.kind.0 c.args.variables (kind_of c.args.kind.now) c.intern.ensures.shown

pub intern-requires-clause-kinds : goal.intern-requires-clause-kinds
intern-requires-clause-kinds c = (IsKindAt-tree c.put_kind.new.self.nodes.keys c.in_ok-kind.kind.0 (kind_of c.args.kind.now) c.in_ok-kind.ensures.within c.in_ok-kind.ensures.shown).is_kind
