use Rattle.fc_types.specs.ModuleViews.{modules_of}
use Rattle.fc_type_table.proofs.KindNumbers.{judged_bound, judged_free}
use Rattle.fc_type_table.proofs.table.TypeTable.judge.Goals as goal

pub returns-in-Bound-clause-judged : goal.returns-in-Bound-clause-judged
returns-in-Bound-clause-judged c =
    judged_bound (modules_of c.args.self.now.declared.now) c.args.self.now.nodes.keys c.args.piece.now c.in-Bound.field-0 c.in-Bound.kind c.whole.result c.in-Bound.is c.whole.ensures c.requires.parts c.requires.kinds

pub returns-in-Free-clause-judged : goal.returns-in-Free-clause-judged
returns-in-Free-clause-judged c =
    judged_free (modules_of c.args.self.now.declared.now) c.args.self.now.nodes.keys c.args.piece.now c.in-Free.field-0 c.in-Free.kind c.whole-in-Free.result c.in-Free.is c.whole-in-Free.ensures c.requires.parts c.requires.kinds
