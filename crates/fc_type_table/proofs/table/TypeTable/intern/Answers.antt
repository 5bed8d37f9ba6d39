use Rattle.std.proofs.Common.{sym, subst}
use Rattle.fc_type_table.specs.Nodes.{HasKinds}
use Rattle.fc_type_table.proofs.Interned.{interned_shown, interned_extends}
use Rattle.fc_type_table.proofs.Tables.{piece_over-extends}
use Rattle.fc_type_table.proofs.table.TypeTable.intern.Goals as goal

pub put-requires-clause-kinds : goal.put-requires-clause-kinds
put-requires-clause-kinds c =
    subst HasKinds (sym (piece_over-extends c.args.self.now.nodes.keys c.judge.new.self.nodes.keys c.in_ok-judged.ensures.extends c.args.piece c.requires.parts)) c.requires.kinds

pub returns-clause-shown : goal.returns-clause-shown
returns-clause-shown c =
    interned_shown c.put.result c.args.self.now.nodes.keys c.judge.new.self.nodes.keys c.put.new.self.nodes.keys c.args.piece c.in_ok-judged.ensures.extends c.requires.parts c.put.ensures.shown

pub returns-clause-extends : goal.returns-clause-extends
returns-clause-extends c = interned_extends c.put.result c.args.self.now.nodes.keys c.judge.new.self.nodes.keys c.put.new.self.nodes.keys c.in_ok-judged.ensures.extends c.put.ensures.extends
