use Rattle.fc_type_table.proofs.Shown.{opened_valid, opened_view}
use Rattle.fc_type_table.proofs.Pieces.{shown_as}
use Rattle.fc_type_table.proofs.table.TypeTable.instantiate.Goals as goal

pub returns-in_ok-answer-in-Forall-clause-valid : goal.returns-in_ok-answer-in-Forall-clause-valid
returns-in_ok-answer-in-Forall-clause-valid c =
    let e = c.in_ok-answer-in-Forall.ensures in
    opened_valid c.args.self.now.nodes.keys c.instance.new.self.nodes.keys c.args.forall.0 c.in-Forall.field-0.0 c.in-Forall.body.0 c.args.by.0 c.in_ok-answer-in-Forall.answer.0 (shown_as c.args.self.now.nodes.keys c.args.forall.0 c.in-Forall.is c.piece.ensures.shown) e.shown e.within

pub returns-in_ok-answer-in-Forall-clause-view : goal.returns-in_ok-answer-in-Forall-clause-view
returns-in_ok-answer-in-Forall-clause-view c =
    let e = c.in_ok-answer-in-Forall.ensures in
    opened_view c.args.self.now.nodes.keys c.instance.new.self.nodes.keys c.args.forall.0 c.in-Forall.field-0.0 c.in-Forall.body.0 c.args.by.0 c.in_ok-answer-in-Forall.answer.0 (shown_as c.args.self.now.nodes.keys c.args.forall.0 c.in-Forall.is c.piece.ensures.shown) e.shown
