use Rattle.std.proofs.Common.{sym, refl, arith}
use Rattle.fc_type_table.specs.Nodes.{tree_at}
use Rattle.fc_type_table.specs.Trees.{closed_over}
use Rattle.fc_type_table.proofs.Walked.{Closed-after, Extends-after, closed_over-measured, coforall_walked}
use Rattle.fc_type_table.proofs.Pieces.{parts_as, shown_as}
use Rattle.fc_type_table.proofs.table.TypeTable.+close.Goals as goal

pub close_seen-returns-then-measure-level-clause-shown : goal.close_seen-returns-then-measure-level-clause-shown
close_seen-returns-then-measure-level-clause-shown t c =
    closed_over-measured c.args.level c.args.depth (tree_at c.args.self.now.nodes.keys c.args.part.0) c.measure-measure.result c.measure-measure.ensures c.if-measure-level.true

pub close_seen-returns-in-Some-clause-shown : goal.close_seen-returns-in-Some-clause-shown
close_seen-returns-in-Some-clause-shown t c =
    c.requires.seen.right (record { depth = c.args.depth; part = c.args.part }) c.in-Some.answer.now (sym c.in-Some.ensures.value)

pub close_part-returns-in_ok-argument-in-App-clause-seen : goal.close_part-returns-in_ok-argument-in-App-clause-seen
close_part-returns-in_ok-argument-in-App-clause-seen t c = Closed-after c.intern-in-App.result c.close_seen-in-App.new.self.nodes.keys c.intern-in-App.new.self.nodes.keys c.args.level c.close_seen-in-App.new.done c.intern-in-App.ensures.extends c.in_ok-argument-in-App.ensures.seen

pub close_part-returns-in_ok-to-in-Fun-clause-seen : goal.close_part-returns-in_ok-to-in-Fun-clause-seen
close_part-returns-in_ok-to-in-Fun-clause-seen t c = Closed-after c.intern-in-Fun.result c.close_seen-in-Fun-2.new.self.nodes.keys c.intern-in-Fun.new.self.nodes.keys c.args.level c.close_seen-in-Fun-2.new.done c.intern-in-Fun.ensures.extends c.in_ok-to-in-Fun.ensures.seen

pub close_part-returns-in_ok-body-in-Forall-clause-seen : goal.close_part-returns-in_ok-body-in-Forall-clause-seen
close_part-returns-in_ok-body-in-Forall-clause-seen t c = Closed-after c.intern-in-Forall.result c.close_seen-in-Forall.new.self.nodes.keys c.intern-in-Forall.new.self.nodes.keys c.args.level c.close_seen-in-Forall.new.done c.intern-in-Forall.ensures.extends c.in_ok-body-in-Forall.ensures.seen

pub close_part-returns-in_ok-body-in-CoForall-clause-seen : goal.close_part-returns-in_ok-body-in-CoForall-clause-seen
close_part-returns-in_ok-body-in-CoForall-clause-seen t c = Closed-after c.intern-in-CoForall.result c.close_seen-in-CoForall-3.new.self.nodes.keys c.intern-in-CoForall.new.self.nodes.keys c.args.level c.close_seen-in-CoForall-3.new.done c.intern-in-CoForall.ensures.extends c.in_ok-body-in-CoForall.ensures.seen

pub close_part-returns-in_ok-body-in-CoForall-clause-extends : goal.close_part-returns-in_ok-body-in-CoForall-clause-extends
close_part-returns-in_ok-body-in-CoForall-clause-extends t c = Extends-after c.intern-in-CoForall.result c.args.self.now.nodes.keys c.close_seen-in-CoForall.new.self.nodes.keys c.close_seen-in-CoForall-2.new.self.nodes.keys c.close_seen-in-CoForall-3.new.self.nodes.keys c.intern-in-CoForall.new.self.nodes.keys c.in_ok-left-in-CoForall.ensures.extends c.in_ok-right-in-CoForall.ensures.extends c.in_ok-body-in-CoForall.ensures.extends c.intern-in-CoForall.ensures.extends

pub close_part-returns-in_ok-body-in-CoForall-clause-shown : goal.close_part-returns-in_ok-body-in-CoForall-clause-shown
unfolding closed_over
close_part-returns-in_ok-body-in-CoForall-clause-shown t c =
    let parts = parts_as c.args.part.0 c.in-CoForall.is c.piece.ensures.parts in
    coforall_walked c.intern-in-CoForall.result (λ k. closed_over c.args.level c.args.depth) c.args.self.now.nodes.keys c.close_seen-in-CoForall.new.self.nodes.keys c.close_seen-in-CoForall-2.new.self.nodes.keys c.close_seen-in-CoForall-3.new.self.nodes.keys c.intern-in-CoForall.new.self.nodes.keys c.in-CoForall.role c.args.part.0 c.in-CoForall.left.0 c.in-CoForall.right.0 c.in-CoForall.body.0 c.in_ok-left-in-CoForall.left.0 c.in_ok-right-in-CoForall.right.0 c.in_ok-body-in-CoForall.body.0
    (λ x y z. refl) refl refl (shown_as c.args.self.now.nodes.keys c.args.part.0 c.in-CoForall.is c.piece.ensures.shown) (omega (arith, parts)) (omega (arith, parts)) c.in_ok-left-in-CoForall.ensures.extends c.in_ok-right-in-CoForall.ensures.extends c.in_ok-body-in-CoForall.ensures.extends c.in_ok-left-in-CoForall.ensures.within c.in_ok-right-in-CoForall.ensures.within
    c.in_ok-left-in-CoForall.ensures.shown c.in_ok-right-in-CoForall.ensures.shown c.in_ok-body-in-CoForall.ensures.shown c.intern-in-CoForall.ensures.shown
