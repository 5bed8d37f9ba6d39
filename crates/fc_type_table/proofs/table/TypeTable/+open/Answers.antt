use Rattle.std.proofs.Common.{◌∙◌, sym, refl, ap, arith}
use Rattle.fc_type_table.specs.Nodes.{tree_at}
use Rattle.fc_type_table.specs.Trees.{opened}
use Rattle.fc_type_table.proofs.Walked.{Extends-after, Opened-after, coforall_walked, opened-measured}
use Rattle.fc_type_table.proofs.Pieces.{parts_as, shown_as}
use Rattle.fc_type_table.proofs.table.TypeTable.+open.Goals as goal

pub open_seen-returns-then-measure-depth-clause-shown : goal.open_seen-returns-then-measure-depth-clause-shown
open_seen-returns-then-measure-depth-clause-shown t c =
    opened-measured c.args.depth (tree_at c.args.self.now.nodes.keys c.args.by.0) (tree_at c.args.self.now.nodes.keys c.args.part.0) c.measure-measure.result c.measure-measure.ensures c.if-measure-depth.true

pub open_seen-returns-in-Some-clause-shown : goal.open_seen-returns-in-Some-clause-shown
open_seen-returns-in-Some-clause-shown t c =
    c.requires.seen.right (record { depth = c.args.depth; part = c.args.part }) c.in-Some.answer.now (sym c.in-Some.ensures.value)

pub open_part-returns-in_ok-argument-in-App-clause-seen : goal.open_part-returns-in_ok-argument-in-App-clause-seen
open_part-returns-in_ok-argument-in-App-clause-seen t c =
    let e0 = c.in_ok-head-in-App.ensures.extends in
    let e1 = c.in_ok-argument-in-App.ensures.extends in
    Opened-after c.intern.result c.open_seen-in-App.new.self.nodes.keys c.intern.new.self.nodes.keys c.args.by.0 c.open_seen-in-App.new.done c.intern.ensures.extends (omega (arith, e0.longer, e1.longer)) c.in_ok-argument-in-App.ensures.seen

pub open_part-returns-in_ok-to-in-Fun-clause-seen : goal.open_part-returns-in_ok-to-in-Fun-clause-seen
open_part-returns-in_ok-to-in-Fun-clause-seen t c =
    let e0 = c.in_ok-from-in-Fun.ensures.extends in
    let e1 = c.in_ok-to-in-Fun.ensures.extends in
    Opened-after c.intern-in-Fun.result c.open_seen-in-Fun-2.new.self.nodes.keys c.intern-in-Fun.new.self.nodes.keys c.args.by.0 c.open_seen-in-Fun-2.new.done c.intern-in-Fun.ensures.extends (omega (arith, e0.longer, e1.longer)) c.in_ok-to-in-Fun.ensures.seen

pub open_part-returns-in_ok-body-in-Forall-clause-seen : goal.open_part-returns-in_ok-body-in-Forall-clause-seen
open_part-returns-in_ok-body-in-Forall-clause-seen t c =
    let e0 = c.in_ok-body-in-Forall.ensures.extends in
    Opened-after c.intern-in-Forall.result c.open_seen-in-Forall.new.self.nodes.keys c.intern-in-Forall.new.self.nodes.keys c.args.by.0 c.open_seen-in-Forall.new.done c.intern-in-Forall.ensures.extends (omega (arith, e0.longer)) c.in_ok-body-in-Forall.ensures.seen

pub open_part-returns-in_ok-body-in-CoForall-clause-seen : goal.open_part-returns-in_ok-body-in-CoForall-clause-seen
open_part-returns-in_ok-body-in-CoForall-clause-seen t c =
    let e0 = c.in_ok-left-in-CoForall.ensures.extends in
    let e1 = c.in_ok-right-in-CoForall.ensures.extends in
    let e2 = c.in_ok-body-in-CoForall.ensures.extends in
    Opened-after c.intern-in-CoForall.result c.open_seen-in-CoForall-3.new.self.nodes.keys c.intern-in-CoForall.new.self.nodes.keys c.args.by.0 c.open_seen-in-CoForall-3.new.done c.intern-in-CoForall.ensures.extends (omega (arith, e0.longer, e1.longer, e2.longer)) c.in_ok-body-in-CoForall.ensures.seen

pub open_part-returns-in_ok-body-in-CoForall-clause-extends : goal.open_part-returns-in_ok-body-in-CoForall-clause-extends
open_part-returns-in_ok-body-in-CoForall-clause-extends t c = Extends-after c.intern-in-CoForall.result c.args.self.now.nodes.keys c.open_seen-in-CoForall.new.self.nodes.keys c.open_seen-in-CoForall-2.new.self.nodes.keys c.open_seen-in-CoForall-3.new.self.nodes.keys c.intern-in-CoForall.new.self.nodes.keys c.in_ok-left-in-CoForall.ensures.extends c.in_ok-right-in-CoForall.ensures.extends c.in_ok-body-in-CoForall.ensures.extends c.intern-in-CoForall.ensures.extends

pub open_part-returns-in_ok-body-in-CoForall-clause-shown : goal.open_part-returns-in_ok-body-in-CoForall-clause-shown
unfolding opened
open_part-returns-in_ok-body-in-CoForall-clause-shown t c =
    let parts = parts_as c.args.part.0 c.in-CoForall.is c.piece.ensures.parts in
    coforall_walked c.intern-in-CoForall.result (λ k. opened c.args.depth (tree_at k c.args.by.0)) c.args.self.now.nodes.keys c.open_seen-in-CoForall.new.self.nodes.keys c.open_seen-in-CoForall-2.new.self.nodes.keys c.open_seen-in-CoForall-3.new.self.nodes.keys c.intern-in-CoForall.new.self.nodes.keys c.in-CoForall.role c.args.part.0 c.in-CoForall.left.0 c.in-CoForall.right.0 c.in-CoForall.body.0 c.in_ok-left-in-CoForall.left.0 c.in_ok-right-in-CoForall.right.0 c.in_ok-body-in-CoForall.body.0
    (λ x y z. refl) (ap (opened c.args.depth) (c.in_ok-left-in-CoForall.ensures.extends.stays c.args.by.0 c.requires.by_in)) (let e = c.in_ok-left-in-CoForall.ensures.extends in ap (opened c.args.depth) (c.in_ok-right-in-CoForall.ensures.extends.stays c.args.by.0 (omega (arith, e.longer)) ∙ e.stays c.args.by.0 c.requires.by_in)) (shown_as c.args.self.now.nodes.keys c.args.part.0 c.in-CoForall.is c.piece.ensures.shown) (omega (arith, parts)) (omega (arith, parts)) c.in_ok-left-in-CoForall.ensures.extends c.in_ok-right-in-CoForall.ensures.extends c.in_ok-body-in-CoForall.ensures.extends c.in_ok-left-in-CoForall.ensures.within c.in_ok-right-in-CoForall.ensures.within
    c.in_ok-left-in-CoForall.ensures.shown c.in_ok-right-in-CoForall.ensures.shown c.in_ok-body-in-CoForall.ensures.shown c.intern-in-CoForall.ensures.shown
