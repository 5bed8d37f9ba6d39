use Rattle.std.proofs.Common.{rules, arith, ap, sym, subst}
use Rattle.fc_syntax.specs.View.{binder_of}
use Rattle.fc_model.specs.DeclaredWords.{top_by}
use Rattle.fc_model.specs.Resolution.{Locals}
use Rattle.fc_scope.specs.ScopeWords.{locals_of, with_binders}
use Rattle.fc_naming.specs.Named.{TakesWord}
use Rattle.fc_naming.specs.Taken.{words_around}
use Rattle.fc_naming.proofs.Groups.{take_start, take_step}
use Rattle.fc_naming.proofs.binders.new_binders.Goals as goal

pub loop-binder-init : goal.loop-binder-init
loop-binder-init c =
    let t = top_by c.args.top.now in
    let s = locals_of c.args.scope.now in
    take_start t s (with_binders c.new-words.result s) (words_around t) c.args.binders.now c.new-out.result c.new-out.ensures (ap (λ w. with_binders w s) c.new-words.ensures)

pub loop-binder-preserved : goal.loop-binder-preserved
loop-binder-preserved c =
    let t = top_by c.args.top.now in
    let s = locals_of c.args.scope.now in
    let b = c.in-Some.next in
    let before = with_binders c.loop-binder.words s in
    let then = with_binders c.add_binder.new.words s in
    let one : TakesWord t before (words_around t before) (binder_of c.binder-item.result) (binder_of b) then (words_around t then) =
    subst (λ (z : Locals). TakesWord t before (words_around t before) (binder_of c.binder-item.result) (binder_of b) z (words_around t z)) (sym (c.in_ok-add_binder.ensures s)) (rw c.in-Some.is at c.in_ok-next.ensures) in
    take_step t s before then (words_around t s) (words_around t before) (words_around t then) c.args.binders.now c.loop-binder.binder-index c.binder-item.result c.loop-binder.out c.push.new.self b (omega arith)
    c.binder-item.is c.loop-binder.invariant one (search rules)
