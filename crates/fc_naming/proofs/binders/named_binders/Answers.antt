use Rattle.std.proofs.Common.{rules, arith, ap, sym, subst}
use Rattle.fc_syntax.specs.View.{binder_of}
use Rattle.fc_model.specs.DeclaredWords.{top_by, words_by_space}
use Rattle.fc_model.specs.Resolution.{Locals}
use Rattle.fc_scope.specs.ScopeWords.{locals_of, with_binders}
use Rattle.fc_naming.specs.Named.{TakesWord}
use Rattle.fc_naming.proofs.Groups.{take_start, take_step}
use Rattle.fc_naming.proofs.binders.named_binders.Goals as goal

pub loop-binder-init : goal.loop-binder-init
loop-binder-init c =
    let t = top_by c.args.top.now in
    let s = locals_of c.args.scope.now in
    take_start t s (with_binders c.new-words.result s) (λ z. words_by_space c.args.taken.now) c.args.binders.now c.new-out.result c.new-out.ensures (ap (λ w. with_binders w s) c.new-words.ensures)

pub loop-binder-preserved : goal.loop-binder-preserved
loop-binder-preserved c =
    let t = top_by c.args.top.now in
    let s = locals_of c.args.scope.now in
    let b = c.in_ok-next.next in
    let before = with_binders c.loop-binder.words s in
    let then = with_binders c.add_binder.new.words s in
    let taken = words_by_space c.loop-binder.taken in
    let more = words_by_space c.named_binder.new.taken in
    let one : TakesWord t before taken (binder_of c.binder-item.result) (binder_of b) then more =
    subst (λ (z : Locals). TakesWord t before taken (binder_of c.binder-item.result) (binder_of b) z more) (sym (c.in_ok-add_binder.ensures s)) c.in_ok-next.ensures in
    take_step t s before then (words_by_space c.args.taken.now) taken more c.args.binders.now c.loop-binder.binder-index c.binder-item.result c.loop-binder.out c.push.new.self b (omega arith)
    c.binder-item.is c.loop-binder.invariant one (search rules)
