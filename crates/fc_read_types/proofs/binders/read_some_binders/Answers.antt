use Rattle.std.proofs.Common.{refl}
use Rattle.fc_syntax.specs.View.{binder_of}
use Rattle.fc_model.specs.Grammar.{ABinder}
use Rattle.fc_read_parts.proofs.Stars.{several_start, star_more}
use Rattle.fc_read_types.proofs.binders.read_some_binders.Goals as goal

pub each-init : goal.each-init
each-init c = several_start ABinder binder_of _ _ _ _ _ c.new-all.ensures c.in_ok-read_binder.ensures.read c.in_ok-read_binder.ensures.shorter c.in_ok-push.ensures.ok

pub each-preserved : goal.each-preserved
each-preserved c =
    star_more ABinder _ binder_of _ _ _ _ _ _ _ c.each.invariant (c.if-closes.ensures.open refl) c.in_ok-read_binder-2.ensures.read c.in_ok-read_binder-2.ensures.shorter c.in_ok-push-2.ensures.ok
