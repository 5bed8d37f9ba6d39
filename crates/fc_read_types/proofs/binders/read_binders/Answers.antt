use Rattle.std.proofs.Common.{ap, refl}
use Rattle.fc_syntax.specs.View.{binder_of, binders_of}
use Rattle.fc_model.specs.Grammar.{ABinder}
use Rattle.fc_read_parts.proofs.Stars.{many_start, star_more}
use Rattle.fc_read_types.proofs.binders.read_binders.Goals as goal

pub each-init : goal.each-init
each-init c = many_start ABinder _ _ (ap binders_of c.new-all.ensures)

pub each-preserved : goal.each-preserved
each-preserved c =
    star_more ABinder _ binder_of _ _ _ _ _ _ _ c.each.invariant (c.if-closes.ensures.open refl) c.in_ok-read_binder.ensures.read c.in_ok-read_binder.ensures.shorter c.in_ok-push.ensures.ok
