use Rattle.std.proofs.Common.{arith}
use Rattle.fc_used_words.proofs.Collecting.{adds_binders, in_binders_step}
use Rattle.fc_used_words.proofs.used_expressions.use_binders.Goals as goal

pub loop-binder-preserved : goal.loop-binder-preserved
loop-binder-preserved c = record {
  below = in_binders_step c.args.binders.now c.loop-binder.binder-index c.binder-item.result _ _ _ (omega arith) c.binder-item.is c.loop-binder.invariant.below c.in_ok-inner.ensures;
  adds = adds_binders _ _ _ _ c.args.binders.now c.loop-binder.binder-index c.binder-item.result _ _ _ (omega arith) c.binder-item.is c.loop-binder.invariant.below c.loop-binder.invariant.adds
      c.in_ok-use_binder.ensures;
}
