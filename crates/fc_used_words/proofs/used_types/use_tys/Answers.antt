use Rattle.std.proofs.Common.{arith}
use Rattle.fc_used_words.proofs.Collecting.{adds_tys}
use Rattle.fc_used_words.proofs.used_types.use_tys.Goals as goal

pub loop-t-preserved : goal.loop-t-preserved
loop-t-preserved c = adds_tys _ _ _ c.args.types.now c.loop-t.t-index c.t-item.result _ _ _ (omega arith) c.t-item.is c.loop-t.invariant c.in_ok-use_ty.ensures
