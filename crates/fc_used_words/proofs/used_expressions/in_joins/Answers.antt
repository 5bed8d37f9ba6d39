use Rattle.std.proofs.Common.{arith}
use Rattle.fc_used_words.proofs.Collecting.{in_joins_step}
use Rattle.fc_used_words.proofs.used_expressions.in_joins.Goals as goal

pub loop-join-preserved : goal.loop-join-preserved
loop-join-preserved c = in_joins_step c.args.joins.now c.loop-join.join-index c.join-item.result _ _ _ (omega arith) c.join-item.is c.loop-join.invariant c.in_ok-inner.ensures
