use Rattle.std.proofs.Common.{arith}
use Rattle.fc_used_words.proofs.Collecting.{in_group_step}
use Rattle.fc_used_words.proofs.used_expressions.in_group.Goals as goal

pub loop-bind-preserved : goal.loop-bind-preserved
loop-bind-preserved c = in_group_step c.args.binds.now c.loop-bind.bind-index c.bind-item.result _ _ _ (omega arith) c.bind-item.is c.loop-bind.invariant c.in_ok-inner.ensures
