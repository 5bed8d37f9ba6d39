use Rattle.fc_simplify.proofs.Logs.{one_more}
use Rattle.fc_simplify.proofs.lines.add_steps.Goals as goal

pub loop-number-preserved : goal.loop-number-preserved
loop-number-preserved c =
    one_more c.args.lines.now c.loop-number.lines c.push.new.self c.loop-number.number c.args.step.now _ c.loop-number.invariant c.in_ok-copy_step.ensures c.in_ok-push.ensures.ok
