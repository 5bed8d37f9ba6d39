use Rattle.std.proofs.Common.{arith, rules}
use Rattle.fc_naming.proofs.Each.{each_all, each_start, each_step}
use Rattle.fc_naming.proofs.NamedTypes.{named_cos}
use Rattle.fc_naming.proofs.coercions.+named.Goals as goal

pub named_cos-loop-g-init : goal.named_cos-loop-g-init
named_cos-loop-g-init t c = each_start c.args.gs.now c.new-out.result c.new-out.ensures

pub named_cos-loop-g-preserved : goal.named_cos-loop-g-preserved
named_cos-loop-g-preserved t c =
    each_step _ c.args.gs.now c.loop-g.g-index c.g-item.result c.loop-g.out c.push.new.self c.in_ok-next.next (omega arith) c.g-item.is c.loop-g.invariant c.in_ok-next.ensures (search rules)

pub named_cos-returns : goal.named_cos-returns
named_cos-returns t c = named_cos c.args.gs.now c.loop-g.out (each_all c.args.gs.now c.loop-g.g-index c.loop-g.out c.loop-g-test.false c.loop-g.invariant)
