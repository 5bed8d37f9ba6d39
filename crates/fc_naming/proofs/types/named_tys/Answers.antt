use Rattle.std.proofs.Common.{arith, rules}
use Rattle.fc_naming.proofs.Each.{each_all, each_start, each_step}
use Rattle.fc_naming.proofs.NamedTypes.{named_tys}
use Rattle.fc_naming.proofs.types.named_tys.Goals as goal

pub loop-t-init : goal.loop-t-init
loop-t-init c = each_start c.args.types.now c.new-out.result c.new-out.ensures

pub loop-t-preserved : goal.loop-t-preserved
loop-t-preserved c =
    each_step _ c.args.types.now c.loop-t.t-index c.t-item.result c.loop-t.out c.push.new.self c.in_ok-next.next (omega arith) c.t-item.is c.loop-t.invariant c.in_ok-next.ensures (search rules)

pub returns : goal.returns
returns c = named_tys c.args.types.now c.loop-t.out (each_all c.args.types.now c.loop-t.t-index c.loop-t.out c.loop-t-test.false c.loop-t.invariant)
