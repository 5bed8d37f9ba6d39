use Rattle.std.proofs.Common.{arith, rules}
use Rattle.fc_naming.proofs.Each.{each_all, each_start, each_step}
use Rattle.fc_naming.proofs.NamedDeclarations.{named_cons}
use Rattle.fc_naming.proofs.declarations.named_cons.Goals as goal

pub loop-con-init : goal.loop-con-init
loop-con-init c = each_start c.args.cons.now c.new-out.result c.new-out.ensures

pub loop-con-preserved : goal.loop-con-preserved
loop-con-preserved c =
    each_step _ c.args.cons.now c.loop-con.con-index c.con-item.result c.loop-con.out c.push.new.self c.in_ok-next.next (omega arith) c.con-item.is c.loop-con.invariant c.in_ok-next.ensures (search rules)

pub returns : goal.returns
returns c = named_cons c.args.cons.now c.loop-con.out (each_all c.args.cons.now c.loop-con.con-index c.loop-con.out c.loop-con-test.false c.loop-con.invariant)
