use Rattle.std.proofs.Common.{arith, rules}
use Rattle.fc_naming.proofs.Each.{each_all, each_start, each_step}
use Rattle.fc_naming.proofs.NamedDeclarations.{named_decls}
use Rattle.fc_naming.proofs.declarations.named_decls.Goals as goal

pub loop-decl-init : goal.loop-decl-init
loop-decl-init c = each_start c.args.decls.now c.new-out.result c.new-out.ensures

pub loop-decl-preserved : goal.loop-decl-preserved
loop-decl-preserved c =
    each_step _ c.args.decls.now c.loop-decl.decl-index c.decl-item.result c.loop-decl.out c.push.new.self c.in_ok-next.next (omega arith) c.decl-item.is c.loop-decl.invariant c.in_ok-next.ensures (search rules)

pub returns : goal.returns
returns c = named_decls c.args.decls.now c.loop-decl.out (each_all c.args.decls.now c.loop-decl.decl-index c.loop-decl.out c.loop-decl-test.false c.loop-decl.invariant)
