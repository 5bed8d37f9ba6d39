use Rattle.std.proofs.Common.{arith}
use Rattle.fc_types.proofs.Arities.{arity_is}
use Rattle.fc_types.proofs.tables.DeclaredCon.arity.Goals as goal

pub returns-in-Some-checked_add : goal.returns-in-Some-checked_add
returns-in-Some-checked_add c =
    let n = c.args.self.now in
    omega (arith, arity_is n.params.now n.con.now.binders n.con.now.fields)
