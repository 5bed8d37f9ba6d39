use Rattle.std.proofs.Common.{sym}
use Rattle.fc_lets_for_terms.proofs.InOrder.{not_as_many}
use Rattle.fc_lets_for_terms.proofs.arguments.pairs_with.Goals as goal

pub returns-then-binders-args : goal.returns-then-binders-args
returns-then-binders-args c = sym (not_as_many c.args.binders.now c.args.args.now c.if-binders-args.true)
