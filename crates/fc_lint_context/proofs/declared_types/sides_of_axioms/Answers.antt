use Rattle.std.proofs.Common.{arith}
use Rattle.fc_lint_context.proofs.Declared.{lefts_all, rights_all}
use Rattle.fc_lint_context.proofs.declared_types.sides_of_axioms.Goals as goal

pub returns-clause-lefts : goal.returns-clause-lefts
returns-clause-lefts c = lefts_all c.args.declared.now c.loop-number.number _ c.loop-number.invariant.lefts (omega arith)

pub returns-clause-rights : goal.returns-clause-rights
returns-clause-rights c = rights_all c.args.declared.now c.loop-number.number _ c.loop-number.invariant.rights (omega arith)
