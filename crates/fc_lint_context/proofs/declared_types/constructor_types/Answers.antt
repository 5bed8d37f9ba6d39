use Rattle.std.proofs.Common.{arith}
use Rattle.fc_lint_context.proofs.Declared.{constructors_all}
use Rattle.fc_lint_context.proofs.declared_types.constructor_types.Goals as goal

pub returns-clause-all : goal.returns-clause-all
returns-clause-all c = constructors_all c.args.declared.now c.loop-number.number _ c.loop-number.invariant.so_far (omega arith)
