use Rattle.std.proofs.Common.{rules}
use Rattle.fc_lint_expr.proofs.Lengths.{binders_length}
use Rattle.fc_lint_expr.proofs.binding.part_behind.Goals as goal

pub returns-in-Ok-clause-part : goal.returns-in-Ok-clause-part
returns-in-Ok-clause-part c = search (rules, binders_length)
