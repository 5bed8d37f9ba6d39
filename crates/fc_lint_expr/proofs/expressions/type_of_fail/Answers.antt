use Rattle.std.proofs.Common.{rules}
use Rattle.fc_lint_context.proofs.Faults.{fails}
use Rattle.fc_lint_expr.proofs.expressions.type_of_fail.Goals as goal

pub returns-in_err-read-clause-says : goal.returns-in_err-read-clause-says
returns-in_err-read-clause-says c = fails _ _ _ _ _ c.in_err-read.ensures.says (search rules)

pub returns-clause-says : goal.returns-clause-says
returns-clause-says c = rw (c.in_ok-read.ensures.says, ← c.is_value_kind-is_value.ensures, ← c.in_ok-read.ensures.view) c.fail_type.ensures.says
