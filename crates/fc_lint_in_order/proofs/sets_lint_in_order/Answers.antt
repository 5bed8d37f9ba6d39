use Rattle.fc_lint_in_order.proofs.InOrder.{built_sets_lint_in_order}
use Rattle.fc_lint_in_order.proofs.sets_lint_in_order.Goals as goal

pub returns : goal.returns
returns c = record { ordered = built_sets_lint_in_order }
