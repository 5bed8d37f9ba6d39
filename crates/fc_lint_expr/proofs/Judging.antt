-- What is known where an expression is judged, while the table grows.
use Rattle.fc_lint_calls.proofs.Givens.{given_rules}
use Rattle.fc_lint_context.proofs.Contexts.{context_rules}
use Rattle.fc_lint_context.proofs.Growing.{stays, stays_on}

pub ruleset judging_rules = (context_rules, given_rules, stays, stays_on)
