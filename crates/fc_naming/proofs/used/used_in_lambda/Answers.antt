use Rattle.std.proofs.Common.{rules}
use Rattle.fc_used_words.proofs.Collecting.{expr_below}
use Rattle.fc_naming.proofs.ScopeUses.{lambda_walked}
use Rattle.fc_naming.proofs.used.used_in_lambda.Goals as goal

pub returns : goal.returns
returns c = lambda_walked (expr_below c.in_ok-use_expr.ensures (search rules))
