use Rattle.std.proofs.Common.{rules}
use Rattle.fc_used_words.proofs.Collecting.{binders_below, expr_below}
use Rattle.fc_naming.proofs.ScopeUses.{below_walked}
use Rattle.fc_naming.proofs.used.used_below.Goals as goal

pub returns : goal.returns
returns c = below_walked (binders_below c.in_ok-inside.ensures.adds (search rules)) (expr_below c.in_ok-use_expr.ensures (search rules))
