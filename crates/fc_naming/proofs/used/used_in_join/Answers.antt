use Rattle.std.proofs.Common.{rules}
use Rattle.fc_used_words.proofs.Collecting.{expr_below, joins_below}
use Rattle.fc_naming.proofs.ScopeUses.{join_walked_alone, join_walked_group}
use Rattle.fc_naming.proofs.used.used_in_join.Goals as goal
use Rattle.fc_naming.proofs.used.used_in_join.Goals.{then-recursive+in_ok-use_joins, else-recursive}

pub returns : goal.returns
returns c =
    elim c.if-recursive.branch [
      | then-recursive+in_ok-use_joins w ↦ join_walked_group w.if-recursive.true (joins_below w.in_ok-use_joins.ensures (search rules)) (search rules) (expr_below c.in_ok-use_expr.ensures (search rules))
      | else-recursive w ↦ join_walked_alone w.if-recursive.false (expr_below c.in_ok-use_expr.ensures (search rules))
    ]
