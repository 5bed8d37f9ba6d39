use Rattle.std.proofs.Common.{rules}
use Rattle.fc_used_words.proofs.Collecting.{expr_below, binds_below}
use Rattle.fc_naming.proofs.ScopeUses.{let_walked_alone, let_walked_group}
use Rattle.fc_naming.proofs.used.used_in_let.Goals as goal
use Rattle.fc_naming.proofs.used.used_in_let.Goals.{then-recursive+in_ok-use_binds, else-recursive}

pub returns : goal.returns
returns c =
    elim c.if-recursive.branch [
      | then-recursive+in_ok-use_binds w ↦ let_walked_group w.if-recursive.true (binds_below w.in_ok-use_binds.ensures (search rules)) (search rules) (expr_below c.in_ok-use_expr.ensures (search rules))
      | else-recursive w ↦ let_walked_alone w.if-recursive.false (expr_below c.in_ok-use_expr.ensures (search rules))
    ]
