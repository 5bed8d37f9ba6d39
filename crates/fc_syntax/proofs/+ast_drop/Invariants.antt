use Rattle.std.proofs.Common.{◌≤◌}
use Rattle.fc_syntax.specs.declared.expr.Expr.{size-Expr}
use Rattle.fc_syntax.proofs.+ast_drop.Given as goal

-- what is left is no larger than the whole
abbrev pub invariant-expr::Expr::drop-loop-self : goal.invariant-expr::Expr::drop-loop-self
invariant-expr::Expr::drop-loop-self g l = size-Expr _ _ l.self ≤ size-Expr _ _ l.initial.self
