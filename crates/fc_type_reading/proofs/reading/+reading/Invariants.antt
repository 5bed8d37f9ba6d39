use Rattle.std.proofs.Common.{ℕ, ◌+◌, ◌*◌}
use Rattle.fc_syntax.specs.declared.expr.Expr.{size-Expr}
use Rattle.fc_syntax.specs.declared.ty.Ref.{Ref}
use Rattle.fc_type_reading.proofs.reading.+reading.Given as goal

-- the depth of what is read, where a function that is given the body stands above those that it calls

abbrev pub decreases-type_read_off : goal.decreases-type_read_off
decreases-type_read_off l = 10 * size-Expr ℕ Ref l.e.now

abbrev pub decreases-type_below : goal.decreases-type_below
decreases-type_below l = 10 * size-Expr ℕ Ref l.body.now + 1

abbrev pub decreases-lambda_type : goal.decreases-lambda_type
decreases-lambda_type l = 10 * size-Expr ℕ Ref l.body.now + 2

abbrev pub decreases-type_behind_binds : goal.decreases-type_behind_binds
decreases-type_behind_binds l = 10 * size-Expr ℕ Ref l.body.now + 1

abbrev pub decreases-let_type : goal.decreases-let_type
decreases-let_type l = 10 * size-Expr ℕ Ref l.body.now + 2
