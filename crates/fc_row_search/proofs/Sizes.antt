-- What is measured of an expression is the size and the depth of what stands for it.
use Rattle.std.proofs.Common.{◌≡◌, ℕ, sym}
use Rattle.fc_syntax.specs.Measures.{expr_depth, expr_size}
use Rattle.fc_syntax.specs.View.{expr_of}
use Rattle.fc_syntax.specs.declared.expr.Expr as RustExpr
use Rattle.fc_syntax.specs.declared.ty.Ref.{Ref}
use Rattle.fc_model.specs.NamelessView.{nexpr_of}
use Rattle.fc_limits_at_places.specs.Fitting.{nexpr_size}
use Rattle.fc_result_limits.proofs.Bare.{expr_same}
use Rattle.fc_result_limits.proofs.Deep.{nexpr_depth}

pub size_shown : (e : RustExpr.Expr ℕ Ref) → nexpr_size (nexpr_of e) ≡ expr_size (expr_of e)
size_shown e = sym ((expr_same (expr_of e)).0)

pub depth_shown : (e : RustExpr.Expr ℕ Ref) → nexpr_depth (nexpr_of e) ≡ expr_depth (expr_of e)
depth_shown e = sym ((expr_same (expr_of e)).1)

pub ruleset size_rules = (size_shown, depth_shown)
