-- What a substitution is asked to do.
use Rattle.std.specs.Prelude.{Result}
use Rattle.fc_syntax.specs.Tree.{Arg, ATerm, AType, ACo}
use Rattle.fc_syntax.specs.View.{co_of, expr_of, ty_of}
use Rattle.fc_model.specs.DeclaredWords.{top_by}
use Rattle.fc_model.specs.Faulting.{F}
use Rattle.fc_model.specs.Nameless.{NExpr}
use Rattle.fc_model.specs.Resolution.{Locals}
use Rattle.fc_named_subst.specs.Substituted.{substituted}
use Rattle.fc_named_subst.specs.declared.pieces.Piece.{Piece}
use Rattle.fc_named_subst.specs.declared.pieces.Piece.TheVariants as piece
use Rattle.fc_named_subst.specs.declared.pieces.Task.{Task}

-- a piece as an argument
abbrev pub piece_of : Piece → Arg
piece_of (piece.Term e) = ATerm (expr_of e.now)
piece_of (piece.OfType t) = AType (ty_of t.now)
piece_of (piece.OfCo g) = ACo (co_of g.now)

-- what it comes to in these locals
abbrev pub task_judged : Task → Locals → Result NExpr F
task_judged t s = substituted (top_by t.top.now) s t.word.now (piece_of t.by) (expr_of t.expr.now)
