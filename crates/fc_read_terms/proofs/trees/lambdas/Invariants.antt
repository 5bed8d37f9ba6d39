use Rattle.std.proofs.Common.{◌≡◌, vec_len}
use Rattle.fc_syntax.specs.View.{binders_of, expr_of}
use Rattle.fc_model.specs.Grammar.{lambdas}
use Rattle.fc_read_terms.proofs.trees.lambdas.Given as goal

abbrev pub invariant-loop-binder : goal.invariant-loop-binder
invariant-loop-binder l = lambdas (binders_of l.left.items) (expr_of l.e) ≡ lambdas (binders_of l.fn.binders) (expr_of l.fn.body)

abbrev pub decreases-loop-binder : goal.decreases-loop-binder
decreases-loop-binder l = vec_len l.left
