use Rattle.std.proofs.Common.{◌≡◌, map}
use Rattle.fc_syntax.specs.View.{arg_of, expr_of}
use Rattle.fc_model.specs.Grammar.{applications}
use Rattle.fc_read_terms.proofs.trees.applied_to.Given as goal

abbrev pub invariant-loop-arg : goal.invariant-loop-arg
invariant-loop-arg l = applications (expr_of l.e) (map arg_of l.arg-iterator.rest.items) ≡ applications (expr_of l.fn.head) (map arg_of l.fn.args)
