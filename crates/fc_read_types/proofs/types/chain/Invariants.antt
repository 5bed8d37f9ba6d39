use Rattle.std.proofs.Common.{◌≡◌, vec_len}
use Rattle.fc_syntax.specs.Tree.{TFun}
use Rattle.fc_syntax.specs.View.{ty_of, tys_of}
use Rattle.fc_model.specs.Grammar.{functions}
use Rattle.fc_read_types.proofs.Chains.{towards}
use Rattle.fc_read_types.proofs.types.chain.Given as goal

abbrev pub invariant-loop-from : goal.invariant-loop-from
invariant-loop-from l = TFun (ty_of l.first) (towards (tys_of l.front.items) (ty_of l.t)) ≡ functions (ty_of l.fn.first) (tys_of l.fn.others)

abbrev pub decreases-loop-from : goal.decreases-loop-from
decreases-loop-from l = vec_len l.front
