use Rattle.std.proofs.Common.{◌≡◌, take}
use Rattle.fc_syntax.specs.View.{params_of}
use Rattle.fc_syntax.proofs.copy.copy_params.Given as goal

abbrev pub invariant-loop-x : goal.invariant-loop-x
invariant-loop-x l = params_of l.all ≡ params_of (take l.x-index l.items)
