use Rattle.std.proofs.Common.{◌≡◌, take}
use Rattle.fc_syntax.specs.View.{tys_of}
use Rattle.fc_copies.proofs.constructors.copy_tys.Given as goal

abbrev pub invariant-loop-x : goal.invariant-loop-x
invariant-loop-x g l = tys_of l.all ≡ tys_of (take l.x-index l.items)
