use Rattle.std.proofs.Common.{◌≡◌, take}
use Rattle.fc_syntax.specs.View.{cons_of}
use Rattle.fc_copies.proofs.constructors.copy_cons.Given as goal

abbrev pub invariant-loop-x : goal.invariant-loop-x
invariant-loop-x g l = cons_of l.all ≡ cons_of (take l.x-index l.items)
