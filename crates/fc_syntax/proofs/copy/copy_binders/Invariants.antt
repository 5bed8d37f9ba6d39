use Rattle.std.proofs.Common.{◌≡◌, take}
use Rattle.fc_syntax.specs.View.{binders_of}
use Rattle.fc_syntax.proofs.copy.copy_binders.Given as goal

abbrev pub invariant-loop-x : goal.invariant-loop-x
invariant-loop-x g l = binders_of l.all ≡ binders_of (take l.x-index l.items)
