use Rattle.std.proofs.Common.{◌≡◌, take}
use Rattle.fc_syntax.specs.View.{plains_of}
use Rattle.fc_syntax.proofs.copy.copy_plains.Given as goal

abbrev pub invariant-loop-x : goal.invariant-loop-x
invariant-loop-x l = plains_of l.all ≡ plains_of (take l.x-index l.items)
