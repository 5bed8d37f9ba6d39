use Rattle.std.proofs.Common.{◌≡◌, take}
use Rattle.fc_syntax.proofs.copy.copy_words.Given as goal

abbrev pub invariant-loop-x : goal.invariant-loop-x
invariant-loop-x l = l.all ≡ take l.x-index l.items
