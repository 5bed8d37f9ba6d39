use Rattle.std.proofs.Common.{◌≡◌, take}
use Rattle.fc_build.proofs.judge.listed.Given as goal

abbrev pub invariant-loop-n : goal.invariant-loop-n
invariant-loop-n l = l.all ≡ take l.n-index l.numbers
