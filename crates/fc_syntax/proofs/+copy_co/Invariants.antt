use Rattle.std.proofs.Common.{◌≡◌, take}
use Rattle.fc_syntax.specs.View.{cos_of}
use Rattle.fc_syntax.proofs.+copy_co.Given as goal

abbrev pub invariant-copy::copy_all-loop-g : goal.invariant-copy::copy_all-loop-g
invariant-copy::copy_all-loop-g g l = cos_of l.all ≡ cos_of (take l.g-index l.cos)
