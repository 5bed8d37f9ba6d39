use Rattle.std.proofs.Common.{◌≡◌, take}
use Rattle.fc_lattice.specs.View.{demands_of}
use Rattle.fc_lattice.proofs.+copy_demand.Given as goal

abbrev pub invariant-copy::copy_demands-loop-d : goal.invariant-copy::copy_demands-loop-d
invariant-copy::copy_demands-loop-d l = demands_of l.all ≡ demands_of (take l.d-index l.demands)
