use Rattle.std.proofs.Common.{◌≡◌, take}
use Rattle.fc_lattice.specs.View.{sigs_of}
use Rattle.fc_iface.proofs.telling.copy_sigs.Given as goal

abbrev pub invariant-loop-sig : goal.invariant-loop-sig
invariant-loop-sig l = sigs_of l.all ≡ sigs_of (take l.sig-index l.sigs)
