use Rattle.std.proofs.Common.{◌≡◌, drop}
use Rattle.fc_model.specs.NamelessView.{nbinders_of}
use Rattle.fc_known.specs.Counts.{counts, together}
use Rattle.fc_known.proofs.counts.counted.Given as goal

abbrev pub invariant-loop-binder : goal.invariant-loop-binder
invariant-loop-binder l = together l.own (counts (nbinders_of (drop l.binder-index l.binders))) ≡ counts (nbinders_of l.binders)
