use Rattle.std.proofs.Common.{◌≡◌, take}
use Rattle.fc_model.specs.NamelessView.{nmodules_of}
use Rattle.fc_outlines.specs.Outlines.{outlined_all}
use Rattle.fc_outlines.proofs.outlining.outlines.Given as goal

abbrev pub invariant-loop-m : goal.invariant-loop-m
invariant-loop-m l = nmodules_of l.all.items ≡ outlined_all (nmodules_of (take l.m-index l.modules))
