use Rattle.std.proofs.Common.{IsTrue, take}
use Rattle.fc_model.specs.NamelessView.{nmodules_of}
use Rattle.fc_apply.specs.Steps.{FirstFits}
use Rattle.fc_simplify.specs.Phase.{FirstIsQuiet}
use Rattle.fc_optimise.specs.Optimised.{FirstIsMadeBy}
use Rattle.fc_optimise.proofs.phases.run_phases.Given as goal

abbrev pub invariant-loop-phase : goal.invariant-loop-phase
invariant-loop-phase l = record {
  made : FirstIsMadeBy (take l.phase-index l.phases) l.log (nmodules_of l.fn.modules) (nmodules_of l.modules);
  fits : FirstFits (nmodules_of l.modules);
  quiet : IsTrue l.quiet → FirstIsQuiet (nmodules_of l.modules);
}
