use Rattle.fc_model.specs.NamelessView.{nmodules_of}
use Rattle.fc_apply.specs.Steps.{FirstFits}
use Rattle.fc_simplify.specs.Phase.{Continues}
use Rattle.fc_simplify.proofs.rounds.simplify.Given as goal

-- what was done so far
abbrev pub invariant-loop : goal.invariant-loop
invariant-loop l = record {
  continues : Continues (nmodules_of l.fn.modules) (nmodules_of l.modules) l.fn.log l.log;
  fits : FirstFits (nmodules_of l.modules);
}
