use Rattle.fc_model.specs.NamelessView.{nmodules_of}
use Rattle.fc_optimise.proofs.Made.{made_more, made_start}
use Rattle.fc_optimise.proofs.phases.run_phases.Goals as goal

pub loop-phase-init : goal.loop-phase-init
loop-phase-init c = record { made = made_start (nmodules_of c.args.modules.now) c.new-log.result c.new-log.ensures; fits = c.requires; quiet = λ quiet. absurd cc }

pub loop-phase-preserved : goal.loop-phase-preserved
loop-phase-preserved c = record {
  made = made_more c.args.phases.now c.loop-phase.phase-index _ (nmodules_of c.args.modules.now) (nmodules_of c.loop-phase.modules) (nmodules_of c.run_phase.new.modules) c.loop-phase.log
      c.run_phase.new.log c.loop-phase-test.true c.loop-phase.invariant.made c.in_ok-quiet.ensures.runs;
  fits = c.in_ok-quiet.ensures.fits;
  quiet = c.in_ok-quiet.ensures.quiet;
}
