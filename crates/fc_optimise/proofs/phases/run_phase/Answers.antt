use Rattle.std.proofs.Common.{subst, sym}
use Rattle.fc_model.specs.NamelessView.{nmodules_of}
use Rattle.fc_optimise.specs.Phases.{RunsPhase}
use Rattle.fc_optimise.proofs.Made.{another_phase, mark_runs, simplify_runs}
use Rattle.fc_optimise.proofs.phases.run_phase.Goals as goal

pub returns-in_ok-push-in-Simplify-clause-runs : goal.returns-in_ok-push-in-Simplify-clause-runs
returns-in_ok-push-in-Simplify-clause-runs c =
    let before = nmodules_of c.args.modules.now in
    let after = nmodules_of c.simplify_unless_quiet.new.modules in
    let done = c.in_ok-simplify_unless_quiet-in-Simplify.ensures in
    subst (λ p. RunsPhase p before after c.args.log.now c.push.new.self) (sym c.in-Simplify.is)
    (simplify_runs before after c.args.log.now c.simplify_unless_quiet.new.log c.push.new.self done.continues done.quiet c.in_ok-push-in-Simplify.ensures.ok)

pub returns-in_ok-push-in-Special-clause-runs : goal.returns-in_ok-push-in-Special-clause-runs
returns-in_ok-push-in-Special-clause-runs c =
    mark_runs c.args.phase (nmodules_of c.args.modules.now) c.args.log.now c.push-in-Special.new.self (another_phase c.args.phase c.in-Special.is) c.in_ok-push-in-Special.ensures.ok
