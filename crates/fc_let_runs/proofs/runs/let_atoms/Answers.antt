use Rattle.fc_let_runs.proofs.Steps.{run_iterated, run_itself}
use Rattle.fc_let_runs.proofs.runs.let_atoms.Goals as goal

pub returns-clause-run : goal.returns-clause-run
returns-clause-run c = run_iterated (run_itself _ _ _ c.in_ok-run.ensures.run)

pub returns-clause-steps : goal.returns-clause-steps
returns-clause-steps c = run_itself _ _ _ c.in_ok-run.ensures.run
