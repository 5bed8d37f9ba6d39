use Rattle.fc_model.specs.NamelessView.{nexpr_of}
use Rattle.fc_limits_at_places.specs.Fitting.{nexpr_size}
use Rattle.fc_let_runs.proofs.runs.+run_under.Given as goal

abbrev pub decreases-run_under : goal.decreases-run_under
decreases-run_under l = nexpr_size (nexpr_of l.e.now)
