use Rattle.fc_log.proofs.GoesOn as law
use Rattle.fc_log.proofs.laws.a_log_goes_on.Goals as goal

pub returns : goal.returns
returns c = record { goes_on = law.goes_on }
