use Rattle.fc_logs_formed.proofs.LogsFormed.{logs_are_formed, steps_are_formed}
use Rattle.fc_logs_formed.proofs.logs_are_formed.Goals as goal

pub returns : goal.returns
returns c = record { steps = steps_are_formed; logs = logs_are_formed }
