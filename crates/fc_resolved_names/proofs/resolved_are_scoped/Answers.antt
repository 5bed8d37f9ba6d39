use Rattle.fc_resolved_names.proofs.Scoped.{resolved_are_scoped}
use Rattle.fc_resolved_names.proofs.resolved_are_scoped.Goals as goal

pub returns : goal.returns
returns c = record { scoped = resolved_are_scoped }
