use Rattle.fc_phases.proofs.Replayed.{optimised_are_replayed}
use Rattle.fc_phases.proofs.optimised_are_replayed.Goals as goal

pub returns : goal.returns
returns c = record { replayed = optimised_are_replayed }
