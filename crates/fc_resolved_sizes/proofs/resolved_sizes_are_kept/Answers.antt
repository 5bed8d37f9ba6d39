use Rattle.fc_resolved_sizes.proofs.AsLarge.{resolved_are_as_large}
use Rattle.fc_resolved_sizes.proofs.WithinLimits.{read_are_within_limits}
use Rattle.fc_resolved_sizes.proofs.resolved_sizes_are_kept.Goals as goal

pub returns : goal.returns
returns c = record { as_large = resolved_are_as_large; within = read_are_within_limits }
