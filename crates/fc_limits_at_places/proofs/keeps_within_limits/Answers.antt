use Rattle.fc_limits_at_places.proofs.InModules.{fits_is}
use Rattle.fc_limits_at_places.proofs.keeps_within_limits.Goals as goal

pub returns : goal.returns
returns c = record { within = fits_is }
