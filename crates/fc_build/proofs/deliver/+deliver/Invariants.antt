use Rattle.std.proofs.Common.{length}
use Rattle.fc_build.proofs.deliver.+deliver.Given as goal

abbrev pub decreases-deliver : goal.decreases-deliver
decreases-deliver g l = length l.steps.now
