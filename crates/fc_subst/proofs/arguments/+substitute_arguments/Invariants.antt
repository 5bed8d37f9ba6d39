use Rattle.std.proofs.Common.{length}
use Rattle.fc_subst.proofs.arguments.+substitute_arguments.Given as goal

abbrev pub decreases-substitute_arguments : goal.decreases-substitute_arguments
decreases-substitute_arguments l = length l.args.now
