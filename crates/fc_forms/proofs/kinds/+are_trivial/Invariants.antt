use Rattle.std.proofs.Common.{length}
use Rattle.fc_forms.proofs.kinds.+are_trivial.Given as goal

abbrev pub decreases-are_trivial : goal.decreases-are_trivial
decreases-are_trivial l = length l.arguments.now
