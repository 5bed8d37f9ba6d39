use Rattle.fc_meaning.proofs.SortedSteps
use Rattle.fc_meaning.proofs.steps_keep_sorts.Goals as goal

pub returns : goal.returns
returns c = record { kept = SortedSteps.next_sorted }
