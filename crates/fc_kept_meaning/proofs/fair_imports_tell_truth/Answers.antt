use Rattle.fc_kept_meaning.proofs.FairTold.{fair_imports_tell_truth}
use Rattle.fc_kept_meaning.proofs.fair_imports_tell_truth.Goals as goal

pub returns : goal.returns
returns c = record { told = fair_imports_tell_truth }
