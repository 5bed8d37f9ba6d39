use Rattle.fc_written_sets.proofs.SetsLint
use Rattle.fc_written_sets.proofs.written_sets_lint.Goals as goal

pub returns : goal.returns
returns c = record { lint = SetsLint.written_sets_lint }
