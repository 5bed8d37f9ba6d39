use Rattle.fc_set_types.proofs.Headed.{same_are_headed, written_are_headed}
use Rattle.fc_set_types.proofs.SetsKept.{replayed_sets_keep_lint}
use Rattle.fc_set_types.proofs.replayed_sets_keep_lint.Goals as goal

pub returns : goal.returns
returns c = record { lint = replayed_sets_keep_lint; same = same_are_headed; written = written_are_headed }
