use Rattle.fc_replay_types.proofs.StepsKept.{replays_keep_lint}
use Rattle.fc_replay_types.proofs.replays_keep_lint.Goals as goal

pub returns : goal.returns
returns c = record { lint = replays_keep_lint }
