use Rattle.fc_replay_meaning.proofs.ReplaysMeant.{replays_keep_meaning}
use Rattle.fc_replay_meaning.proofs.replays_keep_meaning.Goals as goal

pub returns : goal.returns
returns c = record { replays = replays_keep_meaning }
