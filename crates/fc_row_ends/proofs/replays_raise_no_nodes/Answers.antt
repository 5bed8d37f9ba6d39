use Rattle.fc_row_ends.proofs.Modules.{replays_raise_no_nodes}
use Rattle.fc_row_ends.proofs.replays_raise_no_nodes.Goals as goal

pub returns : goal.returns
returns c = record { replays = replays_raise_no_nodes }
