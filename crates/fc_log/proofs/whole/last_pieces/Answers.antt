use Rattle.fc_log.proofs.Faults.{last_cuts}
use Rattle.fc_log.proofs.whole.last_pieces.Goals as goal

pub returns : goal.returns
returns c = last_cuts c.args.pieces.now c.saturating_sub.result c.args.left c.saturating_sub.ensures
