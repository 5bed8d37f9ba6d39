use Rattle.fc_replayed_sets.proofs.replayed_sets_are_faithful.Goals as goal
use Rattle.fc_replayed_sets.proofs.ReplayedSets.{replayed_sets_are_faithful, replays_can_be_written}

-- src/lib.rt:7:1
pub returns-clause-written : goal.returns-clause-written
returns-clause-written c = replays_can_be_written

-- src/lib.rt:7:1
pub returns-clause-faithful : goal.returns-clause-faithful
returns-clause-faithful c = replayed_sets_are_faithful
