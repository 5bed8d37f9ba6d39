use Rattle.fc_kept_meaning.proofs.DeadDefinitions.{dead_keeps_meaning}
use Rattle.fc_kept_meaning.proofs.ModulesKeepMeaning.{one_place_keeps_meaning}
use Rattle.fc_kept_meaning.proofs.rewrites_keep_meaning.Goals as goal

pub returns-clause-parts : goal.returns-clause-parts
returns-clause-parts c = one_place_keeps_meaning

pub returns-clause-dead : goal.returns-clause-dead
returns-clause-dead c = dead_keeps_meaning
