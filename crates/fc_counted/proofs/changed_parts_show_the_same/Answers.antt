use Rattle.fc_counted.specs.CountingLaws.{Tested}
use Rattle.fc_counted.proofs.ChangedPrograms.{both_see_same}
use Rattle.fc_counted.proofs.Congruence.{change_open}
use Rattle.fc_counted.proofs.changed_parts_show_the_same.Goals as goal

pub returns-clause-under : goal.returns-clause-under
returns-clause-under c P Q sp sq k programs test parts d t u change = change_open P Q sp sq (Tested test) k programs parts change

pub returns-clause-same : goal.returns-clause-same
returns-clause-same c P Q sp sq test there back changes = both_see_same P Q sp sq (Tested test) there back changes
