use Rattle.fc_set_meaning.proofs.MainExpressions.{main_expressions_show_the_same}
use Rattle.fc_set_meaning.proofs.SetsMeant.{replayed_sets_keep_meaning}
use Rattle.fc_set_meaning.proofs.replayed_sets_keep_meaning.Goals as goal

pub returns : goal.returns
returns c = record { meaning = replayed_sets_keep_meaning; main = main_expressions_show_the_same }
