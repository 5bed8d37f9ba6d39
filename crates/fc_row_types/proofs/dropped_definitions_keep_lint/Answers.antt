use Rattle.fc_row_types.proofs.DefinitionsGo.{definitions_stay_linted}
use Rattle.fc_row_types.proofs.dropped_definitions_keep_lint.Goals as goal

pub returns : goal.returns
returns c = record { dropped = definitions_stay_linted }
