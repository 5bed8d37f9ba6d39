use Rattle.fc_row_ends.proofs.Modules.{steps_end}
use Rattle.fc_row_ends.proofs.rows_come_to_an_end.Goals as goal

pub returns : goal.returns
returns c = record { rows = steps_end }
