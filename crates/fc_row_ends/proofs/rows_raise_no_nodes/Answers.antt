use Rattle.fc_row_ends.proofs.Modules.{rows_raise_no_nodes}
use Rattle.fc_row_ends.proofs.rows_raise_no_nodes.Goals as goal

pub returns : goal.returns
returns c = record { rows = rows_raise_no_nodes }
