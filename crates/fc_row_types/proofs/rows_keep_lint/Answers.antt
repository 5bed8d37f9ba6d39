use Rattle.fc_row_types.proofs.RowsKept.{rows_keep_lint}
use Rattle.fc_row_types.proofs.rows_keep_lint.Goals as goal

pub returns : goal.returns
returns c = record { rows = rows_keep_lint }
