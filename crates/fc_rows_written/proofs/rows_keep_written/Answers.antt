use Rattle.fc_rows_written.proofs.RowsWritten.{rows_keep_written}
use Rattle.fc_rows_written.proofs.rows_keep_written.Goals as goal

pub returns : goal.returns
returns c = record { written = rows_keep_written }
