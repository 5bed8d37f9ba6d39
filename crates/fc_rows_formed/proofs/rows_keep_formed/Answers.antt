use Rattle.fc_rows_formed.proofs.HeadersFormed.{headed_is_formed, told_is_formed}
use Rattle.fc_rows_formed.proofs.RowsFormed.{replays_keep_formed, rows_keep_formed}
use Rattle.fc_rows_formed.proofs.rows_keep_formed.Goals as goal

pub returns : goal.returns
returns c = record { rows = rows_keep_formed; replays = replays_keep_formed; told = told_is_formed; headed = headed_is_formed }
