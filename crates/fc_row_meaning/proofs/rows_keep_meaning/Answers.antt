use Rattle.fc_row_meaning.proofs.PlacesChanged.{changes_are_placed}
use Rattle.fc_row_meaning.proofs.RowsMeant.{rows_mean_the_same}
use Rattle.fc_row_meaning.proofs.rows_keep_meaning.Goals as goal

pub returns : goal.returns
returns c = record { changes = changes_are_placed; rows = rows_mean_the_same }
