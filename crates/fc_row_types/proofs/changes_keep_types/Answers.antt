use Rattle.fc_row_types.proofs.CoercionsChanged.{coercions_keep_proofs}
use Rattle.fc_row_types.proofs.RowsKept.{changes_keep_types}
use Rattle.fc_row_types.proofs.changes_keep_types.Goals as goal

pub returns : goal.returns
returns c = record { expressions = changes_keep_types; coercions = coercions_keep_proofs }
