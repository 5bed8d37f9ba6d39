use Rattle.fc_counted.specs.CountingLaws.{Tested}
use Rattle.fc_term_rows.specs.TermRowLaws.{PutBy}
use Rattle.fc_row_places.specs.NamelessFacts.{NKnownBy}
use Rattle.fc_row_places.specs.RowPlaceLaws.{NTested}
use Rattle.fc_row_places.proofs.ErasedChanges.{erased_change}
use Rattle.fc_row_places.proofs.KnowingRowsErased.{knowing_erased}
use Rattle.fc_row_places.proofs.rewrites_erase.Goals as goal

pub returns-clause-changes : goal.returns-clause-changes
returns-clause-changes c test terms rows p e d change = erased_change (NTested test) (Tested terms) rows change

pub returns-clause-rewrites : goal.returns-clause-rewrites
returns-clause-rewrites c known put = knowing_erased (NKnownBy known) (PutBy put)
