-- What is kept of the modules stays right while the table of types grows.
use Rattle.fc_model.specs.NamelessView.{nmodules_of}
use Rattle.fc_type_table.specs.TypeTables.{Grows}
use Rattle.fc_type_table.specs.declared.table.TypeTable.{TypeTable}
use Rattle.fc_row_at_place.proofs.HeadersKept.{headers_grow}
use Rattle.fc_row_search.specs.Spots.{HasHeaders}
use Rattle.fc_row_search.specs.declared.spots.Spot.{Spot}

pub still_read : (old new : TypeTable) (x : Spot) → Grows old new → HasHeaders old x → HasHeaders new x
still_read old new x grows has = headers_grow old new x.search.now.headers.now (nmodules_of x.search.now.modules.now) grows has
