use Rattle.std.proofs.Common.{◌≡◌, ◌-◌}
use Rattle.fc_model.specs.NamelessView.{nexpr_of}
use Rattle.fc_type_table.specs.TypeTables.{Grows}
use Rattle.fc_search_laws.specs.Searching.{alternatives_of}
use Rattle.fc_row_search.specs.Spots.{dead_at}
use Rattle.fc_row_search.proofs.rows.first_dead.Given as goal

-- what is still to be found, and the table grows
abbrev pub invariant-loop-alternative : goal.invariant-loop-alternative
invariant-loop-alternative l = record {
  found : dead_at l.spot (alternatives_of (nexpr_of l.e)) 0 (nexpr_of l.e) ≡ dead_at l.spot (alternatives_of (nexpr_of l.e) - l.alternative) l.alternative (nexpr_of l.e);
  grows : Grows l.initial.types l.types;
}
