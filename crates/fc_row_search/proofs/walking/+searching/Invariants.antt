use Rattle.std.proofs.Common.{◌≡◌, ◌+◌, ◌-◌, ◌*◌}
use Rattle.fc_model.specs.NamelessView.{nexpr_of}
use Rattle.fc_type_table.specs.TypeTables.{Grows}
use Rattle.fc_search_laws.specs.Searching.{part_count}
use Rattle.fc_row_search.specs.Spots.{parts_at}
use Rattle.fc_row_search.proofs.walking.+searching.Given as goal

-- Each level of the search is one less deep, and has five calls.

abbrev pub decreases-search_at : goal.decreases-search_at
decreases-search_at l = 5 * l.spot.now.room

abbrev pub decreases-search_parts : goal.decreases-search_parts
decreases-search_parts l = 5 * l.room + 4

abbrev pub decreases-search_part : goal.decreases-search_part
decreases-search_part l = 5 * l.room + 3

abbrev pub decreases-search_framed : goal.decreases-search_framed
decreases-search_framed l = 5 * l.room + 2

abbrev pub decreases-search_inside : goal.decreases-search_inside
decreases-search_inside l = 5 * l.room + 1

-- what is still to be found, and the table grows
abbrev pub invariant-search_parts-loop-number : goal.invariant-search_parts-loop-number
invariant-search_parts-loop-number l = record {
  found :
      parts_at l.spot l.room (part_count (nexpr_of l.e)) 0 l.fn.from (nexpr_of l.e)
      ≡ parts_at l.spot l.room (part_count (nexpr_of l.e) - l.number) l.number l.from (nexpr_of l.e);
  grows : Grows l.initial.types l.types;
}
