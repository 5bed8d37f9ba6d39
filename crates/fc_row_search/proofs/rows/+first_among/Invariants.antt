use Rattle.std.proofs.Common.{length}
use Rattle.fc_row_search.proofs.rows.+first_among.Given as goal

abbrev pub decreases-first_among : goal.decreases-first_among
decreases-first_among l = length l.rows.now
