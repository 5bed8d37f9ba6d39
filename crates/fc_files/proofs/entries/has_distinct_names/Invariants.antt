-- The entries that are still to come answer as the whole.
use Rattle.std.proofs.Common.{◌≡◌, drop}
use Rattle.fc_files.specs.Entries.{has_distinct_names}
use Rattle.fc_files.proofs.entries.has_distinct_names.Given as goal

abbrev pub invariant-entries : goal.invariant-entries
invariant-entries l = has_distinct_names (drop l.i l.entries) ≡ has_distinct_names l.entries
