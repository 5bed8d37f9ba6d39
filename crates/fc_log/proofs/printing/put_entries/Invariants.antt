use Rattle.std.proofs.Common.{◌≡◌, ◌++◌, drop}
use Rattle.fc_log.specs.Texts.{entries_text}
use Rattle.fc_log.proofs.printing.put_entries.Given as goal

abbrev pub invariant-loop-entry : goal.invariant-loop-entry
invariant-loop-entry l = l.to.items ++ entries_text (drop l.entry-index l.entries) ≡ l.fn.to.items ++ entries_text l.entries
