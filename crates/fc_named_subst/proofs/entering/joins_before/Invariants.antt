use Rattle.std.proofs.Common.{◌≡◌}
use Rattle.fc_named_subst.specs.Scopes.{AreJoinsBefore}
use Rattle.fc_named_subst.proofs.entering.joins_before.Given as goal

abbrev pub invariant-loop-word : goal.invariant-loop-word
invariant-loop-word l = record { counted : l.count ≡ l.word-index; before : AreJoinsBefore l.words l.names l.count }
