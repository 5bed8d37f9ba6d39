use Rattle.std.proofs.Common.{◌≡◌}
use Rattle.fc_named_subst.specs.Scopes.{AreNamesBefore}
use Rattle.fc_named_subst.proofs.entering.names_before.Given as goal

abbrev pub invariant-loop-word : goal.invariant-loop-word
invariant-loop-word l = record { counted : l.count ≡ l.word-index; before : AreNamesBefore l.words l.binders l.count }
