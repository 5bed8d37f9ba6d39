use Rattle.std.proofs.Common.{◌≡◌, ◌<◌, ℕ, true}
use Rattle.fc_model.specs.WordSets.{set_of}
use Rattle.fc_naming.specs.Named.{candidate}
use Rattle.fc_naming.proofs.choose.first_free.Given as goal

abbrev pub invariant-loop-number : goal.invariant-loop-number
invariant-loop-number l = (j : ℕ) → j < l.number → set_of l.taken (candidate l.word j) ≡ true
