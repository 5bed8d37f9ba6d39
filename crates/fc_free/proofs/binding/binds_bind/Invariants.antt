use Rattle.std.proofs.Common.{◌≡◌, drop}
use Rattle.fc_syntax.specs.View.{binds_of}
use Rattle.fc_model.specs.Resolution.{bind_words}
use Rattle.fc_free.specs.Free.{of_words}
use Rattle.fc_free.proofs.binding.binds_bind.Given as goal

-- what is still to come binds the word where all do
abbrev pub invariant-loop-bind : goal.invariant-loop-bind
invariant-loop-bind l = of_words (bind_words (binds_of (drop l.bind-index l.binds))) l.word ≡ of_words (bind_words (binds_of l.binds)) l.word
