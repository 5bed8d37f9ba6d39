use Rattle.std.proofs.Common.{◌≡◌, drop}
use Rattle.fc_syntax.specs.View.{joins_of}
use Rattle.fc_model.specs.Resolution.{join_words}
use Rattle.fc_free.specs.Free.{of_words}
use Rattle.fc_free.proofs.binding.joins_bind.Given as goal

-- what is still to come binds the word where all do
abbrev pub invariant-loop-join : goal.invariant-loop-join
invariant-loop-join l = of_words (join_words (joins_of (drop l.join-index l.joins))) l.word ≡ of_words (join_words (joins_of l.joins)) l.word
