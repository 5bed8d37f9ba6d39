use Rattle.std.proofs.Common.{◌≡◌, drop}
use Rattle.fc_syntax.specs.View.{binders_of}
use Rattle.fc_free.specs.Free.{of_words, value_words}
use Rattle.fc_free.proofs.binding.binders_bind.Given as goal

-- what is still to come binds the word where all do
abbrev pub invariant-loop-binder : goal.invariant-loop-binder
invariant-loop-binder l = of_words (value_words (binders_of (drop l.binder-index l.binders))) l.word ≡ of_words (value_words (binders_of l.binders)) l.word
