use Rattle.std.proofs.Common.{◌≡◌, drop}
use Rattle.fc_syntax.specs.View.{binders_of}
use Rattle.fc_model.specs.Resolution.{plus_all}
use Rattle.fc_model.specs.WordSets.{set_of}
use Rattle.fc_free.specs.Free.{of_words, value_words}
use Rattle.fc_free.proofs.collecting.words_of_binders.Given as goal

abbrev pub invariant-loop-binder : goal.invariant-loop-binder
invariant-loop-binder l = plus_all (value_words (binders_of (drop l.binder-index l.binders))) (set_of l.words) ≡ of_words (value_words (binders_of l.binders))
