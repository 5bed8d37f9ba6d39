use Rattle.std.proofs.Common.{◌≡◌, drop}
use Rattle.fc_syntax.specs.View.{binds_of}
use Rattle.fc_model.specs.Resolution.{bind_words, plus_all}
use Rattle.fc_model.specs.WordSets.{set_of}
use Rattle.fc_free.specs.Free.{of_words}
use Rattle.fc_free.proofs.collecting.words_of_binds.Given as goal

abbrev pub invariant-loop-bind : goal.invariant-loop-bind
invariant-loop-bind l = plus_all (bind_words (binds_of (drop l.bind-index l.binds))) (set_of l.words) ≡ of_words (bind_words (binds_of l.binds))
