use Rattle.std.proofs.Common.{◌≡◌, drop}
use Rattle.fc_syntax.specs.View.{joins_of}
use Rattle.fc_model.specs.Resolution.{join_words, plus_all}
use Rattle.fc_model.specs.WordSets.{set_of}
use Rattle.fc_free.specs.Free.{of_words}
use Rattle.fc_free.proofs.collecting.words_of_joins.Given as goal

abbrev pub invariant-loop-join : goal.invariant-loop-join
invariant-loop-join l = plus_all (join_words (joins_of (drop l.join-index l.joins))) (set_of l.words) ≡ of_words (join_words (joins_of l.joins))
