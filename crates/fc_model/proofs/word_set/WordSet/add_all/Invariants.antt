use Rattle.std.proofs.Common.{◌≡◌, drop}
use Rattle.fc_model.specs.Resolution.{plus_all}
use Rattle.fc_model.specs.WordSets.{set_of}
use Rattle.fc_model.proofs.word_set.WordSet.add_all.Given as goal

abbrev pub invariant-loop-word : goal.invariant-loop-word
invariant-loop-word l = plus_all (drop l.word-index l.words) (set_of l.self) ≡ plus_all l.words (set_of l.fn.self)
