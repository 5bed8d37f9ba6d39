use Rattle.std.proofs.Common.{◌≡◌, ◌++◌, drop}
use Rattle.fc_model.specs.Canonical.{words_text}
use Rattle.fc_printer.proofs.header.put_words.Given as goal

abbrev pub invariant-loop-word : goal.invariant-loop-word
invariant-loop-word l = l.to.items ++ words_text (drop l.word-index l.words) ≡ l.fn.to.items ++ words_text l.words
