use Rattle.std.proofs.Common.{◌≡◌, ◌++◌, drop}
use Rattle.fc_model.specs.Headers.{words_but}
use Rattle.fc_model.specs.WordSets.{set_of}
use Rattle.fc_headers.proofs.written.push_chosen.Given as goal

abbrev pub invariant-loop-word : goal.invariant-loop-word
invariant-loop-word l =
    l.out ++ words_but (set_of l.chosen) (set_of l.but) (drop l.word-index l.words)
    ≡ l.fn.out ++ words_but (set_of l.chosen) (set_of l.but) l.words
