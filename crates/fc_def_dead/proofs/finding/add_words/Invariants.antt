use Rattle.std.proofs.Common.{◌≡◌, ◌++◌, map, take}
use Rattle.fc_def_dead.proofs.finding.add_words.Given as goal

abbrev pub invariant-loop-word : goal.invariant-loop-word
invariant-loop-word l = map (λ w. w.now) l.to.items ≡ map (λ w. w.now) l.initial.to.items ++ take l.word-index l.words
