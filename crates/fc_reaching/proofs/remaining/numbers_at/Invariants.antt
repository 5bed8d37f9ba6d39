use Rattle.std.proofs.Common.{◌≡◌, map, take}
use Rattle.std.specs.List.{filter_map}
use Rattle.fc_reaching.specs.DefinitionsView.{number_by}
use Rattle.fc_reaching.proofs.remaining.numbers_at.Given as goal

abbrev pub invariant-loop-word : goal.invariant-loop-word
invariant-loop-word l = l.numbers ≡ filter_map (number_by l.definitions) (map (λ w. w.now) (take l.word-index l.words))
