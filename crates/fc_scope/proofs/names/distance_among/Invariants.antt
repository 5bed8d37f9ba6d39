use Rattle.std.proofs.Common.{◌≡◌, reverse, take}
use Rattle.fc_model.specs.Resolution.{index_of}
use Rattle.fc_scope.proofs.names.distance_among.Given as goal

abbrev pub invariant-loop-other : goal.invariant-loop-other
invariant-loop-other l = l.distance ≡ index_of (reverse (take l.other-index l.words)) l.word
