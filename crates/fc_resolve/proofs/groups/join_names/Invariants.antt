use Rattle.std.proofs.Common.{◌≡◌, ◌++◌, drop, reverse}
use Rattle.fc_syntax.specs.View.{joins_of}
use Rattle.fc_model.specs.Resolution.{join_words}
use Rattle.fc_resolve.proofs.groups.join_names.Given as goal

-- the words of what is still to come, inside of those so far
abbrev pub invariant-loop-join : goal.invariant-loop-join
invariant-loop-join l = reverse (join_words (joins_of (drop l.join-index l.joins))) ++ l.names ≡ reverse (join_words (joins_of l.joins))
