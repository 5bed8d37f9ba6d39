use Rattle.std.proofs.Common.{◌≡◌, ◌++◌, drop, reverse}
use Rattle.fc_syntax.specs.View.{binds_of}
use Rattle.fc_model.specs.Resolution.{bind_words}
use Rattle.fc_resolve.proofs.groups.bind_names.Given as goal

-- the words of what is still to come, inside of those so far
abbrev pub invariant-loop-bind : goal.invariant-loop-bind
invariant-loop-bind l = reverse (bind_words (binds_of (drop l.bind-index l.binds))) ++ l.names ≡ reverse (bind_words (binds_of l.binds))
