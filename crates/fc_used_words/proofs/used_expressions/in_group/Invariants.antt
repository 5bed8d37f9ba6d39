use Rattle.std.proofs.Common.{◌≡◌, take}
use Rattle.fc_model.specs.NamelessView.{nbinds_of}
use Rattle.fc_used_words.specs.Around.{counts_of}
use Rattle.fc_used_words.specs.Scoped.{in_group}
use Rattle.fc_used_words.proofs.used_expressions.in_group.Given as goal

abbrev pub invariant-loop-bind : goal.invariant-loop-bind
invariant-loop-bind l = counts_of l.inner ≡ in_group (nbinds_of (take l.bind-index l.binds)) (counts_of l.fn.inside)
