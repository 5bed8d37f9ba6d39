use Rattle.std.proofs.Common.{◌≡◌, take}
use Rattle.fc_model.specs.NamelessView.{njoins_of}
use Rattle.fc_used_words.specs.Around.{counts_of}
use Rattle.fc_used_words.specs.Scoped.{in_joins}
use Rattle.fc_used_words.proofs.used_expressions.in_joins.Given as goal

abbrev pub invariant-loop-join : goal.invariant-loop-join
invariant-loop-join l = counts_of l.inner ≡ in_joins (njoins_of (take l.join-index l.joins)) (counts_of l.fn.inside)
