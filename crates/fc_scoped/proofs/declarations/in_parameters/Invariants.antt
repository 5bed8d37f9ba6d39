use Rattle.std.proofs.Common.{◌≡◌, drop}
use Rattle.fc_used_words.specs.Around.{counts_of}
use Rattle.fc_used_words.specs.Scoped.{in_parameters, nothing_around}
use Rattle.fc_scoped.proofs.declarations.in_parameters.Given as goal

-- below what was and then what is still to come is below all
abbrev pub invariant-loop-param : goal.invariant-loop-param
invariant-loop-param g l = in_parameters (drop l.param-index l.params) (counts_of l.inner) ≡ in_parameters l.params nothing_around
