use Rattle.fc_scoped.proofs.Scoping
use Rattle.fc_scoped.proofs.laws.linted_are_scoped.Goals as goal

pub returns : goal.returns
returns c = record { scoped = Scoping.linted_are_scoped }
