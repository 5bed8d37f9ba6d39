use Rattle.fc_naming.proofs.NamedTypes.{may_take_alts}
use Rattle.fc_naming.proofs.ScopeUses.{alts_around}
use Rattle.fc_naming.proofs.variables.word_around.Goals as goal

pub returns-in-Some : goal.returns-in-Some
returns-in-Some c = may_take_alts alts_around (rw c.in-Some.is at c.in_ok-kept.ensures)

pub returns : goal.returns
returns c = may_take_alts c.in_ok-used.ensures c.in_ok-word.ensures
