use Rattle.fc_naming.proofs.NamedTypes.{may_take_co}
use Rattle.fc_naming.proofs.ScopeUses.{coercion_around}
use Rattle.fc_naming.proofs.coercions.word_around.Goals as goal

pub returns-in-Some : goal.returns-in-Some
returns-in-Some c = may_take_co coercion_around (rw c.in-Some.is at c.in_ok-kept.ensures)

pub returns : goal.returns
returns c = may_take_co c.in_ok-used.ensures c.in_ok-word.ensures
