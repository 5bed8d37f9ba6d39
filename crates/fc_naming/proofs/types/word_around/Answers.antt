use Rattle.fc_naming.proofs.NamedTypes.{may_take_ty}
use Rattle.fc_naming.proofs.ScopeUses.{type_around}
use Rattle.fc_naming.proofs.types.word_around.Goals as goal

pub returns-in-Some : goal.returns-in-Some
returns-in-Some c = may_take_ty type_around (rw c.in-Some.is at c.in_ok-kept.ensures)

pub returns : goal.returns
returns c = may_take_ty c.in_ok-used.ensures c.in_ok-word.ensures
