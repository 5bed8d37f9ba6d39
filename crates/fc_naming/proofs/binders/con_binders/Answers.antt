use Rattle.std.proofs.Common.{ap}
use Rattle.fc_syntax.specs.View.{binders_of}
use Rattle.fc_naming.proofs.NamedDeclarations.{field_words}
use Rattle.fc_naming.proofs.ScopeUses.{fields_around}
use Rattle.fc_naming.proofs.binders.con_binders.Goals as goal

pub returns-in-Some : goal.returns-in-Some
returns-in-Some c = field_words (ap binders_of c.as_slice-binders.ensures) fields_around (rw c.in-Some.is at c.in_ok-kept.ensures)

pub returns : goal.returns
returns c = field_words (ap binders_of c.as_slice-binders.ensures) c.in_ok-used.ensures c.in_ok-named.ensures
