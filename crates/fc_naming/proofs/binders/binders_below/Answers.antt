use Rattle.fc_naming.proofs.ScopeUses.{below_around}
use Rattle.fc_naming.proofs.binders.binders_below.Goals as goal

pub returns-in-Some : goal.returns-in-Some
returns-in-Some c = record { taken = _; more = _; uses = below_around; take = rw c.in-Some.is at c.in_ok-kept.ensures }
