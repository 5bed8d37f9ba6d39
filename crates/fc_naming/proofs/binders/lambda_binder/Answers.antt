use Rattle.fc_naming.proofs.ScopeUses.{lambda_around}
use Rattle.fc_naming.proofs.binders.lambda_binder.Goals as goal

pub returns-in-Some : goal.returns-in-Some
returns-in-Some c = record { taken = _; more = _; uses = lambda_around; takes = rw c.in-Some.is at c.in_ok-kept.ensures }
