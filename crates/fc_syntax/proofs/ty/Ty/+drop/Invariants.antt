use Rattle.std.proofs.Common.{◌≤◌}
use Rattle.fc_syntax.specs.declared.ty.Ty.{size-Ty}
use Rattle.fc_syntax.proofs.ty.Ty.+drop.Given as goal

-- what is left is no larger than the whole
abbrev pub invariant-loop-self : goal.invariant-loop-self
invariant-loop-self g l = size-Ty _ l.self ≤ size-Ty _ l.initial.self
