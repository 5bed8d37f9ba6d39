use Rattle.std.proofs.Common.{length, ◌-◌}
use Rattle.fc_lex.proofs.Steps.{IsRead}
use Rattle.fc_lex.proofs.tokens.Given as goal

abbrev pub invariant-loop-at : goal.invariant-loop-at
invariant-loop-at l = IsRead l.bytes l.all l.at

abbrev pub decreases-loop-at : goal.decreases-loop-at
decreases-loop-at l = length l.bytes - l.at
