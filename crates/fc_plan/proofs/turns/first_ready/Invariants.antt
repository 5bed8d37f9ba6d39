use Rattle.std.proofs.Common.{◌≡◌, drop}
use Rattle.fc_plan.specs.Turning.{first_free, is_marked}
use Rattle.fc_plan.proofs.turns.first_ready.Given as goal

abbrev pub invariant-loop-number : goal.invariant-loop-number
invariant-loop-number l = first_free (is_marked l.built) l.number (drop l.number l.needs) ≡ first_free (is_marked l.built) 0 l.needs
