use Rattle.std.proofs.Common.{◌≡◌, drop}
use Rattle.std.specs.List.{list_all}
use Rattle.fc_plan.specs.Turning.{is_marked}
use Rattle.fc_plan.proofs.turns.are_built.Given as goal

abbrev pub invariant-loop-number : goal.invariant-loop-number
invariant-loop-number l = list_all (is_marked l.built) (drop l.number-index l.numbers) ≡ list_all (is_marked l.built) l.numbers
