use Rattle.std.proofs.Common.{◌≡◌, drop}
use Rattle.fc_plan.specs.Modules.{modules_of, names_of}
use Rattle.fc_plan.specs.Turning.{first_unbuilt, is_marked}
use Rattle.fc_plan.proofs.turns.first_unbuilt.Given as goal

abbrev pub invariant-loop-number : goal.invariant-loop-number
invariant-loop-number l =
    first_unbuilt (is_marked l.built) l.number (names_of (modules_of (drop l.number l.modules)))
    ≡ first_unbuilt (is_marked l.built) 0 (names_of (modules_of l.modules))
