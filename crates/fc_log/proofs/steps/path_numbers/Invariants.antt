use Rattle.std.proofs.Common.{◌≡◌, map}
use Rattle.std.specs.Str.Parse.{digits_value}
use Rattle.fc_log.proofs.steps.path_numbers.Given as goal

abbrev pub invariant-loop-part : goal.invariant-loop-part
invariant-loop-part l = l.numbers ≡ map (λ w. digits_value 10 w.now) l.yielded
