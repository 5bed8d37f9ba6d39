use Rattle.std.proofs.Common.{◌≡◌, ◌++◌}
use Rattle.fc_syntax.specs.View.{binders_of}
use Rattle.fc_read_types.proofs.parameters.joined.Given as goal

abbrev pub invariant-loop-binder : goal.invariant-loop-binder
invariant-loop-binder l = binders_of l.all ++ binders_of l.binder-iterator.rest.items ≡ binders_of l.fn.all ++ binders_of l.fn.others
