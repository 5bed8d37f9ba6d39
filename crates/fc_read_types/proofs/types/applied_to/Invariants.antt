use Rattle.std.proofs.Common.{◌≡◌}
use Rattle.fc_syntax.specs.View.{ty_of, tys_of}
use Rattle.fc_model.specs.Grammar.{type_applications}
use Rattle.fc_read_types.proofs.types.applied_to.Given as goal

abbrev pub invariant-loop-argument : goal.invariant-loop-argument
invariant-loop-argument l = type_applications (ty_of l.t) (tys_of l.argument-iterator.rest.items) ≡ type_applications (ty_of l.fn.head) (tys_of l.fn.arguments)
