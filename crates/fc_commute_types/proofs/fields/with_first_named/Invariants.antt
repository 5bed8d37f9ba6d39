use Rattle.std.proofs.Common.{◌≡◌, drop}
use Rattle.fc_model.specs.NamelessView.{nargs_of}
use Rattle.fc_rows.specs.Commuting.{with_first_named}
use Rattle.fc_commute_types.proofs.Named.{before, still_named}
use Rattle.fc_commute_types.proofs.fields.with_first_named.Given as goal

abbrev pub invariant-loop-argument : goal.invariant-loop-argument
invariant-loop-argument l = before (nargs_of l.all) (still_named l.found (nargs_of (drop l.argument-index l.arguments))) ≡ with_first_named (nargs_of l.arguments)
