use Rattle.std.proofs.Common.{◌≡◌, ◌+◌, drop}
use Rattle.fc_model.specs.NamelessView.{nargs_of}
use Rattle.fc_rows.specs.Shrinking.{term_count}
use Rattle.fc_lets_for_terms.proofs.arguments.term_count.Given as goal

abbrev pub invariant-loop-argument : goal.invariant-loop-argument
invariant-loop-argument l = l.count + term_count (nargs_of (drop l.argument-index l.args)) ≡ term_count (nargs_of l.args)
