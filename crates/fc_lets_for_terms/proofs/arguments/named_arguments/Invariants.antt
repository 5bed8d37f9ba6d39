use Rattle.std.proofs.Common.{◌≡◌, drop}
use Rattle.fc_model.specs.NamelessView.{nargs_of}
use Rattle.fc_rows.specs.Shrinking.{named_arguments, term_count}
use Rattle.fc_lets_for_terms.specs.Naming.{before}
use Rattle.fc_lets_for_terms.proofs.arguments.named_arguments.Given as goal

abbrev pub invariant-loop-argument : goal.invariant-loop-argument
invariant-loop-argument l = record {
  left : l.behind ≡ term_count (nargs_of (drop l.argument-index l.args));
  so_far : named_arguments (nargs_of l.args) ≡ before (nargs_of l.all) (named_arguments (nargs_of (drop l.argument-index l.args)));
}
