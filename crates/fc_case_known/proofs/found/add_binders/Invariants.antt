use Rattle.std.proofs.Common.{◌≡◌, drop}
use Rattle.fc_model.specs.NamelessView.{nargs_of, nbinders_of}
use Rattle.fc_rows.specs.Surroundings.{as_arguments}
use Rattle.fc_known.specs.Counts.{counts}
use Rattle.fc_lets_for_terms.specs.Naming.{before}
use Rattle.fc_case_known.proofs.found.add_binders.Given as goal

abbrev pub invariant-loop-binder : goal.invariant-loop-binder
invariant-loop-binder l = record {
  left : l.left ≡ counts (nbinders_of (drop l.binder-index l.binders));
  so_far : before (nargs_of l.initial.args) (as_arguments (nbinders_of l.binders)) ≡ before (nargs_of l.args) (as_arguments (nbinders_of (drop l.binder-index l.binders)));
}
