use Rattle.std.proofs.Common.{◌≡◌, drop}
use Rattle.fc_model.specs.NamelessView.{nargs_of, nbinders_of}
use Rattle.fc_rows.specs.Shrinking.{pair_with}
use Rattle.fc_lets_for_terms.proofs.arguments.pairs_with.Given as goal

abbrev pub invariant-loop-place : goal.invariant-loop-place
invariant-loop-place l = pair_with (nbinders_of l.binders) (nargs_of l.args) ≡ pair_with (nbinders_of (drop l.place l.binders)) (nargs_of (drop l.place l.args))
