use Rattle.std.proofs.Common.{◌≡◌, ◌+◌, drop}
use Rattle.fc_model.specs.NamelessView.{nbinders_of}
use Rattle.fc_occur.specs.Spans.{bound_values}
use Rattle.fc_occur.proofs.counting.value_binders.Given as goal

abbrev pub invariant-loop-binder : goal.invariant-loop-binder
invariant-loop-binder l = l.count + bound_values (nbinders_of (drop l.binder-index l.binders)) ≡ bound_values (nbinders_of l.binders)
