use Rattle.std.proofs.Common.{◌≡◌, ◌≤◌, drop, length}
use Rattle.fc_model.specs.NamelessView.{nexpr_of}
use Rattle.fc_type_scope.specs.Scopes.{scope_in}
use Rattle.fc_lets_for_terms.specs.Asking.{asked_all, lets_around}
use Rattle.fc_lets_for_terms.proofs.lets.lets_around.Given as goal

-- the lets of the terms that are done
abbrev pub invariant-loop-left : goal.invariant-loop-left
invariant-loop-left l = record {
  within : l.left ≤ length l.asked;
  so_far : nexpr_of l.whole ≡ lets_around l.left (asked_all l.types (scope_in l.scope) (drop l.left l.asked)) (nexpr_of l.initial.whole);
}

abbrev pub decreases-loop-left : goal.decreases-loop-left
decreases-loop-left l = l.left
