use Rattle.std.proofs.Common.{◌≡◌, ◌≤◌, length, reverse, take}
use Rattle.fc_model.specs.Calling.{at_types}
use Rattle.fc_type_scope.specs.Scopes.{AreTypes, scope_in, shown_all}
use Rattle.fc_type_table.specs.TypeTables.{Grows, IsType, shown}
use Rattle.fc_type_spines.proofs.spines.type_at.Given as goal

-- what is left to be put in answers as the whole
abbrev pub invariant-loop-left : goal.invariant-loop-left
invariant-loop-left l = record {
  within : l.left ≤ length l.arguments;
  grows : Grows l.initial.types l.types;
  arguments_in : AreTypes l.types (scope_in l.scope) l.arguments;
  whole_in : IsType l.types (scope_in l.scope) l.whole;
  view : at_types (shown l.initial.types (scope_in l.scope) l.fn.ty) (reverse (shown_all l.initial.types (scope_in l.scope) l.arguments)) ≡ at_types (shown l.types (scope_in l.scope) l.whole) (reverse (shown_all l.types (scope_in l.scope) (take l.left l.arguments)));
}

abbrev pub decreases-loop-left : goal.decreases-loop-left
decreases-loop-left l = l.left
