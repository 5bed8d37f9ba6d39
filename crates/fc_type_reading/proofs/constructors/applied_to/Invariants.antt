use Rattle.std.proofs.Common.{◌≡◌, ◌-◌, drop}
use Rattle.fc_model.specs.NamelessView.{nargs_of}
use Rattle.fc_type_scope.specs.Scopes.{scope_in}
use Rattle.fc_type_table.specs.TypeTables.{Grows, IsType, shown}
use Rattle.fc_type_reading.specs.Readings.{applied_to_first}
use Rattle.fc_type_reading.proofs.constructors.applied_to.Given as goal

-- what is left to be applied answers as the whole
abbrev pub invariant-loop-place : goal.invariant-loop-place
invariant-loop-place l = record {
  grows : Grows l.initial.types l.types;
  whole_in : IsType l.types (scope_in l.scope) l.whole;
  view : applied_to_first l.count (shown l.initial.types (scope_in l.scope) l.fn.head) (nargs_of l.args) ≡ applied_to_first (l.count - l.place) (shown l.types (scope_in l.scope) l.whole) (nargs_of (drop l.place l.args));
}
