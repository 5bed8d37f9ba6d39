use Rattle.std.proofs.Common.{◌≡◌, drop}
use Rattle.fc_model.specs.NamelessView.{nargs_of}
use Rattle.fc_rows.specs.Commuting.{first_field}
use Rattle.fc_type_scope.specs.Scopes.{scope_in}
use Rattle.fc_type_table.specs.TypeTables.{Grows, IsType, shown}
use Rattle.fc_commute_types.proofs.asked.first_field.Given as goal

-- the field of the whole is the one among the arguments that are left
abbrev pub invariant-loop-argument : goal.invariant-loop-argument
invariant-loop-argument l = record {
  grows : Grows l.initial.types l.types;
  whole_in : IsType l.types (scope_in l.scope) l.whole;
  view : first_field (shown l.initial.types (scope_in l.scope) l.fn.ty) (nargs_of l.arguments) ≡ first_field (shown l.types (scope_in l.scope) l.whole) (nargs_of (drop l.argument-index l.arguments));
}
