use Rattle.std.proofs.Common.{◌≡◌, ◌++◌, length, reverse}
use Rattle.fc_model.specs.Calling.{type_arguments, type_head}
use Rattle.fc_type_scope.specs.Scopes.{AreTypes, scope_in, shown_all}
use Rattle.fc_type_table.specs.TypeTables.{IsType, shown}
use Rattle.fc_type_spines.proofs.spines.spine_of.Given as goal

-- the arguments that are still to come stand before those so far
abbrev pub invariant-loop-next : goal.invariant-loop-next
invariant-loop-next l = record {
  head_in : IsType l.types (scope_in l.scope) l.head;
  arguments_in : AreTypes l.types (scope_in l.scope) l.arguments;
  same : type_head (shown l.types (scope_in l.scope) l.head) ≡ type_head (shown l.types (scope_in l.scope) l.fn.ty);
  all : type_arguments (shown l.types (scope_in l.scope) l.head) ++ reverse (shown_all l.types (scope_in l.scope) l.arguments) ≡ type_arguments (shown l.types (scope_in l.scope) l.fn.ty);
}

-- applications of the head
abbrev pub decreases-loop-next : goal.decreases-loop-next
decreases-loop-next l = length (type_arguments (shown l.types (scope_in l.scope) l.head))
