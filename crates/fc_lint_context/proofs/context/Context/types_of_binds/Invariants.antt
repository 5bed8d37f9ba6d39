use Rattle.std.proofs.Common.{◌≡◌, ◌++◌, drop}
use Rattle.fc_model.specs.NamelessView.{nbinds_of}
use Rattle.fc_type_scope.specs.Scopes.{AreTypes, scope_in, shown_all}
use Rattle.fc_type_table.specs.TypeTables.{Grows}
use Rattle.fc_lint_context.specs.LocalViews.{bind_types}
use Rattle.fc_lint_context.proofs.context.Context.types_of_binds.Given as goal

-- the types so far, before those that are still to come
abbrev pub invariant-loop-bind : goal.invariant-loop-bind
invariant-loop-bind l = record {
  grows : Grows l.initial.types l.types;
  types_in : AreTypes l.types (scope_in l.self.scope) l.ids;
  so_far : bind_types (nbinds_of l.binds) ≡ shown_all l.types (scope_in l.self.scope) l.ids ++ bind_types (nbinds_of (drop l.bind-index l.binds));
}
