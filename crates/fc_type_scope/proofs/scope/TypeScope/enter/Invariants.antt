use Rattle.std.proofs.Common.{take}
use Rattle.fc_model.specs.NamelessView.{nbinders_of}
use Rattle.fc_type_scope.specs.Behind.{IsEntered}
use Rattle.fc_type_scope.specs.Scopes.{scope_in}
use Rattle.fc_type_table.specs.TypeTables.{Grows, nodes_of}
use Rattle.fc_type_scope.proofs.scope.TypeScope.enter.Given as goal

-- the binders so far are entered
abbrev pub invariant-loop-binder : goal.invariant-loop-binder
invariant-loop-binder l = record {
  entered : IsEntered (nodes_of l.types) (scope_in l.self) (nbinders_of (take l.binder-index l.binders)) l.entered;
  grows : Grows l.fn.types l.types;
}
