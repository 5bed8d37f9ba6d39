use Rattle.std.proofs.Common.{◌≡◌, ◌++◌, None, drop, reverse}
use Rattle.fc_model.specs.NamelessView.{nbinders_of}
use Rattle.fc_model.specs.Typing.{binders_judged}
use Rattle.fc_type_table.specs.InScope.{AreNumbered, own_kinds}
use Rattle.fc_type_table.specs.TypeTables.{Grows, modules_in, nodes_of}
use Rattle.fc_type_scope.specs.Scopes.{scope_in}
use Rattle.fc_type_scope.proofs.scope.TypeScope.binders_owe.Given as goal

-- what is still to come answers as the whole, and the kinds so far have their numbers
abbrev pub invariant-loop-binder : goal.invariant-loop-binder
invariant-loop-binder l = record {
  still : binders_judged (modules_in l.fn.types) (scope_in l.self) 0 None (nbinders_of l.binders)
      ≡ binders_judged (modules_in l.fn.types) (reverse (own_kinds l.own) ++ scope_in l.self) l.part l.owed (nbinders_of (drop l.binder-index l.binders));
  numbered : AreNumbered (nodes_of l.types) l.own;
  grows : Grows l.fn.types l.types;
}
