use Rattle.std.proofs.Common.{◌≡◌, true, drop}
use Rattle.fc_model.specs.Linting.{con_binders_judged, kinds_behind_all}
use Rattle.fc_model.specs.NamelessView.{nbinders_of}
use Rattle.fc_types.specs.ModuleViews.{modules_of}
use Rattle.fc_type_scope.specs.Scopes.{IsScope, scope_in}
use Rattle.fc_type_table.specs.InScope.{AreNumbered, behind_group, own_kinds}
use Rattle.fc_type_table.specs.TypeTables.{Grows, modules_in, nodes_of}
use Rattle.fc_lint_declarations.proofs.constructors.lint_constructor.Given as goal

-- what is still to come answers as the whole, among the type variables so far
abbrev pub invariant-loop-binder : goal.invariant-loop-binder
invariant-loop-binder l = record {
  part : l.part ≡ l.binder-index;
  judged : con_binders_judged (modules_of l.declared) (scope_in l.outer) 0 true (nbinders_of l.con.binders)
      ≡ con_binders_judged (modules_of l.declared) (behind_group (own_kinds l.own) (scope_in l.outer)) l.part l.one (nbinders_of (drop l.binder-index l.con.binders));
  kinds : kinds_behind_all (nbinders_of l.con.binders) (scope_in l.outer) ≡ kinds_behind_all (nbinders_of (drop l.binder-index l.con.binders)) (behind_group (own_kinds l.own) (scope_in l.outer));
  numbered : AreNumbered (nodes_of l.types) l.own;
  scope : IsScope l.types l.outer;
  modules : modules_in l.types ≡ modules_of l.declared;
  grows : Grows l.fn.types l.types;
}
