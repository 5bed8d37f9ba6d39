use Rattle.std.proofs.Common.{◌≡◌, true, drop}
use Rattle.fc_model.specs.Linting.{cons_judged}
use Rattle.fc_model.specs.NamelessView.{ncons_of}
use Rattle.fc_type_scope.specs.Scopes.{IsScope, scope_in}
use Rattle.fc_type_table.specs.TypeTables.{Grows, modules_in}
use Rattle.fc_types.specs.ModuleViews.{modules_of}
use Rattle.fc_lint_declarations.proofs.constructors.lint_constructors.Given as goal

-- what is still to come answers as the whole
abbrev pub invariant-loop-con : goal.invariant-loop-con
invariant-loop-con l = record {
  still : cons_judged (modules_of l.declared) (scope_in l.outer) l.first true (ncons_of l.cons)
      ≡ cons_judged (modules_of l.declared) (scope_in l.outer) l.part l.all (ncons_of (drop l.con-index l.cons));
  scope : IsScope l.types l.outer;
  modules : modules_in l.types ≡ modules_of l.declared;
  grows : Grows l.fn.types l.types;
}
