use Rattle.std.proofs.Common.{◌≡◌, true, drop}
use Rattle.fc_model.specs.Linting.{fields_judged}
use Rattle.fc_model.specs.NamelessView.{ntys_of}
use Rattle.fc_type_scope.specs.Scopes.{IsScope, scope_in}
use Rattle.fc_type_table.specs.TypeTables.{Grows, modules_in}
use Rattle.fc_types.specs.ModuleViews.{modules_of}
use Rattle.fc_lint_declarations.proofs.constructors.lint_fields.Given as goal

-- what is still to come answers as the whole
abbrev pub invariant-loop-field : goal.invariant-loop-field
invariant-loop-field l = record {
  still : fields_judged (modules_of l.declared) (scope_in l.scope) l.first true (ntys_of l.fields)
      ≡ fields_judged (modules_of l.declared) (scope_in l.scope) l.part l.all (ntys_of (drop l.field-index l.fields));
  scope : IsScope l.types l.scope;
  modules : modules_in l.types ≡ modules_of l.declared;
  grows : Grows l.fn.types l.types;
}
