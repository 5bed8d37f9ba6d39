use Rattle.std.proofs.Common.{◌≡◌, drop}
use Rattle.fc_model.specs.Linting.{def_types_judged}
use Rattle.fc_model.specs.NamelessView.{ndecls_of}
use Rattle.fc_type_table.specs.TypeTables.{Grows, modules_in}
use Rattle.fc_types.specs.ModuleViews.{modules_of}
use Rattle.fc_lint_declarations.proofs.definition_types.lint_definition_types.Given as goal

-- what is still to come answers as the whole
abbrev pub invariant-loop-decl : goal.invariant-loop-decl
invariant-loop-decl l = record {
  still : def_types_judged (modules_of l.declared) (ndecls_of l.decls) ≡ def_types_judged (modules_of l.declared) (ndecls_of (drop l.decl-index l.decls));
  modules : modules_in l.types ≡ modules_of l.declared;
  grows : Grows l.fn.types l.types;
}
