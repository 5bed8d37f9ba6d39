use Rattle.std.proofs.Common.{◌≡◌, drop}
use Rattle.fc_model.specs.Linting.{rights_judged}
use Rattle.fc_model.specs.NamelessView.{ndecls_of}
use Rattle.fc_type_table.specs.TypeTables.{modules_in, nodes_of}
use Rattle.fc_lint_context.specs.DeclaredViews.{AreRead, modules_read}
use Rattle.fc_lint_set.proofs.right_sides.lint_rights.Given as goal

-- what is still to come answers as the whole
abbrev pub invariant-loop-decl : goal.invariant-loop-decl
invariant-loop-decl l = record {
  read : AreRead (nodes_of l.types) l.declared;
  modules : modules_in l.types ≡ modules_read l.declared;
  so_far : rights_judged (modules_read l.declared) (ndecls_of l.decls) ≡ rights_judged (modules_read l.declared) (ndecls_of (drop l.decl-index l.decls));
}
