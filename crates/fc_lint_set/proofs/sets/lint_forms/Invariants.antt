use Rattle.std.proofs.Common.{◌≡◌, drop}
use Rattle.fc_model.specs.Linting.{modules_judged}
use Rattle.fc_model.specs.NamelessView.{nmodules_of}
use Rattle.fc_type_table.specs.TypeTables.{modules_in, nodes_of}
use Rattle.fc_lint_context.specs.DeclaredViews.{AreRead, modules_read}
use Rattle.fc_plan.specs.Modules.{behind}
use Rattle.fc_lint_set.specs.Sets.{AreNames}
use Rattle.fc_lint_set.proofs.sets.lint_forms.Given as goal

-- what is still to come answers as the whole
abbrev pub invariant-loop-number : goal.invariant-loop-number
invariant-loop-number l = record {
  read : AreRead (nodes_of l.types) l.declared;
  modules : modules_in l.types ≡ modules_read l.declared;
  names : AreNames (nmodules_of l.forms) (behind l.modules) l.naming;
  so_far : modules_judged (nmodules_of l.forms) (behind l.modules) ≡ modules_judged (nmodules_of l.forms) (drop l.number (behind l.modules));
}
