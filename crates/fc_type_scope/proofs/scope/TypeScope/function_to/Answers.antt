use Rattle.fc_model.specs.NamelessView.{nbinders_of}
use Rattle.fc_type_scope.specs.Scopes.{scope_in}
use Rattle.fc_type_table.specs.TypeTables.{nodes_of}
use Rattle.fc_type_scope.proofs.EnteredScoped.{entered_scoped}
use Rattle.fc_type_scope.proofs.scope.TypeScope.function_to.Goals as goal

pub read_over-requires-clause-scoped : goal.read_over-requires-clause-scoped
read_over-requires-clause-scoped c =
    entered_scoped (nodes_of c.args.types.now) (scope_in c.args.self.now) c.in_ok-variables.variables (nbinders_of c.args.binders.now) c.args.entered.now c.in_ok-variables.ensures c.requires.entered_in
