use Rattle.fc_model.specs.NamelessView.{nbinders_of}
use Rattle.fc_type_scope.proofs.OneMore.{entered_grows}
use Rattle.fc_type_scope.proofs.ScopeKinds.{scope_grows}
use Rattle.fc_type_scope.specs.Scopes.{scope_in}
use Rattle.fc_type_table.proofs.Numbers.{Extends-further}
use Rattle.fc_type_table.specs.TypeTables.{nodes_of}
use Rattle.fc_lint_context.proofs.constructors.over_own_binders.Goals as goal

pub over_own_fields-requires-clause-scope : goal.over_own_fields-requires-clause-scope
over_own_fields-requires-clause-scope c = scope_grows (nodes_of c.args.types.now) (nodes_of c.enter.new.types) c.args.scope.now.kinds.now c.in_ok-entered.ensures.grows.nodes c.requires

pub function_over-requires-clause-scope : goal.function_over-requires-clause-scope
function_over-requires-clause-scope c =
    let both = Extends-further _ _ _ c.in_ok-entered.ensures.grows.nodes c.in_ok-body.ensures.grows.nodes in
    scope_grows (nodes_of c.args.types.now) (nodes_of c.over_own_fields.new.types) c.args.scope.now.kinds.now both c.requires

pub function_over-requires-clause-entered_in : goal.function_over-requires-clause-entered_in
function_over-requires-clause-entered_in c =
    entered_grows (nodes_of c.enter.new.types) (nodes_of c.over_own_fields.new.types) (scope_in c.args.scope.now) (nbinders_of c.as_slice-binders.result.now) c.in_ok-entered.entered c.in_ok-body.ensures.grows.nodes
    c.in_ok-entered.ensures.entered
