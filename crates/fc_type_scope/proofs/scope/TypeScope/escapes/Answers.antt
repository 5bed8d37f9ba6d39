use Rattle.std.proofs.Common.{◌≡◌, ◌++◌, length, sym}
use Rattle.fc_type_table.specs.TypeTables.{shown}
use Rattle.fc_type_scope.specs.Scopes.{scope_in}
use Rattle.fc_type_scope.proofs.Leaving.{escapes_is}
use Rattle.fc_type_scope.proofs.scope.TypeScope.escapes.Goals as goal

pub returns : goal.returns
returns c = λ bs t.
    let ks = scope_in c.args.self.now in
    let types = c.args.types.now in
    let id = c.args.id in
    let count : length ks ≡ c.in_ok-variables.variables = sym c.in_ok-variables.ensures in
    escapes_is c.mentions_from.result (length bs) (shown types (bs ++ ks) id) (shown types ks id) (λ e. c.mentions_from.ensures.same e bs ks count t) (λ e. c.mentions_from.ensures.mentions e bs ks count t)
