use Rattle.std.proofs.Common.{[]}
use Rattle.fc_type_scope.specs.Scopes.{scope_in}
use Rattle.fc_type_table.specs.TypeTables.{nodes_of}
use Rattle.fc_type_scope.specs.declared.entering.Entered.{Entered}
use Rattle.fc_type_scope.proofs.OneMore.{entered_none}
use Rattle.fc_type_scope.proofs.scope.TypeScope.enter_one.Goals as goal

pub returns-clause-entered : goal.returns-clause-entered
returns-clause-entered c =
    let e : Entered = record { kinds = c.new.result; coercions = c.new-2.result; values = c.new-3.result } in
    c.in_ok-enter_binder.ensures.entered [] (entered_none (nodes_of c.args.types.now) (scope_in c.args.self.now) e c.new.ensures c.new-2.ensures c.new-3.ensures)
