use Rattle.std.proofs.Common.{[]}
use Rattle.fc_model.specs.NamelessView.{nty_of}
use Rattle.fc_type_scope.specs.Scopes.{shown_all_at}
use Rattle.fc_type_table.specs.TypeTables.{nodes_of}
use Rattle.fc_types.specs.Listed.{definition_types}
use Rattle.fc_lint_context.proofs.Declared.{types-pushed}
use Rattle.fc_lint_context.proofs.declared_types.add_definition.Goals as goal

pub returns-in-Some-clause-so_far : goal.returns-in-Some-clause-so_far
returns-in-Some-clause-so_far c =
    types-pushed c.add_closed.result (definition_types c.args.declared.now) (shown_all_at (nodes_of c.args.types.now) [] c.args.ids.now) (shown_all_at (nodes_of c.add_closed.new.types) [] c.add_closed.new.ids) c.args.number
    (nty_of c.in-Some.t.now) c.requires.so_far c.in-Some.ensures.value c.add_closed.ensures.added
