use Rattle.fc_types.specs.Listed.{own_constructor}
use Rattle.fc_type_table.specs.TypeTables.{nodes_of}
use Rattle.fc_lint_context.proofs.Declared.{constructor_pushed}
use Rattle.fc_lint_context.proofs.declared_types.add_constructor.Goals as goal

pub returns-in_ok-id-in-Some-clause-so_far : goal.returns-in_ok-id-in-Some-clause-so_far
returns-in_ok-id-in-Some-clause-so_far c =
    constructor_pushed c.push.result (nodes_of c.args.types.now) (nodes_of c.constructor_type.new.types) c.args.declared.now c.args.number c.args.ids.now c.push.new.self c.in_ok-id-in-Some.id (own_constructor c.in-Some.con)
    c.in_ok-id-in-Some.ensures.grows.nodes c.requires.types_in c.requires.so_far c.in-Some.ensures.own c.in_ok-id-in-Some.ensures.view c.push.ensures.ok
