use Rattle.fc_lint_context.proofs.Declared.{AreRead-grows}
use Rattle.fc_type_table.proofs.Numbers.{Grows-further}
use Rattle.fc_type_table.specs.TypeTables.{nodes_of}
use Rattle.fc_lint_set.proofs.sets.lint_declarations.Goals as goal

pub lint_rights-requires-clause-read : goal.lint_rights-requires-clause-read
lint_rights-requires-clause-read c =
    let old = c.args.types.now in
    let new = c.lint_definition_types.new.types in
    let far = Grows-further old c.lint_types.new.types new c.in_ok-lint_types.ensures.grows c.in_ok-lint_definition_types.ensures.grows in
    AreRead-grows (nodes_of old) (nodes_of new) c.args.declared.now far.nodes c.requires.read
