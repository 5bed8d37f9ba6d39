use Rattle.std.proofs.Common.{[], ◌∙◌}
use Rattle.fc_type_scope.proofs.Numbers.{AreTypesAt-grows, shown_all-grows}
use Rattle.fc_type_table.proofs.Numbers.{Extends-further}
use Rattle.fc_type_table.specs.TypeTables.{nodes_of}
use Rattle.fc_lint_context.proofs.declared_types.DeclaredTypes.new.Goals as goal

pub returns-clause-read : goal.returns-clause-read
returns-clause-read c =
    let old = nodes_of c.definition_types.new.types in
    let mid = nodes_of c.constructor_types.new.types in
    let new = nodes_of c.sides_of_axioms.new.types in
    let ids = c.in_ok-definition_types.definition_types in
    let made = c.in_ok-constructor_types.constructor_types in
    let d = c.in_ok-definition_types.ensures in
    let k = c.in_ok-constructor_types.ensures in
    let a = c.in_ok-sides.ensures in
    let both = Extends-further old mid new k.grows.nodes a.grows.nodes in
    record {
      definitions_in = AreTypesAt-grows old new [] ids both d.types_in;
      definitions = shown_all-grows old new [] ids both d.types_in ∙ d.all;
      constructors_in = AreTypesAt-grows mid new [] made a.grows.nodes k.types_in;
      constructors = shown_all-grows mid new [] made a.grows.nodes k.types_in ∙ k.all;
      lefts_in = a.lefts_in;
      lefts = a.lefts;
      rights_in = a.rights_in;
      rights = a.rights;
    }
