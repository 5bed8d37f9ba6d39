use Rattle.std.proofs.Common.{refl, ◌∙◌}
use Rattle.fc_types.proofs.ByNumber.{owner_found, value_found}
use Rattle.fc_types.proofs.FirstDeclared.{constructor_found}
use Rattle.fc_types.proofs.Owners.{constructor_owner}
use Rattle.fc_types.specs.Listed.{constructors_in, own_constructor, own_constructors}
use Rattle.fc_types.specs.ModuleViews.{modules_of}
use Rattle.fc_types.specs.TableViews.{constructor_of}
use Rattle.fc_types.specs.Tables.{at_place}
use Rattle.indexmap.specs.IndexMap.{values}
use Rattle.fc_types.proofs.declarations.Declarations.constructor_number.Goals as goal

pub returns-clause-value : goal.returns-clause-value
unfolding constructors_in modules_of
returns-clause-value c =
    let d = c.args.self.now in
    let n = c.args.name.now in
    let there = at_place d.tables.constructors n.module n.text in
    value_found constructor_of (values d.tables.constructors) c.number_named.result there c.number_named.ensures.found c.number_named.ensures.value
    ∙ constructor_found d.tables.constructors d.modules.now n.module n.text there refl d.constructors_are

pub returns-clause-own : goal.returns-clause-own
unfolding own_constructors
returns-clause-own c =
    let d = c.args.self.now in
    let n = c.args.name.now in
    let there = at_place d.tables.constructors n.module n.text in
    owner_found own_constructor (values d.tables.constructors) c.number_named.result there n.module c.number_named.ensures.found c.number_named.ensures.value
    (constructor_owner d.tables.constructors d.modules.now n.module n.text there refl d.constructors_are)
