use Rattle.std.proofs.Common.{ap, refl, ◌∙◌}
use Rattle.fc_model.specs.NamelessView.{nty_of}
use Rattle.fc_types.proofs.ByNumber.{value_found}
use Rattle.fc_types.proofs.FirstDeclared.{definition_found}
use Rattle.fc_types.specs.Listed.{definition_types}
use Rattle.fc_types.specs.ModuleViews.{modules_of}
use Rattle.fc_types.specs.Tables.{at_place, found}
use Rattle.indexmap.specs.IndexMap.{values}
use Rattle.fc_types.proofs.declarations.Declarations.definition_number.Goals as goal

pub returns : goal.returns
unfolding definition_types modules_of
returns c =
    let d = c.args.self.now in
    let n = c.args.name.now in
    let there = at_place d.tables.definitions n.module n.text in
    ap found (value_found (λ t. nty_of t.now) (values d.tables.definitions) c.number_named.result there c.number_named.ensures.found c.number_named.ensures.value)
    ∙ definition_found d.tables.definitions d.modules.now n.module n.text there refl d.definitions_are
