use Rattle.std.proofs.Common.{ap, refl, ◌∙◌}
use Rattle.std.specs.Option.{option_and_then}
use Rattle.fc_model.specs.NamelessView.{ndecl_of}
use Rattle.fc_types.proofs.ByNumber.{owner_found, value_found}
use Rattle.fc_types.proofs.FirstDeclared.{axiom_found}
use Rattle.fc_types.proofs.Owners.{axiom_owner}
use Rattle.fc_types.specs.Listed.{axioms_in, own_axiom, own_axioms}
use Rattle.fc_types.specs.ModuleViews.{modules_of}
use Rattle.fc_types.specs.TableViews.{axiom_of}
use Rattle.fc_types.specs.Tables.{at_place}
use Rattle.indexmap.specs.IndexMap.{values}
use Rattle.fc_types.proofs.declarations.Declarations.axiom_number.Goals as goal

pub returns-clause-value : goal.returns-clause-value
unfolding axioms_in modules_of
returns-clause-value c =
    let d = c.args.self.now in
    let n = c.args.name.now in
    let there = at_place d.tables.axioms n.module n.text in
    ap (option_and_then (axiom_of n.module)) (value_found (λ a. ndecl_of a.decl.now) (values d.tables.axioms) c.number_named.result there c.number_named.ensures.found c.number_named.ensures.value)
    ∙ axiom_found d.tables.axioms d.modules.now n.module n.text there refl d.axioms_are

pub returns-clause-own : goal.returns-clause-own
unfolding own_axioms
returns-clause-own c =
    let d = c.args.self.now in
    let n = c.args.name.now in
    let there = at_place d.tables.axioms n.module n.text in
    owner_found own_axiom (values d.tables.axioms) c.number_named.result there n.module c.number_named.ensures.found c.number_named.ensures.value
    (axiom_owner d.tables.axioms d.modules.now n.module n.text there refl d.axioms_are)
