use Rattle.std.proofs.Common.{◌∙◌}
use Rattle.fc_lint_context.proofs.Declared.{type_found, type_shown}
use Rattle.fc_types.specs.Listed.{definition_types}
use Rattle.fc_types.specs.Tables.{found}
use Rattle.std.proofs.Common.{ap}
use Rattle.fc_lint_context.proofs.declared_types.DeclaredTypes.definition_type.Goals as goal

pub returns-in-Some-clause-valid : goal.returns-in-Some-clause-valid
returns-in-Some-clause-valid c = λ ns ks r. let d = c.args.self.now in type_found ns ks d.definition_types c.in-Some.number c.copied.result (c.copied.ensures ∙ c.get.ensures) r.definitions_in

pub returns-in-Some-clause-view : goal.returns-in-Some-clause-view
returns-in-Some-clause-view c = λ ns ks r.
    let d = c.args.self.now in
    ap found (type_shown ns ks d.definition_types (definition_types d.declared.now) c.in-Some.number c.copied.result (c.copied.ensures ∙ c.get.ensures) r.definitions_in r.definitions) ∙ c.in-Some.ensures
