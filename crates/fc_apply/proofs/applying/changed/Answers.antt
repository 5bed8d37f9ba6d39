use Rattle.std.proofs.Common.{rules, ◌≡◌, Some, None, sym, ap, ◌∙◌, position, subst}
use Rattle.std.specs.Option.{option_map}
use Rattle.std.proofs.lemmas.Option.{slice_get_within}
use Rattle.fc_model.specs.Kinding.{decls_at}
use Rattle.fc_model.specs.NamelessView.{ndecl_of, nmodules_of}
use Rattle.fc_rows.specs.ChangingCoercions.{as_they_are}
use Rattle.fc_rows.specs.Surroundings.{outside}
use Rattle.fc_row_at_place.specs.Rows.{built_row}
use Rattle.fc_apply.specs.Definitions.{HasDecl, changed_decl, is_definition, with_decl}
use Rattle.fc_apply.specs.Steps.{Makes}
use Rattle.fc_apply.proofs.Applied.{is_changed, not_changed, not_defined}
use Rattle.fc_apply.proofs.applying.changed.Goals as goal

pub returns-in_default-definition_of-clause-none : goal.returns-in_default-definition_of-clause-none
returns-in_default-definition_of-clause-none c same is after makes =
    let step = c.args.step.now in
    let m = c.in-Some.module.now in
    let none : position (λ d. is_definition c.in-Some-placed.word.now (ndecl_of d)) m.decls ≡ None = search rules in
    not_defined m c.in-Some.field-0-1.now step is c.in-Some-placed.word.now c.in-Some-placed.path.now (sym c.in-Some-placed.ensures) c.in-Some-aimed.place.now c.in-Some-aimed.alternative (sym c.in-Some-aimed.ensures)
    none after (subst (λ ms. Makes step (nmodules_of ms) after) c.in-Some.ensures.cases.0 makes)

pub returns-in-Some-2-clause-some : goal.returns-in-Some-2-clause-some
returns-in-Some-2-clause-some c =
    let step = c.args.step.now in
    let m = c.in-Some.module.now in
    let place = c.in-Some-aimed.place.now in
    let alternative = c.in-Some-aimed.alternative in
    let number = c.in-Some-definition_of.number in
    let old = c.at.result.now in
    let new = c.in-Some-2.decl in
    let first = c.in-Some.ensures.cases.0 in
    let found : position (λ d. is_definition c.in-Some-placed.word.now (ndecl_of d)) m.decls ≡ Some number = search rules in
    let below = slice_get_within m.decls number old c.at.ensures in
    let some =
    subst (λ ms. changed_decl (built_row (decls_at (nmodules_of ms)) step.row alternative) as_they_are (outside (decls_at (nmodules_of ms))) place (ndecl_of old) ≡ Some (ndecl_of new)) first
    (sym c.in_ok-decl.ensures ∙ ap (option_map ndecl_of) c.in-Some-2.is) in
    subst (λ ms. HasDecl number ms × Makes step (nmodules_of ms) (nmodules_of (with_decl number new ms))) (sym first) (
      below,
      is_changed m c.in-Some.field-0-1.now step (sym c.if-not-is_built.ensures) c.in-Some-placed.word.now c.in-Some-placed.path.now (sym c.in-Some-placed.ensures) place alternative (sym c.in-Some-aimed.ensures) number
          old found c.at.ensures new some,
    )

pub returns-in-None-clause-none : goal.returns-in-None-clause-none
returns-in-None-clause-none c same is after makes =
    let step = c.args.step.now in
    let m = c.in-Some.module.now in
    let place = c.in-Some-aimed.place.now in
    let alternative = c.in-Some-aimed.alternative in
    let old = c.at.result.now in
    let first = c.in-Some.ensures.cases.0 in
    let found : position (λ d. is_definition c.in-Some-placed.word.now (ndecl_of d)) m.decls ≡ Some c.in-Some-definition_of.number = search rules in
    let none =
    subst (λ ms. changed_decl (built_row (decls_at (nmodules_of ms)) step.row alternative) as_they_are (outside (decls_at (nmodules_of ms))) place (ndecl_of old) ≡ None) first
    (sym c.in_ok-decl.ensures ∙ ap (option_map ndecl_of) c.in-None.is) in
    not_changed m c.in-Some.field-0-1.now step is c.in-Some-placed.word.now c.in-Some-placed.path.now (sym c.in-Some-placed.ensures) place alternative (sym c.in-Some-aimed.ensures) c.in-Some-definition_of.number
    old found c.at.ensures none after (subst (λ ms. Makes step (nmodules_of ms) after) first makes)
