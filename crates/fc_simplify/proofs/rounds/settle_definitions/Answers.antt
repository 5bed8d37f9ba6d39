use Rattle.std.proofs.Common.{rules, ◌≡◌, ap, ◌∙◌, subst}
use Rattle.fc_outlines.specs.Outlines.{outlined_all}
use Rattle.fc_model.specs.Kinding.{decls_at}
use Rattle.fc_model.specs.NamelessView.{nmodules_of}
use Rattle.fc_definition_places.specs.Places.{HasPlaces}
use Rattle.fc_simplify.proofs.rounds.settle_definitions.Goals as goal

pub settle_among-requires-clause-declared : goal.settle_among-requires-clause-declared
settle_among-requires-clause-declared c =
    let there : c.as_slice.result.now ≡ c.in_ok-outlined.outlined.items = search rules in
    let outlined : nmodules_of c.in_ok-outlined.outlined.items ≡ outlined_all (nmodules_of c.args.modules.now) = search rules in
    c.in_ok-declared.ensures ∙ ap (λ ms. decls_at (nmodules_of ms)) there ∙ ap decls_at outlined

pub settle_among-requires-clause-places : goal.settle_among-requires-clause-places
settle_among-requires-clause-places c =
    let there : c.as_slice-2.result.now ≡ c.in_ok-outlined.outlined.items = search rules in
    let outlined : nmodules_of c.in_ok-outlined.outlined.items ≡ outlined_all (nmodules_of c.args.modules.now) = search rules in
    subst (λ ms. HasPlaces ms c.in_ok-places.places) (ap nmodules_of there ∙ outlined) c.in_ok-places.ensures
