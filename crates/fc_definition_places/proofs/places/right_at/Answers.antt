use Rattle.std.proofs.Common.{◌≡◌, Some, slice_get, ap, ◌∙◌}
use Rattle.fc_definition_places.proofs.Standing.{right_there}
use Rattle.fc_definition_places.proofs.places.right_at.Goals as goal

pub returns-in-Some-decl_at : goal.returns-in-Some-decl_at
returns-in-Some-decl_at c =
    let decl_is : Some c.in-Some-decl_at.decl.now ≡ slice_get c.in-Some.m.now.decls c.args.place.decl = c.in-Some-decl_at.ensures ∙ ap (λ ds. slice_get ds c.args.place.decl) c.as_slice.ensures in
    right_there c.args.modules.now c.args.place c.in-Some.m.now c.in-Some-decl_at.decl.now _ c.in-Some.ensures decl_is c.right_of.ensures
