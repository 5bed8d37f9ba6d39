use Rattle.std.proofs.Common.{sym, ap, ◌∙◌}
use Rattle.std.proofs.lemmas.Result.{IfOk-weaker}
use Rattle.fc_model.specs.Calling.{from_some}
use Rattle.fc_model.specs.NamelessView.{nexpr_of}
use Rattle.fc_parts.specs.PartsAt.{at_place}
use Rattle.fc_parts.proofs.Parted.{asked_of_found}
use Rattle.fc_rows.specs.Surroundings.{outside}
use Rattle.fc_row_at_place.specs.Rows.{built_row}
use Rattle.fc_row_search.specs.Spots.{modules_of, place_of}
use Rattle.fc_row_search.proofs.rows.asked_there.Goals as goal

pub returns-clause-found : goal.returns-clause-found
returns-clause-found c e at =
    let x = c.args.spot.now in
    let ms = modules_of x.search.now in
    let row = built_row ms c.args.row c.args.alternative in
    let right = nexpr_of x.search.now.right.now in
    IfOk-weaker c.row_by_headers.result _ _
    (λ o h. h ∙ ap (λ p. at_place row p (outside ms) right) (c.as_slice.ensures.value ∙ c.in_ok-place.ensures)
    ∙ sym (asked_of_found row (outside ms) (place_of x.path.now) right) ∙ ap (from_some (λ t. row t.0 t.1)) at.stands) c.row_by_headers.ensures.answer
