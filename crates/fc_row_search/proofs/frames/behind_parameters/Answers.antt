use Rattle.std.proofs.Common.{length, refl, sym, ap, ◌∙◌}
use Rattle.std.proofs.lemmas.Option.{slice_get_read}
use Rattle.std.proofs.lemmas.Result.{IfOk-weaker}
use Rattle.fc_model.specs.NamelessView.{nbinders_of}
use Rattle.fc_rows.specs.Surroundings.{behind_binders}
use Rattle.fc_known.specs.Around.{surroundings_of}
use Rattle.fc_row_search.proofs.Counted.{point_there}
use Rattle.fc_row_search.proofs.frames.behind_parameters.Goals as goal

pub returns-in-Some-clause-stands : goal.returns-in-Some-clause-stands
returns-in-Some-clause-stands c ms =
    let found = c.in-Some.ensures.lookup in
    let there = slice_get_read c.args.points.now (length c.args.points.now) c.args.number c.in-Some.point.now refl found.3.0 found.1 in
    let s = surroundings_of ms c.args.outer.now in
    IfOk-weaker c.behind.result _ _
    (λ a h. h ∙ ap (λ bs. behind_binders (nbinders_of bs) s) c.as_slice.ensures ∙ sym (point_there c.args.number c.args.points.now c.in-Some.point.now s there)) (c.behind.ensures.stands ms)
