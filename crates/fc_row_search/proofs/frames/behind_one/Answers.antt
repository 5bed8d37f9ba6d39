use Rattle.std.proofs.Common.{ap, ◌∙◌}
use Rattle.std.proofs.lemmas.Result.{IfOk-weaker}
use Rattle.fc_model.specs.NamelessView.{nbinders_of}
use Rattle.fc_rows.specs.Surroundings.{behind_binders}
use Rattle.fc_known.specs.Around.{surroundings_of}
use Rattle.fc_row_search.proofs.frames.behind_one.Goals as goal

pub returns-clause-stands : goal.returns-clause-stands
returns-clause-stands c ms =
    let s = surroundings_of ms c.args.outer.now in
    IfOk-weaker c.behind.result _ _ (λ a h. h ∙ ap (λ bs. behind_binders (nbinders_of bs) s) c.from_ref.ensures.value) (c.behind.ensures.stands ms)
