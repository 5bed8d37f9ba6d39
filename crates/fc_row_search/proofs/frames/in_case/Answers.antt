use Rattle.std.proofs.Common.{ap, ◌∙◌, arith}
use Rattle.std.proofs.lemmas.Result.{IfOk-weaker}
use Rattle.fc_model.specs.NamelessView.{nalts_of, nexpr_of, nty_of}
use Rattle.fc_rows.specs.Surroundings.{listed_heads}
use Rattle.fc_known.specs.Around.{surroundings_of}
use Rattle.fc_row_search.specs.Frames.{behind_branch}
use Rattle.fc_row_search.proofs.frames.in_case.Goals as goal

pub returns-in-Some-clause-more : goal.returns-in-Some-clause-more
returns-in-Some-clause-more c ms k is =
    let alts = nalts_of c.args.alternatives.now in
    IfOk-weaker c.in_alternative.result _ _
    (λ a h. h ∙ ap (λ j. behind_branch (nexpr_of c.args.scrutinee.now) (nty_of c.args.ty.now) (listed_heads alts) j alts (surroundings_of ms c.args.outer.now)) (omega (arith, c.in-Some.ensures.1, is)))
    (c.in_alternative.ensures.stands ms)
