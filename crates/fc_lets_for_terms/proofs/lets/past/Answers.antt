use Rattle.std.proofs.Common.{◌∙◌, ap}
use Rattle.std.proofs.lemmas.Result.{IfOk-weaker}
use Rattle.fc_model.specs.NamelessView.{nexpr_of}
use Rattle.fc_model.specs.Replacing.{renamed}
use Rattle.fc_rows.specs.Surroundings.{past_values}
use Rattle.fc_lets_for_terms.proofs.Behind.{past_is_put}
use Rattle.fc_lets_for_terms.proofs.lets.past.Goals as goal

pub returns : goal.returns
returns c =
    let e = nexpr_of c.args.e.now in
    IfOk-weaker c.substitute.result _ _ (λ _ h. h ∙ past_is_put c.in_ok-values.values e ∙ ap (λ n. renamed (past_values n) e) c.in_ok-values.ensures) c.substitute.ensures
