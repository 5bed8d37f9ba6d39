use Rattle.std.proofs.Common.{◌∙◌}
use Rattle.std.proofs.lemmas.Result.{IfOk-weaker}
use Rattle.fc_model.specs.NamelessView.{nexpr_of}
use Rattle.fc_shrink_terms.proofs.Rows.{without_values_is}
use Rattle.fc_shrink_terms.proofs.groups.without_values.Goals as goal

pub returns : goal.returns
returns c = IfOk-weaker c.substitute.result _ _ (λ _ h. h ∙ without_values_is c.args.count (nexpr_of c.args.e.now)) c.substitute.ensures
