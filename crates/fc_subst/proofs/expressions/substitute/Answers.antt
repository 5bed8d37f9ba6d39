use Rattle.std.proofs.Common.{ap, ◌∙◌}
use Rattle.std.proofs.lemmas.Result.{IfOk-weaker}
use Rattle.fc_model.specs.NamelessView.{nexpr_of}
use Rattle.fc_model.specs.Replacing.{replaced}
use Rattle.fc_subst.specs.Replacements.{replacement_of}
use Rattle.fc_subst.proofs.Lifting.{lifted_none}
use Rattle.fc_subst.proofs.expressions.substitute.Goals as goal

pub returns : goal.returns
returns c =
    IfOk-weaker c.expression_with.result _ _ (λ _ h. h ∙ ap (λ r. replaced r (nexpr_of c.args.e.now)) (lifted_none (replacement_of c.args.replacement.now))) c.expression_with.ensures
