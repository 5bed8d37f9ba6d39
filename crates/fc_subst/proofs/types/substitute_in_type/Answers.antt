use Rattle.std.proofs.Common.{ap, ◌∙◌}
use Rattle.std.proofs.lemmas.Result.{IfOk-weaker}
use Rattle.fc_model.specs.NamelessView.{nty_of}
use Rattle.fc_model.specs.Substituting.{substituted_type}
use Rattle.fc_subst.specs.Replacements.{replacement_of}
use Rattle.fc_subst.proofs.Lifting.{lifted_none}
use Rattle.fc_subst.proofs.types.substitute_in_type.Goals as goal

pub returns : goal.returns
returns c =
    IfOk-weaker c.type_with.result _ _ (λ _ h. h ∙ ap (λ r. substituted_type r.types (nty_of c.args.t.now)) (lifted_none (replacement_of c.args.replacement.now))) c.type_with.ensures
