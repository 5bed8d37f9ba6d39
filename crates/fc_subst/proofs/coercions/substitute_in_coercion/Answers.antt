use Rattle.std.proofs.Common.{ap, ◌∙◌}
use Rattle.std.proofs.lemmas.Result.{IfOk-weaker}
use Rattle.fc_model.specs.NamelessView.{nco_of}
use Rattle.fc_model.specs.Replacing.{replaced_coercion}
use Rattle.fc_subst.specs.Replacements.{replacement_of}
use Rattle.fc_subst.proofs.Lifting.{lifted_none}
use Rattle.fc_subst.proofs.coercions.substitute_in_coercion.Goals as goal

pub returns : goal.returns
returns c =
    IfOk-weaker c.coercion_with.result _ _ (λ _ h. h ∙ ap (λ r. replaced_coercion r.types r.coercions (nco_of c.args.g.now)) (lifted_none (replacement_of c.args.replacement.now))) c.coercion_with.ensures
