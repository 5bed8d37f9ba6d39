use Rattle.std.proofs.Common.{ap, ◌∙◌}
use Rattle.std.proofs.lemmas.Result.{IfOk-weaker}
use Rattle.fc_model.specs.NamelessView.{nalts_of}
use Rattle.fc_model.specs.Replacing.{expressions, put_in_alts, whole_coercions}
use Rattle.fc_subst.specs.Replacements.{replacement_of}
use Rattle.fc_subst.proofs.Lifting.{lifted_values}
use Rattle.fc_subst.proofs.parts.substitute_in_alternatives.Goals as goal

pub returns : goal.returns
returns c =
    IfOk-weaker c.alternatives_with.result _ _
    (λ _ h. h ∙ ap (λ r. put_in_alts expressions whole_coercions r (nalts_of c.args.alternatives.now)) (lifted_values c.args.below (replacement_of c.args.replacement.now)))
    c.alternatives_with.ensures
