use Rattle.std.proofs.Common.{ap, ◌∙◌}
use Rattle.std.proofs.lemmas.Result.{IfOk-weaker}
use Rattle.fc_model.specs.NamelessView.{narg_of}
use Rattle.fc_model.specs.Replacing.{expressions, put_in_arg, whole_coercions}
use Rattle.fc_subst.specs.Replacements.{replacement_of}
use Rattle.fc_subst.proofs.Lifting.{lifted_none}
use Rattle.fc_subst.proofs.parts.substitute_in_argument.Goals as goal

pub returns : goal.returns
returns c =
    IfOk-weaker c.argument_with.result _ _ (λ _ h. h ∙ ap (λ r. put_in_arg expressions whole_coercions r (narg_of c.args.argument.now)) (lifted_none (replacement_of c.args.replacement.now))) c.argument_with.ensures
