use Rattle.std.proofs.Common.{ap, ◌∙◌}
use Rattle.std.proofs.lemmas.Result.{IfOk-weaker}
use Rattle.fc_model.specs.NamelessView.{nargs_of}
use Rattle.fc_model.specs.Replacing.{expressions, put_in_args, whole_coercions}
use Rattle.fc_subst.specs.Replacements.{replacement_of}
use Rattle.fc_subst.proofs.Lifting.{lifted_none}
use Rattle.fc_subst.proofs.parts.substitute_in_arguments.Goals as goal

pub returns : goal.returns
returns c =
    IfOk-weaker c.arguments_with.result _ _ (λ _ h. h ∙ ap (λ r. put_in_args expressions whole_coercions r (nargs_of c.args.arguments.now)) (lifted_none (replacement_of c.args.replacement.now))) c.arguments_with.ensures
