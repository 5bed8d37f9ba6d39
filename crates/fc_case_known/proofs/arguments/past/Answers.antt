use Rattle.std.proofs.Common.{◌∙◌, sym}
use Rattle.std.proofs.lemmas.Result.{IfOk-weaker}
use Rattle.fc_model.specs.NamelessView.{nargs_of}
use Rattle.fc_case_known.proofs.Parts.{past_is_put}
use Rattle.fc_case_known.proofs.arguments.past.Goals as goal

pub returns : goal.returns
returns c = IfOk-weaker c.substitute_in_arguments.result _ _ (λ _ h. h ∙ sym (past_is_put c.args.by (nargs_of c.args.args.now))) c.substitute_in_arguments.ensures
