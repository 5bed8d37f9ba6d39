use Rattle.std.proofs.Common.{rules, ◌∙◌}
use Rattle.std.proofs.lemmas.Result.{IfOk-weaker}
use Rattle.fc_syntax.proofs.View.{view_rules}
use Rattle.fc_model.specs.NamelessView.{nexpr_of}
use Rattle.fc_commute_types.proofs.Moved.{moved_below_one}
use Rattle.fc_commute_types.proofs.fields.past_below_one.Goals as goal

pub returns : goal.returns
returns c =
    IfOk-weaker c.substitute.result _ _
    (λ _ h. h ∙ moved_below_one _ (nexpr_of c.args.e.now) (search (rules, view_rules)))
    c.substitute.ensures
