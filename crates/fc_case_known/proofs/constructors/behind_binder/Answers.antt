use Rattle.std.proofs.Common.{◌∙◌, ap}
use Rattle.std.proofs.lemmas.Result.{IfOk-weaker}
use Rattle.fc_syntax.specs.View.{expr_of}
use Rattle.fc_model.specs.NamelessView.{nargs_of, nexpr_of}
use Rattle.fc_case_known.proofs.Opened.{bound_is}
use Rattle.fc_case_known.proofs.constructors.behind_binder.Goals as goal

pub returns : goal.returns
unfolding expr_of
returns c =
    IfOk-weaker c.substitute_arguments.result _ _
    (λ _ h. h ∙ bound_is c.args.opened.now.lets c.in_ok-values.values (nargs_of c.args.opened.now.parts.now) (nargs_of c.as_slice.result.now) (nexpr_of c.args.body.now) c.in_ok-values.ensures
    (ap nargs_of c.as_slice.ensures ∙ c.in_ok-moved.ensures))
    c.substitute_arguments.ensures
