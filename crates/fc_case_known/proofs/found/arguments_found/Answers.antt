use Rattle.std.proofs.Common.{◌∙◌, ap}
use Rattle.std.proofs.lemmas.Result.{IfOk-weaker}
use Rattle.fc_model.specs.NamelessView.{nargs_of, nty_of}
use Rattle.fc_rows.specs.Shrinking.{moved_args}
use Rattle.fc_subst.specs.Replacements.{renaming_of}
use Rattle.fc_case_known.proofs.Parts.{all_there}
use Rattle.fc_case_known.proofs.found.arguments_found.Goals as goal

pub returns : goal.returns
returns c =
    IfOk-weaker c.past.result _ _
    (λ _ h. h ∙ ap (moved_args (renaming_of c.args.by)) (ap nargs_of c.as_slice.ensures ∙ all_there c.args.branch.now.alternative.now.binders c.as_slice-binders.result.now c.in_ok-own.own (nty_of c.args.branch.now.ty.now) _ _ _
    c.as_slice-binders.ensures c.in_ok-own.ensures c.new-args.ensures c.in_ok-add_types.ensures c.in_ok-add_binders.ensures))
    c.past.ensures
