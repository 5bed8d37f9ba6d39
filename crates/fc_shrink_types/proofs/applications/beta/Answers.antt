use Rattle.std.proofs.Common.{Some, ap, ap₂, ◌∙◌, sym}
use Rattle.fc_model.specs.Nameless.{NApp, NLam}
use Rattle.fc_model.specs.NamelessView.{narg_of, nbinder_of, nexpr_of, nty_of}
use Rattle.fc_rows.specs.Shrinking.{beta}
use Rattle.fc_lint_context.specs.ContextViews.{modules_of_context}
use Rattle.fc_shrink_types.proofs.Rows.{applied_lambda, type_is_put}
use Rattle.fc_shrink_types.proofs.applications.beta.Goals as goal

pub returns-in_ok-substitute-in-OfType-OfType-clause-view : goal.returns-in_ok-substitute-in-OfType-OfType-clause-view
returns-in_ok-substitute-in-OfType-OfType-clause-view c s is =
    let body = nexpr_of c.in-Some-as_lambda.lambda.body.now in
    let whole = applied_lambda (modules_of_context c.args.context.now) s (nexpr_of c.args.e.now) _ _ c.in-Some.ensures c.in-Some-as_lambda.ensures ∙ ap₂ (λ b a. NApp (NLam (nbinder_of b) body) (narg_of a)) c.in-OfType-OfType.is-0 c.in-OfType-OfType.is-1 in
    ap Some (c.in_ok-substitute-in-OfType-OfType.ensures ∙ sym (type_is_put (nty_of c.in-OfType-OfType.t) body))
    ∙ sym (ap (beta (modules_of_context c.args.context.now) s) whole)
