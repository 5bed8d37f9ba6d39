use Rattle.std.proofs.Common.{Some, sym, ap, ap₂, ◌∙◌}
use Rattle.fc_model.specs.Nameless.{NApp, NLet}
use Rattle.fc_model.specs.NamelessView.{narg_of, nbinds_of, nexpr_of}
use Rattle.fc_model.specs.Replacing.{bind_count}
use Rattle.fc_model.specs.Worded.{bare_binds, bare_expr}
use Rattle.fc_numbers.proofs.Counted.{binds_counted}
use Rattle.fc_commute.proofs.Moved.{argument_moved}
use Rattle.fc_commute.proofs.Rows.{app_of_let_made}
use Rattle.fc_commute.proofs.outward.application_of_let.Goals as goal

pub returns : goal.returns
returns c =
    let outer = c.in-Some.application in
    let inner = c.in-Some-as_binding.binding in
    let binds = inner.bindings.now in
    let argument = narg_of outer.argument.now in
    let count = c.in_ok-number.ensures ∙ sym (binds_counted binds) in
    let moved = c.in_ok-argument.ensures ∙ argument_moved c.in_ok-number.field-0 (bind_count (nbinds_of binds)) argument count in
    let body = ap bare_expr c.in_ok-body.ensures ∙ ap₂ NApp (ap bare_expr c.in_ok-head.ensures) moved in
    ap Some (ap bare_expr c.in_ok-binding.ensures ∙ ap₂ (NLet inner.recursive) (ap bare_binds c.in_ok-bindings.ensures) body)
    ∙ app_of_let_made (nexpr_of c.args.e.now) (nexpr_of outer.head.now) argument inner.recursive (nbinds_of binds) (nexpr_of inner.body.now) c.in-Some.ensures c.in-Some-as_binding.ensures
