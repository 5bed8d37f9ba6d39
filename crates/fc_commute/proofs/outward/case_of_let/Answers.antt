use Rattle.std.proofs.Common.{Some, sym, ap, ap₂, ◌∙◌}
use Rattle.fc_model.specs.Nameless.{NLet}
use Rattle.fc_model.specs.NamelessView.{nalts_of, nbinds_of, nexpr_of, nty_of}
use Rattle.fc_model.specs.Replacing.{bind_count}
use Rattle.fc_model.specs.Worded.{bare_binds, bare_expr, bare_ty}
use Rattle.fc_numbers.proofs.Counted.{binds_counted}
use Rattle.fc_forms.proofs.Parts.{same_case}
use Rattle.fc_commute.proofs.Moved.{alternatives_moved}
use Rattle.fc_commute.proofs.Rows.{case_of_let_made}
use Rattle.fc_commute.proofs.outward.case_of_let.Goals as goal

pub returns : goal.returns
returns c =
    let outer = c.in-Some.case in
    let inner = c.in-Some-as_binding.binding in
    let binds = inner.bindings.now in
    let alternatives = nalts_of outer.alternatives.now in
    let count = c.in_ok-number.ensures ∙ sym (binds_counted binds) in
    let moved = c.in_ok-alternatives.ensures ∙ alternatives_moved c.in_ok-number.field-0 (bind_count (nbinds_of binds)) alternatives count in
    let body = ap bare_expr c.in_ok-body.ensures ∙ same_case (ap bare_expr c.in_ok-scrutinee.ensures) (ap bare_ty c.in_ok-ty.ensures) (ap bare_ty c.in_ok-answer.ensures) moved in
    ap Some (ap bare_expr c.in_ok-binding.ensures ∙ ap₂ (NLet inner.recursive) (ap bare_binds c.in_ok-bindings.ensures) body)
    ∙ case_of_let_made (nexpr_of c.args.e.now) (nexpr_of outer.scrutinee.now) (nty_of outer.ty.now) (nty_of outer.answer.now) alternatives inner.recursive (nbinds_of binds) (nexpr_of inner.body.now)
    c.in-Some.ensures c.in-Some-as_binding.ensures
