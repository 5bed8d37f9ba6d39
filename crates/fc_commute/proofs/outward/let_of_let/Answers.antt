use Rattle.std.proofs.Common.{Some, sym, ap, ap₂, ◌∙◌}
use Rattle.fc_model.specs.Nameless.{NLet}
use Rattle.fc_model.specs.NamelessView.{nbinds_of, nexpr_of, nty_of}
use Rattle.fc_model.specs.Replacing.{below_values, coercion_variables, renamed, variables}
use Rattle.fc_model.specs.Worded.{bare_binds, bare_expr, bare_ty}
use Rattle.fc_numbers.proofs.Counted.{binds_counted}
use Rattle.fc_rows.specs.Surroundings.{past_values}
use Rattle.fc_commute.proofs.Rows.{let_of_let_made, let_of_same}
use Rattle.fc_commute.proofs.outward.let_of_let.Goals as goal

pub returns : goal.returns
returns c =
    let outer = c.in-Some.outer in
    let inner = c.in-Some-as_binding.inner in
    let binds = inner.bindings.now in
    let rest = nexpr_of outer.body.now in
    let count = c.in_ok-number.ensures ∙ sym (binds_counted binds) in
    let moved = c.in_ok-body.ensures ∙ ap (λ n. renamed (below_values variables coercion_variables 1 (past_values n)) rest) count in
    let body = c.in_ok-within.ensures ∙ let_of_same _ _ _ _ _ _ (ap bare_ty c.in_ok-ty.ensures) (ap bare_expr c.in_ok-value.ensures) moved in
    ap Some (ap bare_expr c.in_ok-binding.ensures ∙ ap₂ (NLet inner.recursive) (ap bare_binds c.in_ok-bindings.ensures) body)
    ∙ let_of_let_made (nexpr_of c.args.e.now) (nexpr_of outer.binding.now.rhs) rest (nty_of outer.binding.now.ty) inner.recursive (nbinds_of binds) (nexpr_of inner.body.now)
    c.in-Some.ensures c.in-Some-as_binding.ensures c.if-not-is_value_behind_lets.ensures
