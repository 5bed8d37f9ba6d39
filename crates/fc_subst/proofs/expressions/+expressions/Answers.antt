use Rattle.std.proofs.Common.{rules, ◌≡◌, ap, ◌∙◌, sym}
use Rattle.std.proofs.lemmas.Result.{IfOk-weaker}
use Rattle.fc_model.specs.Nameless.{NCase}
use Rattle.fc_model.specs.NamelessView.{nexpr_of, nbinds_of, njoins_of, nty_of, nalts_of}
use Rattle.fc_syntax.proofs.View.{view_rules}
use Rattle.fc_model.specs.Replacing.{replaced, bind_count, join_count}
use Rattle.fc_model.specs.Worded.{bare_expr}
use Rattle.fc_numbers.proofs.Counted.{binds_counted, joins_counted}
use Rattle.fc_subst.specs.Replacements.{lifted_of}
use Rattle.fc_subst.proofs.Lifting.{far_value, near_value, shifted_value_is_put}
use Rattle.fc_subst.proofs.Pieces.{body_same, case_same, join_body_same, join_members_same, join_same, let_same, members_same}
use Rattle.fc_subst.proofs.expressions.+expressions.Goals as goal

pub value_for-returns-then-number-past : goal.value_for-returns-then-number-past
value_for-returns-then-number-past t c = c.local.ensures ∙ sym (near_value _ _ _ c.if-number-past.true)

pub value_for-returns-else-number-past : goal.value_for-returns-else-number-past
value_for-returns-else-number-past t c = IfOk-weaker c.value_at.result _ _ (λ _ h. h ∙ sym (far_value _ _ _ c.if-number-past.false)) c.value_at.ensures

pub shifted_expression-returns : goal.shifted_expression-returns
shifted_expression-returns t c = IfOk-weaker c.expression_with.result _ _ (λ _ h. h ∙ shifted_value_is_put c.args.past _) c.expression_with.ensures

pub case_with-returns : goal.case_with-returns
case_with-returns t c =
    IfOk-weaker c.case_of.result _ _ (λ _ h. ap bare_expr h ∙ case_same c.in_ok-scrutinee.ensures c.in_ok-ty.ensures c.in_ok-answer.ensures c.in_ok-branches.ensures) c.case_of.ensures

pub let_with-returns : goal.let_with-returns
let_with-returns t c =
    let count : c.in_ok-count.count ≡ bind_count (nbinds_of c.args.binds.now) = c.in_ok-count.ensures ∙ sym (binds_counted c.args.binds.now) in
    IfOk-weaker c.binding.result _ _
    (λ _ h. ap bare_expr h ∙ let_same
    (members_same c.args.recursive c.in_ok-count.count (nbinds_of c.args.binds.now) (lifted_of c.args.by.now) (nbinds_of c.in_ok-members.members) count c.in_ok-members.ensures)
    (body_same c.in_ok-count.count (bind_count (nbinds_of c.args.binds.now)) (lifted_of c.args.by.now) (nexpr_of c.args.e.now) (nexpr_of c.in_ok-body.body) count c.in_ok-body.ensures))
    c.binding.ensures

pub join_with-returns : goal.join_with-returns
join_with-returns t c =
    let count : c.in_ok-count.count ≡ join_count (njoins_of c.args.joins.now) = c.in_ok-count.ensures ∙ sym (joins_counted c.args.joins.now) in
    IfOk-weaker c.joined.result _ _
    (λ _ h. ap bare_expr h ∙ join_same c.in_ok-ty.ensures
    (join_members_same c.args.recursive c.in_ok-count.count (njoins_of c.args.joins.now) (lifted_of c.args.by.now) (njoins_of c.in_ok-members.members) count c.in_ok-members.ensures)
    (join_body_same c.in_ok-count.count (join_count (njoins_of c.args.joins.now)) (lifted_of c.args.by.now) (nexpr_of c.args.e.now) (nexpr_of c.in_ok-body.body) count c.in_ok-body.ensures))
    c.joined.ensures

pub expression_with-returns-in-Case : goal.expression_with-returns-in-Case
expression_with-returns-in-Case t c =
    let given : nexpr_of c.args.e.now ≡ NCase (nexpr_of c.deref-in-Case.result.now) (nty_of c.in-Case.t) (nty_of c.in-Case.u) (nalts_of c.as_slice-in-Case.result.now) = search (rules, view_rules) in
    IfOk-weaker c.case_with.result _ _ (λ _ h. h ∙ ap (λ z. replaced (lifted_of c.args.by.now) z) (sym given)) c.case_with.ensures
