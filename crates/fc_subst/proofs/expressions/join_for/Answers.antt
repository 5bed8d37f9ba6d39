use Rattle.std.proofs.Common.{◌+◌, ap, sym, ◌∙◌}
use Rattle.std.proofs.lemmas.Result.{IfOk-weaker}
use Rattle.fc_subst.proofs.Lifting.{far_join, near_join}
use Rattle.fc_subst.proofs.expressions.join_for.Goals as goal

pub returns-then-number-past : goal.returns-then-number-past
returns-then-number-past c = sym (near_join _ _ _ c.if-number-past.true)

pub returns-in_ok-number : goal.returns-in_ok-number
returns-in_ok-number c =
    IfOk-weaker c.sum.result _ _ (λ _ h. h ∙ ap (λ n. n + c.args.by.now.past.joins) c.in_ok-number.ensures ∙ sym (far_join _ _ _ c.if-number-past.false)) c.sum.ensures
