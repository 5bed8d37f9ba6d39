use Rattle.std.proofs.Common.{ap, sym, ◌∙◌}
use Rattle.std.proofs.lemmas.Result.{IfOk-weaker}
use Rattle.fc_model.specs.NamelessView.{nty_of}
use Rattle.fc_model.specs.Substituting.{substituted_type}
use Rattle.fc_subst.proofs.Lifting.{far_type, near_type, shifted_type_is_put}
use Rattle.fc_subst.proofs.types.+types.Goals as goal

pub type_for-returns-then-number-past : goal.type_for-returns-then-number-past
type_for-returns-then-number-past t c = c.variable.ensures ∙ sym (near_type _ _ _ c.if-number-past.true)

pub type_for-returns-else-number-past : goal.type_for-returns-else-number-past
type_for-returns-else-number-past t c = IfOk-weaker c.type_at.result _ _ (λ _ h. h ∙ sym (far_type _ _ _ c.if-number-past.false)) c.type_at.ensures

pub shifted_type-returns : goal.shifted_type-returns
shifted_type-returns t c = IfOk-weaker c.type_with.result _ _ (λ _ h. h ∙ shifted_type_is_put c.args.past _) c.type_with.ensures

pub type_below-returns : goal.type_below-returns
type_below-returns t c = IfOk-weaker c.type_with.result _ _ (λ _ h. h ∙ ap (λ r. substituted_type r.types (nty_of c.args.t.now)) c.in_ok-below.ensures) c.type_with.ensures
