use Rattle.std.proofs.Common.{rules, ◌≡◌, ap, sym, ◌∙◌}
use Rattle.std.proofs.lemmas.Result.{IfOk-weaker}
use Rattle.fc_syntax.proofs.View.{view_rules}
use Rattle.fc_syntax.specs.View.{kind_of}
use Rattle.fc_model.specs.Nameless.{NGAll}
use Rattle.fc_model.specs.NamelessView.{nco_of}
use Rattle.fc_model.specs.Replacing.{replaced_coercion}
use Rattle.fc_model.specs.Worded.{bare_co}
use Rattle.fc_subst.specs.Replacements.{lifted_of}
use Rattle.fc_subst.proofs.Lifting.{far_coercion, near_coercion, shifted_coercion_is_put}
use Rattle.fc_subst.proofs.Pieces.{all_same}
use Rattle.fc_subst.proofs.coercions.+coercions.Goals as goal

pub coercion_for-returns-then-number-past : goal.coercion_for-returns-then-number-past
coercion_for-returns-then-number-past t c = c.variable.ensures ∙ sym (near_coercion _ _ _ c.if-number-past.true)

pub coercion_for-returns-else-number-past : goal.coercion_for-returns-else-number-past
coercion_for-returns-else-number-past t c = IfOk-weaker c.coercion_at.result _ _ (λ _ h. h ∙ sym (far_coercion _ _ _ c.if-number-past.false)) c.coercion_at.ensures

pub shifted_coercion-returns : goal.shifted_coercion-returns
shifted_coercion-returns t c = IfOk-weaker c.coercion_with.result _ _ (λ _ h. h ∙ shifted_coercion_is_put c.args.past _) c.coercion_with.ensures

pub for_all_with-returns : goal.for_all_with-returns
for_all_with-returns t c = IfOk-weaker c.for_all.result _ _ (λ _ h. ap bare_co h ∙ all_same c.in_ok-kind.ensures c.in_ok-g.ensures) c.for_all.ensures

pub coercion_with-returns-in-AllCo : goal.coercion_with-returns-in-AllCo
coercion_with-returns-in-AllCo t c =
    let given : nco_of c.args.g.now ≡ NGAll (kind_of c.in-AllCo.kind) (nco_of c.deref-in-AllCo.result.now) = search (rules, view_rules) in
    IfOk-weaker c.for_all_with.result _ _ (λ _ h. h ∙ ap (λ z. replaced_coercion (lifted_of c.args.by.now).types (lifted_of c.args.by.now).coercions z) (sym given)) c.for_all_with.ensures

pub coercion_below-returns : goal.coercion_below-returns
coercion_below-returns t c = IfOk-weaker c.coercion_with.result _ _ (λ _ h. h ∙ ap (λ r. replaced_coercion r.types r.coercions (nco_of c.args.g.now)) c.in_ok-below.ensures) c.coercion_with.ensures
