use Rattle.std.proofs.Common.{if◌then◌else◌, Some, None, ap, ◌∙◌, sym, subst}
use Rattle.fc_model.specs.Coercing.{ends_or_fault}
use Rattle.fc_model.specs.NamelessView.{nco_of, nexpr_of}
use Rattle.fc_model.specs.Says.{Refuses}
use Rattle.fc_model.specs.Worded.{bare_expr}
use Rattle.fc_type_scope.specs.Scopes.{scope_in}
use Rattle.fc_lint_context.specs.ContextViews.{context_in, modules_of_context}
use Rattle.fc_forms.specs.Forms.{cast_of}
use Rattle.fc_shrink_types.proofs.Judged.{judged}
use Rattle.fc_shrink_types.proofs.Rows.{cast_made}
use Rattle.fc_shrink_types.proofs.casts.cast_refl.Goals as goal

pub returns-then-same-clause-view : goal.returns-then-same-clause-view
returns-then-same-clause-view c s is =
    let ctx = c.args.context.now in
    let ends = c.in-Ok.ensures in
    ap (λ e. Some (bare_expr e)) c.in_ok-copy_expr-in-Ok.ensures
    ∙ sym (ap (λ b. if b then Some (nexpr_of c.in-Some.cast.inner.now) else None) (sym (c.same.ensures (scope_in ctx.scope) ends.valid.left ends.valid.right) ∙ c.if-same.true))
    ∙ sym (cast_made (modules_of_context ctx) s (nexpr_of c.args.e.now) (cast_of c.in-Some.cast) _ c.in-Some.ensures (judged c.args.types.now ctx s (nco_of c.in-Some.cast.coercion.now) _ is ends.says))

pub returns-in-Ok-clause-view : goal.returns-in-Ok-clause-view
returns-in-Ok-clause-view c s is =
    let ctx = c.args.context.now in
    let ends = c.in-Ok.ensures in
    sym (ap (λ b. if b then Some (nexpr_of c.in-Some.cast.inner.now) else None) (sym (c.same.ensures (scope_in ctx.scope) ends.valid.left ends.valid.right) ∙ c.if-same.false))
    ∙ sym (cast_made (modules_of_context ctx) s (nexpr_of c.args.e.now) (cast_of c.in-Some.cast) _ c.in-Some.ensures (judged c.args.types.now ctx s (nco_of c.in-Some.cast.coercion.now) _ is ends.says))

pub returns-clause-view : goal.returns-clause-view
returns-clause-view c s is =
    let ctx = c.args.context.now in
    sym (cast_made (modules_of_context ctx) s (nexpr_of c.args.e.now) (cast_of c.in-Some.cast) _ c.in-Some.ensures
    (judged c.args.types.now ctx s (nco_of c.in-Some.cast.coercion.now) _ is (subst (λ x. Refuses x (ends_or_fault (modules_of_context ctx) (scope_in ctx.scope) (context_in c.args.types.now ctx).coercions (nco_of c.in-Some.cast.coercion.now))) c.in-Err-Flaw.field-0-is c.in-Err-Flaw.ensures.says)))
