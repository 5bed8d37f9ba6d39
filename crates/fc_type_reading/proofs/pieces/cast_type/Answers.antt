use Rattle.std.proofs.Common.{◌∙◌, ap, subst, sym}
use Rattle.fc_model.specs.Coercing.{ends_or_fault}
use Rattle.fc_model.specs.NamelessView.{nco_of}
use Rattle.fc_model.specs.Says.{Refuses}
use Rattle.fc_lint_context.proofs.Contexts.{context_kinds}
use Rattle.fc_lint_context.specs.ContextViews.{context_at, modules_of_context}
use Rattle.fc_type_table.specs.TypeTables.{nodes_of}
use Rattle.fc_type_reading.proofs.Steps.{cast-refused, cast-some}
use Rattle.fc_type_reading.proofs.pieces.cast_type.Goals as goal

pub returns-in-Ok-clause-view : goal.returns-in-Ok-clause-view
returns-in-Ok-clause-view c =
    let ctx = c.args.context.now in
    let here = context_at (nodes_of c.args.types.now) ctx in
    cast-some _ _ (ap (λ ks. ends_or_fault (modules_of_context ctx) ks here.coercions (nco_of c.args.g.now)) (context_kinds (nodes_of c.args.types.now) ctx) ∙ c.in-Ok.ensures.says)

pub returns-clause-view : goal.returns-clause-view
returns-clause-view c =
    let ctx = c.args.context.now in
    let here = context_at (nodes_of c.args.types.now) ctx in
    let e = c.in-Err-Flaw.field-0 in
    cast-refused _ e c.in-Err-Flaw.field-0-0 c.in-Err-Flaw.field-0-is
    (subst (λ ks. Refuses e (ends_or_fault (modules_of_context ctx) ks here.coercions (nco_of c.args.g.now))) (sym (context_kinds (nodes_of c.args.types.now) ctx)) c.in-Err-Flaw.ensures.says)
