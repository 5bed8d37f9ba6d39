-- What a coercion proves in surroundings whose context is that of code.
use Rattle.std.proofs.Common.{◌≡◌, Result, ap, ◌∙◌}
use Rattle.fc_model.specs.Coercing.{Ends, ends_or_fault}
use Rattle.fc_model.specs.Faulting.{F}
use Rattle.fc_model.specs.Nameless.{NCo}
use Rattle.fc_rows.specs.Surroundings.{Surroundings}
use Rattle.fc_type_scope.specs.Scopes.{scope_in}
use Rattle.fc_type_table.specs.TypeTables.{nodes_of}
use Rattle.fc_type_table.specs.declared.table.TypeTable.{TypeTable}
use Rattle.fc_lint_context.proofs.Contexts.{context_kinds}
use Rattle.fc_lint_context.specs.ContextViews.{context_in, modules_of_context}
use Rattle.fc_lint_context.specs.declared.context.Context as code

pub judged : (types : TypeTable) (ctx : code.Context) (s : Surroundings) (g : NCo) (r : Result Ends F) → s.context ≡ context_in types ctx
    → ends_or_fault (modules_of_context ctx) (scope_in ctx.scope) (context_in types ctx).coercions g ≡ r → ends_or_fault (modules_of_context ctx) s.context.kinds s.context.coercions g ≡ r
judged types ctx s g r is says =
    ap (λ x. ends_or_fault (modules_of_context ctx) x.kinds x.coercions g) is
    ∙ ap (λ ks. ends_or_fault (modules_of_context ctx) ks (context_in types ctx).coercions g) (context_kinds (nodes_of types) ctx)
    ∙ says
