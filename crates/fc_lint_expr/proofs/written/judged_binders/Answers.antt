use Rattle.std.proofs.Common.{rules}
use Rattle.fc_type_scope.proofs.ScopeKinds.{scope_grows}
use Rattle.fc_type_table.proofs.Numbers.{Grows-further}
use Rattle.fc_lint_context.proofs.Contexts.{context_kinds}
use Rattle.fc_lint_context.proofs.Faults.{refused}
use Rattle.fc_lint_context.proofs.Growing.{stays}
use Rattle.fc_lint_expr.proofs.written.judged_binders.Goals as goal

pub returns-in_err-owed-clause-says : goal.returns-in_err-owed-clause-says
returns-in_err-owed-clause-says c = rw (context_kinds, ← c.requires.context.modules) (refused _ _ _ _ c.in_err-owed.ensures.says (search rules))

pub enter-requires : goal.enter-requires
enter-requires c = scope_grows _ _ c.args.context.now.scope.kinds.now c.in_ok-owed.ensures.grows.nodes c.requires.context.valid.scope

pub returns-clause-says : goal.returns-clause-says
returns-clause-says c = rw (context_kinds, ← c.requires.context.modules) c.in_ok-owed.ensures.says

pub returns-clause-context : goal.returns-clause-context
returns-clause-context c = stays _ _ _ (Grows-further _ _ _ c.in_ok-owed.ensures.grows c.in_ok-entered.ensures.grows) c.requires.context
