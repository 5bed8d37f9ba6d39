use Rattle.fc_type_scope.proofs.ScopeKinds.{scope_grows}
use Rattle.fc_type_table.proofs.Numbers.{Grows-further}
use Rattle.fc_lint_context.proofs.Contexts.{context_kinds}
use Rattle.fc_lint_context.proofs.Faults.{part_refuses}
use Rattle.fc_lint_context.proofs.Growing.{stays}
use Rattle.fc_lint_expr.proofs.written.judged_binder.Goals as goal

pub returns-in-Err-clause-says : goal.returns-in-Err-clause-says
returns-in-Err-clause-says c = rw (context_kinds, ← c.requires.context.modules) (part_refuses _ _ _ _ c.deeper.ensures c.in-Err.ensures.says)

pub enter_one-requires : goal.enter_one-requires
enter_one-requires c = scope_grows _ _ c.args.context.now.scope.kinds.now c.in-Ok.ensures.grows.nodes c.requires.context.valid.scope

pub returns-clause-says : goal.returns-clause-says
returns-clause-says c = rw (context_kinds, ← c.requires.context.modules, c.in-Ok.ensures.says)

pub returns-clause-context : goal.returns-clause-context
returns-clause-context c = stays _ _ _ (Grows-further _ _ _ c.in-Ok.ensures.grows c.in_ok-entered.ensures.grows) c.requires.context
