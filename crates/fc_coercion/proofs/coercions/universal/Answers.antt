use Rattle.std.proofs.Common.{◌≡◌, rules, true, false}
use Rattle.fc_syntax.specs.declared.fault.FaultKind.TheVariants.{KindsDiffer}
use Rattle.fc_lint_context.proofs.Faults.{fails, flaw_refuses}
use Rattle.fc_lint_context.proofs.Growing.{stays}
use Rattle.fc_type_scope.proofs.Growing.{shown-grows}
use Rattle.fc_type_scope.proofs.ScopeKinds.{scope_grows}
use Rattle.fc_type_table.proofs.Numbers.{Grows-further, IsKindAt-grows, kind_at-grows}
use Rattle.fc_coercion.proofs.coercions.universal.Goals as goal

pub kinded_part-requires-2 : goal.kinded_part-requires-2
kinded_part-requires-2 c = scope_grows _ _ c.args.context.now.scope.kinds.now c.in_ok-left.ensures.grows.nodes c.requires.context.valid.scope

pub returns-in_err-left-clause-says : goal.returns-in_err-left-clause-says
returns-in_err-left-clause-says c = rw (← c.requires.context.modules) (fails _ _ _ _ _ c.in_err-left.ensures.says (search rules))

pub returns-in_err-right-clause-says : goal.returns-in_err-right-clause-says
returns-in_err-right-clause-says c =
    rw (← c.requires.context.modules, c.in_ok-left.ensures.says, ← c.in_ok-left.ensures.grows.modules) (fails _ _ _ _ _ c.in_err-right.ensures.says (search rules))

pub returns-then-not-same_kind-clause-says : goal.returns-then-not-same_kind-clause-says
returns-then-not-same_kind-clause-says c =
    let left = c.in_ok-left.ensures in
    let right = c.in_ok-right.ensures in
    let compared = c.same_kind.ensures (IsKindAt-grows _ _ _ right.grows.nodes left.is_kind) right.is_kind in
    let different : c.same_kind.result ≡ false = search rules in
    rw (← c.requires.context.modules, left.says, ← left.grows.modules, right.says, ← kind_at-grows _ _ _ right.grows.nodes left.is_kind, ← compared, different) (flaw_refuses _ KindsDiffer _ c.flaw_here.ensures)

pub returns-clause-says : goal.returns-clause-says
returns-clause-says c =
    let left = c.in_ok-left.ensures in
    let right = c.in_ok-right.ensures in
    let compared = c.same_kind.ensures (IsKindAt-grows _ _ _ right.grows.nodes left.is_kind) right.is_kind in
    let same : c.same_kind.result ≡ true = search rules in
    rw (← c.requires.context.modules, left.says, ← left.grows.modules, right.says, ← kind_at-grows _ _ _ right.grows.nodes left.is_kind, ← compared, same, shown-grows _ _ _ _ right.grows left.valid, left.view, right.view)

pub returns-clause-context : goal.returns-clause-context
returns-clause-context c = stays _ _ _ (Grows-further _ _ _ c.in_ok-left.ensures.grows c.in_ok-right.ensures.grows) c.requires.context
