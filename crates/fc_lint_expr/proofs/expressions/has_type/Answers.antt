use Rattle.std.proofs.Common.{subst, sym}
use Rattle.fc_type_table.proofs.Numbers.{IsTypeAt-grows, shown_at-grows}
use Rattle.fc_type_table.specs.Scopes.{IsTypeAt}
use Rattle.fc_type_table.specs.TypeTables.{nodes_of}
use Rattle.fc_lint_context.proofs.Contexts.{scope_is}
use Rattle.fc_lint_expr.proofs.expressions.has_type.Goals as goal

pub same-requires-clause-right_in : goal.same-requires-clause-right_in
same-requires-clause-right_in c = subst (λ ks. IsTypeAt (nodes_of c.read.new.types) ks c.in_ok-found.found.0) (sym (scope_is _)) (IsTypeAt-grows _ _ _ _ c.in_ok-wanted.ensures.grows.nodes c.in_ok-found.ensures.valid)

pub returns-clause-says : goal.returns-clause-says
returns-clause-says c =
    let found = shown_at-grows _ _ _ _ c.in_ok-wanted.ensures.grows.nodes c.in_ok-found.ensures.valid in
    let same = rw (c.in_ok-wanted.ensures.view, scope_is, found) at c.same.ensures in
    rw (c.in_ok-found.ensures.says, same)
