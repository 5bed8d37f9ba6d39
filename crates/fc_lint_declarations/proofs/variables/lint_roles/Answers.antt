use Rattle.std.proofs.Common.{rules, ◌∙◌}
use Rattle.fc_roles.specs.NeedViews.{need_at}
use Rattle.fc_lint_declarations.proofs.Params.{roles_more}
use Rattle.fc_lint_declarations.proofs.variables.lint_roles.Goals as goal

pub returns-in_err-lint_role : goal.returns-in_err-lint_role
returns-in_err-lint_role c =
    rw (c.loop-number.invariant ∙ roles_more (need_at c.args.needs.now) c.loop-number.part c.loop-number.number c.args.params.now c.index-params-number.result c.loop-number-test.true c.index-params-number.is) (search rules)
