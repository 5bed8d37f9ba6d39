use Rattle.std.proofs.Common.{rules, ◌≡◌, Some, ap}
use Rattle.std.specs.Prelude.{slice_get}
use Rattle.fc_apply.proofs.Applied.{set_back}
use Rattle.fc_apply.proofs.applying.put_within_limits.Goals as goal

pub returns-in_default-clause-unchanged : goal.returns-in_default-clause-unchanged
returns-in_default-clause-unchanged c other =
    let there : slice_get c.args.module.now.decls c.args.number ≡ Some c.replace-old.result = search rules in
    ap (λ ds. record c.args.module.now { decls = ds }) (set_back c.args.module.now.decls c.args.number c.replace-old.result c.replace-old.new.dest there)
