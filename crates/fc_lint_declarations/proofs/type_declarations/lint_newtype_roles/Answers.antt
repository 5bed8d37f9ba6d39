use Rattle.std.proofs.Common.{◌≡◌, Result, subst}
use Rattle.fc_model.specs.Faulting.{F}
use Rattle.fc_model.specs.Linting.{Done, done, roles_judged}
use Rattle.fc_syntax.specs.declared.ty.Role.TheVariants.{R}
use Rattle.fc_model.specs.NamelessView.{nparams_of, nty_of}
use Rattle.fc_model.specs.Needs.{need_in}
use Rattle.fc_model.specs.Says.{Says}
use Rattle.fc_roles.specs.NeedViews.{need_at}
use Rattle.fc_types.specs.ModuleViews.{modules_of}
use Rattle.fc_lint_declarations.proofs.Params.{roles_alike}
use Rattle.fc_lint_declarations.proofs.type_declarations.lint_newtype_roles.Goals as goal

pub returns : goal.returns
returns c =
    let ms = modules_of c.args.declared.now in
    let needs = need_at c.in_ok-needs.needs in
    let same : roles_judged needs 0 (nparams_of c.args.params.now) ≡ roles_judged (λ p. need_in ms R p (nty_of c.args.t.now)) 0 (nparams_of c.args.params.now) =
    roles_alike needs (λ p. need_in ms R p (nty_of c.args.t.now)) 0 c.args.params.now (λ p low. c.in_ok-needs.ensures p low) in
    subst (λ (r : Result Done F). Says {Y = Done} (λ _. done) c.lint_roles.result r) same c.lint_roles.ensures
