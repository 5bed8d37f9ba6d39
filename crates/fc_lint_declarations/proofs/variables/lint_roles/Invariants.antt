use Rattle.std.proofs.Common.{◌≡◌, drop}
use Rattle.fc_model.specs.Linting.{roles_judged}
use Rattle.fc_model.specs.NamelessView.{nparams_of}
use Rattle.fc_roles.specs.NeedViews.{need_at}
use Rattle.fc_lint_declarations.proofs.variables.lint_roles.Given as goal

-- what is still to come answers as the whole
abbrev pub invariant-loop-number : goal.invariant-loop-number
invariant-loop-number l = roles_judged (need_at l.needs) 0 (nparams_of l.params) ≡ roles_judged (need_at l.needs) l.part (nparams_of (drop l.number l.params))
