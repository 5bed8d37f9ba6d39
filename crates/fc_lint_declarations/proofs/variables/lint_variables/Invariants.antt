use Rattle.std.proofs.Common.{◌≡◌, drop}
use Rattle.fc_model.specs.Linting.{variables_judged}
use Rattle.fc_type_table.specs.InScope.{own_kinds}
use Rattle.fc_lint_declarations.proofs.variables.lint_variables.Given as goal

-- what is still to come answers as the whole
abbrev pub invariant-loop-variable : goal.invariant-loop-variable
invariant-loop-variable l = variables_judged 0 (own_kinds l.variables) ≡ variables_judged l.part (own_kinds (drop l.variable-index l.variables))
