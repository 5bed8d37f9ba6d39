use Rattle.std.proofs.Common.{ap, ◌∙◌}
use Rattle.fc_let_runs.specs.Runs.{is_let_of_atom}
use Rattle.fc_let_runs.proofs.Steps.{let_of_atom_put, no_step}
use Rattle.fc_let_runs.proofs.runs.without_lets.Goals as goal

pub returns-clause-run : goal.returns-clause-run
returns-clause-run c = no_step _ _ c.in_ok-new.ensures

pub returns-clause-all : goal.returns-clause-all
returns-clause-all c = ap is_let_of_atom c.in_ok-new.ensures ∙ let_of_atom_put _ c.requires.atoms _ ∙ c.requires.apart
