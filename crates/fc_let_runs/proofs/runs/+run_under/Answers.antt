use Rattle.std.proofs.Common.{arith, ap, ◌∙◌}
use Rattle.fc_model.specs.Typing.{is_atom}
use Rattle.fc_limits_at_places.specs.Fitting.{nexpr_size}
use Rattle.fc_let_runs.proofs.Steps.{atom_put, first_step, puts_one_more}
use Rattle.fc_let_runs.proofs.runs.+run_under.Goals as goal

pub run_under-requires : goal.run_under-requires
run_under-requires t c = (
  omega (arith, ap nexpr_size c.in-Some.ensures.form, c.decreases),
  puts_one_more _ c.requires _ (ap is_atom c.in_ok-atom.ensures ∙ atom_put _ c.requires _ ∙ c.in-Some.ensures.atom),
)

pub returns-clause-run : goal.returns-clause-run
returns-clause-run t c =
    first_step _ c.requires _ _ _ _ _ _ _ _ c.in-Some.ensures.form c.in-Some.ensures.atom c.in_ok-atom.ensures c.in_ok-count.ensures c.in_ok-rest.ensures.run
