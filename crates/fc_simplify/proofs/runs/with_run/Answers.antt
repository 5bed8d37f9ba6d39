use Rattle.std.proofs.Common.{arith}
use Rattle.fc_let_runs.specs.Runs.{done}
use Rattle.fc_simplify.proofs.runs.with_run.Goals as goal

pub returns-in-None : goal.returns-in-None
returns-in-None c = record { run = done; row_is = λ some. absurd (omega (arith, some)) }
