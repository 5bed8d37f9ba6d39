use Rattle.std.proofs.Common.{refl}
use Rattle.fc_build.proofs.LineLemmas.{stopped_last}
use Rattle.fc_build.proofs.lines.tell_line.Goals as goal

pub returns-in-Failed-clause-line : goal.returns-in-Failed-clause-line
returns-in-Failed-clause-line g c = stopped_last c.args.line.now _ _ _ _ c.in-Failed.ensures.takes (c.in-Failed.ensures.cause refl)
