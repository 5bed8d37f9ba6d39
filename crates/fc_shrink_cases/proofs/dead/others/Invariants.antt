use Rattle.std.proofs.Common.{◌≡◌, ◌++◌, take}
use Rattle.fc_syntax.specs.View.{alts_of}
use Rattle.fc_shrink_cases.proofs.dead.others.Given as goal

abbrev pub invariant-loop-alternative : goal.invariant-loop-alternative
invariant-loop-alternative l = alts_of l.copies ≡ alts_of (take l.number l.alternatives ++ take l.alternative-index l.after)
