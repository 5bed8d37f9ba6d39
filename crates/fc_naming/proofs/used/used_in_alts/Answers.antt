use Rattle.std.proofs.Common.{rules}
use Rattle.fc_used_words.proofs.Collecting.{alts_below}
use Rattle.fc_naming.proofs.ScopeUses.{alts_walked}
use Rattle.fc_naming.proofs.used.used_in_alts.Goals as goal

pub returns : goal.returns
returns c = alts_walked (alts_below c.in_ok-use_alts.ensures (search rules))
