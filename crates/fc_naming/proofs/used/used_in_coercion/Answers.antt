use Rattle.std.proofs.Common.{rules}
use Rattle.fc_used_words.proofs.Collecting.{co_below}
use Rattle.fc_naming.proofs.ScopeUses.{coercion_walked}
use Rattle.fc_naming.proofs.used.used_in_coercion.Goals as goal

pub returns : goal.returns
returns c = coercion_walked (co_below c.in_ok-use_co.ensures (search rules))
