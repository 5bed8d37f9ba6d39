use Rattle.std.proofs.Common.{rules}
use Rattle.fc_used_words.proofs.Collecting.{ty_below}
use Rattle.fc_naming.proofs.ScopeUses.{type_walked}
use Rattle.fc_naming.proofs.used.used_in_type.Goals as goal

pub returns : goal.returns
returns c = type_walked (ty_below c.in_ok-use_ty.ensures (search rules))
