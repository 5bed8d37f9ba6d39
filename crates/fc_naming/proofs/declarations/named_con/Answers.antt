use Rattle.std.proofs.Common.{ap}
use Rattle.fc_syntax.specs.View.{tys_of}
use Rattle.fc_naming.proofs.NamedDeclarations.{named_con}
use Rattle.fc_naming.proofs.declarations.named_con.Goals as goal

pub returns : goal.returns
returns c = named_con c.in_ok-named.ensures c.in_ok-fields.ensures (ap tys_of c.as_slice.ensures) c.in_ok-name.ensures
