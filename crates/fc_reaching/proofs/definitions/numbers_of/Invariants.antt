use Rattle.std.proofs.Common.{◌≡◌, drop}
use Rattle.fc_syntax.specs.Tree.{Word}
use Rattle.fc_model.specs.Calling.{first_of}
use Rattle.fc_model.specs.NamelessView.{ndecls_of}
use Rattle.fc_reaching.specs.Numbering.{at, number_from}
use Rattle.fc_reaching.proofs.definitions.numbers_of.Given as goal

abbrev pub invariant-loop-number : goal.invariant-loop-number
invariant-loop-number l = (w : Word) → first_of (at l.numbers w) (number_from l.number (ndecls_of (drop l.number l.decls)) w) ≡ number_from 0 (ndecls_of l.decls) w
