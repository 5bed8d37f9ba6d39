use Rattle.std.proofs.Common.{◌≡◌, ◌++◌, drop}
use Rattle.fc_model.specs.NamelessView.{ndecls_of}
use Rattle.fc_reaching.specs.DefinitionsView.{number_by}
use Rattle.fc_reaching.specs.Firsts.{firsts_from}
use Rattle.fc_reaching.proofs.firsts.firsts_among.Given as goal

abbrev pub invariant-loop-number : goal.invariant-loop-number
invariant-loop-number l = l.marks.items ++ firsts_from (number_by l.definitions) l.number (ndecls_of (drop l.number l.decls)) ≡ firsts_from (number_by l.definitions) 0 (ndecls_of l.decls)
