use Rattle.std.proofs.Common.{◌≡◌, map, take}
use Rattle.fc_model.specs.NamelessView.{ndecls_of}
use Rattle.fc_reaching.specs.DefinitionsView.{number_by}
use Rattle.fc_reaching.specs.Numbering.{has_mark}
use Rattle.fc_reaching.specs.Remaining.{defines_other}
use Rattle.fc_reaching.proofs.remaining.left_over.Given as goal

abbrev pub invariant-loop-decl : goal.invariant-loop-decl
invariant-loop-decl l = l.left.items ≡ map (defines_other (has_mark (number_by l.definitions) l.marks)) (ndecls_of (take l.decl-index l.decls))
