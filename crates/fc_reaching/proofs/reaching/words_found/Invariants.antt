use Rattle.std.proofs.Common.{◌≡◌, take}
use Rattle.std.specs.List.{filter}
use Rattle.fc_model.specs.NamelessView.{ndecls_of}
use Rattle.fc_reaching.specs.DefinitionsView.{number_by}
use Rattle.fc_reaching.specs.Numbering.{has_mark}
use Rattle.fc_reaching.specs.Reaching.{defined_words}
use Rattle.fc_reaching.proofs.reaching.words_found.Given as goal

abbrev pub invariant-loop-decl : goal.invariant-loop-decl
invariant-loop-decl l = l.words ≡ filter (has_mark (number_by l.definitions) l.marks) (defined_words (ndecls_of (take l.decl-index l.decls)))
