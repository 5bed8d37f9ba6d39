use Rattle.std.proofs.Common.{◌≡◌, drop}
use Rattle.fc_model.specs.DeclaredWords.{words_by_space}
use Rattle.fc_model.specs.NamelessView.{ndecls_of}
use Rattle.fc_model.specs.Resolution.{no_words}
use Rattle.fc_scoped.specs.Testing.{declare_distinct}
use Rattle.fc_scoped.proofs.words.are_words_distinct.Given as goal

-- what is still to come is distinct behind what was, where all are
abbrev pub invariant-loop-decl : goal.invariant-loop-decl
invariant-loop-decl l = declare_distinct (words_by_space l.spaces) (ndecls_of (drop l.decl-index l.decls)) ≡ declare_distinct no_words (ndecls_of l.decls)
