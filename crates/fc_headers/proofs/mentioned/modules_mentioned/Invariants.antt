use Rattle.std.proofs.Common.{◌≡◌, drop}
use Rattle.fc_model.specs.NamelessView.{ndecls_of}
use Rattle.fc_model.specs.Resolution.{no_word, plus_all}
use Rattle.fc_model.specs.WordSets.{set_of}
use Rattle.fc_headers.specs.NamelessHeaders.{modules_in_decls}
use Rattle.fc_headers.proofs.mentioned.modules_mentioned.Given as goal

abbrev pub invariant-loop-decl : goal.invariant-loop-decl
invariant-loop-decl l =
    plus_all (modules_in_decls (ndecls_of (drop l.decl-index l.decls))) (set_of l.to)
    ≡ plus_all (modules_in_decls (ndecls_of l.decls)) no_word
