use Rattle.std.proofs.Common.{◌≡◌, drop}
use Rattle.fc_model.specs.DeclaredWords.{top_by}
use Rattle.fc_model.specs.NamelessView.{ndecls_of}
use Rattle.fc_scoped.specs.Testing.{decls_scoped}
use Rattle.fc_scoped.proofs.declarations.decls.Given as goal

-- what is still to come is scoped where all are
abbrev pub invariant-loop-d : goal.invariant-loop-d
invariant-loop-d l = decls_scoped (top_by l.top) (ndecls_of (drop l.d-index l.items)) ≡ decls_scoped (top_by l.top) (ndecls_of l.items)
