use Rattle.fc_model.specs.NamelessView.{ndecls_of}
use Rattle.fc_rows.specs.Telling.{told_declarations}
use Rattle.fc_told.proofs.ToldSoFar.{AreTold}
use Rattle.fc_told.proofs.telling.told_decls.Given as goal

abbrev pub invariant-loop-decl : goal.invariant-loop-decl
invariant-loop-decl l = AreTold l.all l.marks l.decl-iterator.rest.items (told_declarations l.fn.marks (ndecls_of l.fn.decls))
