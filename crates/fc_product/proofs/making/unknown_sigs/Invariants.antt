use Rattle.std.proofs.Common.{◌≡◌, ◌++◌, drop}
use Rattle.fc_syntax.specs.View.{decls_of}
use Rattle.fc_lattice.specs.View.{sigs_of}
use Rattle.fc_product.specs.Interfaces.{unknown_sigs}
use Rattle.fc_product.proofs.making.unknown_sigs.Given as goal

-- the signatures so far, before those that are still to come, are all
abbrev pub invariant-loop-decl : goal.invariant-loop-decl
invariant-loop-decl l = sigs_of l.all.items ++ unknown_sigs (decls_of (drop l.decl-index l.decls)) ≡ unknown_sigs (decls_of l.decls)
