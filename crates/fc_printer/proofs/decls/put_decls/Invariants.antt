use Rattle.std.proofs.Common.{◌≡◌, ◌++◌, drop}
use Rattle.fc_syntax.specs.View.{decls_of}
use Rattle.fc_model.specs.Canonical.{decls_text}
use Rattle.fc_printer.proofs.decls.put_decls.Given as goal

abbrev pub invariant-loop-d : goal.invariant-loop-d
invariant-loop-d l = l.to.items ++ decls_text (decls_of (drop l.d-index l.decls)) ≡ l.fn.to.items ++ decls_text (decls_of l.decls)
