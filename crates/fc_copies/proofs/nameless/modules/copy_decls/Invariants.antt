use Rattle.std.proofs.Common.{◌≡◌, take}
use Rattle.fc_syntax.specs.View.{decls_of}
use Rattle.fc_copies.proofs.nameless.modules.copy_decls.Given as goal

abbrev pub invariant-loop-x : goal.invariant-loop-x
invariant-loop-x l = decls_of l.all ≡ decls_of (take l.x-index l.items)
