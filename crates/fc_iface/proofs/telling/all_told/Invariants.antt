use Rattle.std.proofs.Common.{◌≡◌, ◌++◌, drop}
use Rattle.fc_syntax.specs.View.{decls_of}
use Rattle.fc_iface.specs.Interfaces.{are_told, decls_told}
use Rattle.fc_iface.proofs.telling.all_told.Given as goal

-- what is told, before what is still to come, is the whole
abbrev pub invariant-loop-number : goal.invariant-loop-number
invariant-loop-number l =
    (decls_of l.all ++ decls_told l.grow l.marks l.number (decls_of (drop l.number l.decls)) ≡ decls_told l.grow l.marks 0 (decls_of l.decls))
    × (l.known ++ are_told l.grow l.marks l.number (decls_of (drop l.number l.decls)) ≡ are_told l.grow l.marks 0 (decls_of l.decls))
