use Rattle.std.proofs.Common.{◌≡◌, ◌++◌, drop}
use Rattle.fc_syntax.specs.View.{decls_of}
use Rattle.fc_model.specs.InterfaceTexts.{items_text}
use Rattle.fc_lattice.specs.View.{sigs_of}
use Rattle.fc_iface.proofs.items.put_items.Given as goal

-- what is put, before what is still to come, is the whole
abbrev pub invariant-loop-d : goal.invariant-loop-d
invariant-loop-d l =
    l.to.items ++ items_text (decls_of (drop l.d-index l.decls)) (sigs_of l.next_sigs) l.next_told ≡ l.fn.to.items ++ items_text (decls_of l.decls) (sigs_of l.sigs) l.told
