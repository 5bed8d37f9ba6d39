use Rattle.std.proofs.Common.{◌≡◌, drop}
use Rattle.fc_model.specs.DeclaredWords.{top_by}
use Rattle.fc_model.specs.NamelessView.{ncons_of}
use Rattle.fc_used_words.specs.Around.{counts_of}
use Rattle.fc_scoped.specs.Testing.{cons_scoped}
use Rattle.fc_scoped.proofs.declarations.cons.Given as goal

-- what is still to come is scoped where all are
abbrev pub invariant-loop-c : goal.invariant-loop-c
invariant-loop-c l = cons_scoped (top_by l.top) (counts_of l.around) (ncons_of (drop l.c-index l.items)) ≡ cons_scoped (top_by l.top) (counts_of l.around) (ncons_of l.items)
