use Rattle.std.proofs.Common.{◌≡◌, drop}
use Rattle.fc_model.specs.DeclaredWords.{top_by}
use Rattle.fc_model.specs.NamelessView.{ntys_of}
use Rattle.fc_used_words.specs.Around.{counts_of}
use Rattle.fc_scoped.specs.Testing.{tys_scoped}
use Rattle.fc_scoped.proofs.types.tys.Given as goal

-- what is still to come is scoped where all are
abbrev pub invariant-loop-t : goal.invariant-loop-t
invariant-loop-t l = tys_scoped (top_by l.top) (counts_of l.around) (ntys_of (drop l.t-index l.types)) ≡ tys_scoped (top_by l.top) (counts_of l.around) (ntys_of l.types)
