use Rattle.std.proofs.Common.{◌≡◌, drop}
use Rattle.fc_model.specs.DeclaredWords.{top_by}
use Rattle.fc_model.specs.NamelessView.{nbinders_of}
use Rattle.fc_used_words.specs.Around.{counts_of}
use Rattle.fc_scoped.specs.Testing.{binders_scoped}
use Rattle.fc_scoped.proofs.types.binders.Given as goal

-- what is still to come is scoped below what was, where all are
abbrev pub invariant-loop-b : goal.invariant-loop-b
invariant-loop-b l = binders_scoped (top_by l.top) (counts_of l.inner) (nbinders_of (drop l.b-index l.items)) ≡ binders_scoped (top_by l.top) (counts_of l.fn.around) (nbinders_of l.items)
