use Rattle.std.proofs.Common.{◌≡◌, drop}
use Rattle.fc_model.specs.NamelessView.{nbinders_of}
use Rattle.fc_used_words.specs.Around.{counts_of}
use Rattle.fc_used_words.specs.Scoped.{in_binders}
use Rattle.fc_scoped.proofs.types.in_binders.Given as goal

-- below what was and then what is still to come is below all
abbrev pub invariant-loop-b : goal.invariant-loop-b
invariant-loop-b l = in_binders (nbinders_of (drop l.b-index l.items)) (counts_of l.inner) ≡ in_binders (nbinders_of l.items) (counts_of l.fn.around)
