use Rattle.std.proofs.Common.{◌≡◌, drop}
use Rattle.fc_model.specs.DeclaredWords.{top_by}
use Rattle.fc_model.specs.NamelessView.{ncos_of}
use Rattle.fc_used_words.specs.Around.{counts_of}
use Rattle.fc_scoped.specs.Testing.{cos_scoped}
use Rattle.fc_scoped.proofs.types.+coercions.Given as goal

-- what is still to come is scoped where all are
abbrev pub invariant-cos-loop-g : goal.invariant-cos-loop-g
invariant-cos-loop-g l = cos_scoped (top_by l.top) (counts_of l.around) (ncos_of (drop l.g-index l.coercions)) ≡ cos_scoped (top_by l.top) (counts_of l.around) (ncos_of l.coercions)
