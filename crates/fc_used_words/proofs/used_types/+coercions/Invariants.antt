use Rattle.std.proofs.Common.{take}
use Rattle.fc_model.specs.NamelessView.{ncos_of}
use Rattle.fc_model.specs.DeclaredWords.{words_by_space}
use Rattle.fc_scope.specs.ScopeWords.{locals_of}
use Rattle.fc_used_words.specs.Around.{counts_of}
use Rattle.fc_used_words.specs.Used.{AddsCos}
use Rattle.fc_used_words.proofs.used_types.+coercions.Given as goal

abbrev pub invariant-use_cos-loop-g : goal.invariant-use_cos-loop-g
invariant-use_cos-loop-g l = AddsCos l.own (locals_of l.scope) (counts_of l.inside) (ncos_of (take l.g-index l.gs)) (words_by_space l.fn.used) (words_by_space l.used)
