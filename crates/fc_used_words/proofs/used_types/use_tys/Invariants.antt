use Rattle.std.proofs.Common.{take}
use Rattle.fc_model.specs.NamelessView.{ntys_of}
use Rattle.fc_model.specs.DeclaredWords.{words_by_space}
use Rattle.fc_scope.specs.ScopeWords.{locals_of}
use Rattle.fc_used_words.specs.Around.{counts_of}
use Rattle.fc_used_words.specs.Used.{AddsTys}
use Rattle.fc_used_words.proofs.used_types.use_tys.Given as goal

abbrev pub invariant-loop-t : goal.invariant-loop-t
invariant-loop-t l = AddsTys l.own (locals_of l.scope) (counts_of l.inside) (ntys_of (take l.t-index l.types)) (words_by_space l.fn.used) (words_by_space l.used)
