use Rattle.std.proofs.Common.{◌≡◌, take}
use Rattle.fc_model.specs.NamelessView.{nbinders_of}
use Rattle.fc_model.specs.DeclaredWords.{words_by_space}
use Rattle.fc_scope.specs.ScopeWords.{locals_of}
use Rattle.fc_used_words.specs.Around.{counts_of}
use Rattle.fc_used_words.specs.Scoped.{in_binders}
use Rattle.fc_used_words.specs.Used.{AddsBinders}
use Rattle.fc_used_words.proofs.used_expressions.use_binders.Given as goal

abbrev pub invariant-loop-binder : goal.invariant-loop-binder
invariant-loop-binder l = record {
  below : counts_of l.inner ≡ in_binders (nbinders_of (take l.binder-index l.binders)) (counts_of l.fn.inside);
  adds : AddsBinders l.own (locals_of l.scope) (counts_of l.fn.inside) (nbinders_of (take l.binder-index l.binders)) (words_by_space l.fn.used) (words_by_space l.used);
}
