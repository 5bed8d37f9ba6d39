use Rattle.std.proofs.Common.{take}
use Rattle.fc_syntax.specs.View.{binders_of}
use Rattle.fc_model.specs.DeclaredWords.{top_by}
use Rattle.fc_scope.specs.ScopeWords.{locals_of, with_binders}
use Rattle.fc_naming.specs.Named.{TakeWords}
use Rattle.fc_naming.specs.Taken.{words_around}
use Rattle.fc_naming.proofs.binders.new_binders.Given as goal

abbrev pub invariant-loop-binder : goal.invariant-loop-binder
invariant-loop-binder l =
    TakeWords (top_by l.top) (locals_of l.scope) (words_around (top_by l.top) (locals_of l.scope)) (binders_of (take l.binder-index l.binders)) (binders_of l.out)
    (with_binders l.words (locals_of l.scope)) (words_around (top_by l.top) (with_binders l.words (locals_of l.scope)))
