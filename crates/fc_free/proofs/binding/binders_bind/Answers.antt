use Rattle.std.proofs.Common.{◌∙◌, ◌∷◌, [], sym}
use Rattle.fc_syntax.specs.View.{binder_of, binders_of}
use Rattle.fc_free.specs.Free.{of_words, value_words}
use Rattle.fc_free.proofs.BoundWords.{binders_first}
use Rattle.fc_free.proofs.Sought.{sought_behind, sought_here}
use Rattle.fc_free.proofs.binding.binders_bind.Goals as goal

pub returns-then-binder_binds : goal.returns-then-binder_binds
returns-then-binder_binds c =
    sought_here (λ xs. of_words (value_words (binders_of xs)) c.args.word.now) (λ x. of_words (value_words (binder_of x ∷ [])) c.args.word.now) (λ x xs. binders_first (binder_of x) (binders_of xs) c.args.word.now) c.args.binders.now c.loop-binder.binder-index c.binder-item.result
    c.loop-binder.invariant c.loop-binder-test.true c.binder-item.is (sym c.binder_binds.ensures ∙ c.if-binder_binds.true)

pub loop-binder-preserved : goal.loop-binder-preserved
loop-binder-preserved c =
    sought_behind (λ xs. of_words (value_words (binders_of xs)) c.args.word.now) (λ x. of_words (value_words (binder_of x ∷ [])) c.args.word.now) (λ x xs. binders_first (binder_of x) (binders_of xs) c.args.word.now) c.args.binders.now c.loop-binder.binder-index c.binder-item.result
    c.loop-binder.invariant c.loop-binder-test.true c.binder-item.is (sym c.binder_binds.ensures ∙ c.if-binder_binds.false)
