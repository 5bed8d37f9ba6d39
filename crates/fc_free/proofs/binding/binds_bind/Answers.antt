use Rattle.std.proofs.Common.{◌∙◌, sym}
use Rattle.fc_syntax.specs.View.{binds_of}
use Rattle.fc_model.specs.Resolution.{bind_words}
use Rattle.fc_free.specs.Free.{of_one, of_words}
use Rattle.fc_free.proofs.BoundWords.{first_of}
use Rattle.fc_free.proofs.Sought.{sought_behind, sought_here}
use Rattle.fc_free.proofs.binding.binds_bind.Goals as goal

pub returns-then-is_word : goal.returns-then-is_word
returns-then-is_word c =
    sought_here (λ xs. of_words (bind_words (binds_of xs)) c.args.word.now) (λ x. of_one x.name c.args.word.now) (λ x xs. first_of x.name (bind_words (binds_of xs)) c.args.word.now) c.args.binds.now c.loop-bind.bind-index c.bind-item.result
    c.loop-bind.invariant c.loop-bind-test.true c.bind-item.is (sym c.is_word.ensures ∙ c.if-is_word.true)

pub loop-bind-preserved : goal.loop-bind-preserved
loop-bind-preserved c =
    sought_behind (λ xs. of_words (bind_words (binds_of xs)) c.args.word.now) (λ x. of_one x.name c.args.word.now) (λ x xs. first_of x.name (bind_words (binds_of xs)) c.args.word.now) c.args.binds.now c.loop-bind.bind-index c.bind-item.result
    c.loop-bind.invariant c.loop-bind-test.true c.bind-item.is (sym c.is_word.ensures ∙ c.if-is_word.false)
