use Rattle.std.proofs.Common.{◌∙◌, sym}
use Rattle.fc_syntax.specs.View.{joins_of}
use Rattle.fc_model.specs.Resolution.{join_words}
use Rattle.fc_free.specs.Free.{of_one, of_words}
use Rattle.fc_free.proofs.BoundWords.{first_of}
use Rattle.fc_free.proofs.Sought.{sought_behind, sought_here}
use Rattle.fc_free.proofs.binding.joins_bind.Goals as goal

pub returns-then-is_word : goal.returns-then-is_word
returns-then-is_word c =
    sought_here (λ xs. of_words (join_words (joins_of xs)) c.args.word.now) (λ x. of_one x.name c.args.word.now) (λ x xs. first_of x.name (join_words (joins_of xs)) c.args.word.now) c.args.joins.now c.loop-join.join-index c.join-item.result
    c.loop-join.invariant c.loop-join-test.true c.join-item.is (sym c.is_word.ensures ∙ c.if-is_word.true)

pub loop-join-preserved : goal.loop-join-preserved
loop-join-preserved c =
    sought_behind (λ xs. of_words (join_words (joins_of xs)) c.args.word.now) (λ x. of_one x.name c.args.word.now) (λ x xs. first_of x.name (join_words (joins_of xs)) c.args.word.now) c.args.joins.now c.loop-join.join-index c.join-item.result
    c.loop-join.invariant c.loop-join-test.true c.join-item.is (sym c.is_word.ensures ∙ c.if-is_word.false)
