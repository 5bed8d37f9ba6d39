use Rattle.fc_reaching.specs.DefinitionsView.{number_by}
use Rattle.fc_reaching.proofs.FromRoots.{numbers_more}
use Rattle.fc_reaching.proofs.remaining.numbers_at.Goals as goal

pub loop-word-preserved : goal.loop-word-preserved
loop-word-preserved c =
    numbers_more (number_by c.args.definitions.now) c.args.words.now c.loop-word.word-index _ _ _ c.loop-word-test.true c.loop-word.invariant c.in_ok-add_number.ensures
