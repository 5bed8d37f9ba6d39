use Rattle.std.proofs.Common.{ap, ◌∙◌}
use Rattle.fc_model.specs.DeclaredWords.{words_by_space}
use Rattle.fc_naming.specs.Taken.{more_words}
use Rattle.fc_naming.specs.declared.taken.Space.{Space}
use Rattle.fc_naming.proofs.NewWords.{word_of_binder}
use Rattle.fc_naming.proofs.binders.named_binder.Goals as goal

pub returns : goal.returns
returns c =
    let taken = words_by_space c.args.taken.now in
    c.in_ok-binder.ensures taken _ (word_of_binder taken c.space.ensures c.hint.ensures c.in_ok-word.ensures.chosen) (c.in_ok-word.ensures.taken ∙ ap (λ (s : Space). more_words s c.in_ok-word.word taken) c.space.ensures)
