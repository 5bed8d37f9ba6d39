use Rattle.fc_words.proofs.PlainWords.{plain_build, plain_lint, plain_why}
use Rattle.fc_words.proofs.plain_words_are_accepted.Goals as goal

pub returns : goal.returns
returns c = record { build = plain_build; why = plain_why; lint = plain_lint }
