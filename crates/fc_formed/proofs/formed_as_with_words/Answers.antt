use Rattle.fc_formed.proofs.WithWords.{formed_with_words, formed_without_words}
use Rattle.fc_formed.proofs.formed_as_with_words.Goals as goal

pub returns-clause-words : goal.returns-clause-words
returns-clause-words c = formed_with_words

pub returns-clause-bare : goal.returns-clause-bare
returns-clause-bare c = formed_without_words
