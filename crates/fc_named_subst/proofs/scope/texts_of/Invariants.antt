use Rattle.std.specs.Prelude.{◌≡◌, drop}
use Rattle.fc_model.specs.Resolution.{no_word, plus_all}
use Rattle.fc_model.specs.WordSets.{set_of}
use Rattle.fc_named_subst.specs.Scopes.{word_texts}
use Rattle.fc_named_subst.proofs.scope.texts_of.Given as goal

-- the words that are in, behind those that are still to come, are all
abbrev pub invariant-loop-word : goal.invariant-loop-word
invariant-loop-word l = plus_all (word_texts (drop l.word-index l.words)) (set_of l.texts) ≡ plus_all (word_texts l.words) no_word
