use Rattle.std.specs.Prelude.{◌≡◌, drop}
use Rattle.fc_model.specs.Resolution.{no_word, plus_all}
use Rattle.fc_model.specs.WordSets.{set_of}
use Rattle.fc_named_subst.specs.Scopes.{words_but}
use Rattle.fc_named_subst.proofs.scope.other_names.Given as goal

-- the words that are in, behind those that are still to come, are all
abbrev pub invariant-loop-name : goal.invariant-loop-name
invariant-loop-name l = plus_all (words_but l.own (drop l.name-index l.modules)) (set_of l.names) ≡ plus_all (words_but l.own l.modules) no_word
