use Rattle.std.specs.Prelude.{◌≡◌, drop, map}
use Rattle.fc_model.specs.NamelessView.{nmodules_of}
use Rattle.fc_model.specs.Resolution.{no_word, plus_all}
use Rattle.fc_model.specs.WordSets.{set_of}
use Rattle.fc_typing.specs.Environments.{module_word, words_but}
use Rattle.fc_typing.proofs.environment.other_names.Given as goal

-- the words that are in, behind those that are still to come, are all
abbrev pub invariant-loop-m : goal.invariant-loop-m
invariant-loop-m l = plus_all (words_but l.own (map module_word (nmodules_of (drop l.m-index l.modules)))) (set_of l.names) ≡ plus_all (words_but l.own (map module_word (nmodules_of l.modules))) no_word
