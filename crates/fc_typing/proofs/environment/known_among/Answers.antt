use Rattle.std.specs.Prelude.{map}
use Rattle.fc_syntax.specs.View.{module_of}
use Rattle.fc_model.specs.NamelessView.{nmodules_of}
use Rattle.fc_model.specs.Resolution.{no_word, plus_all}
use Rattle.fc_typing.proofs.Imported.{imported}
use Rattle.fc_typing.specs.Environments.{module_word, words_but}
use Rattle.fc_typing.proofs.environment.known_among.Goals as goal

pub returns : goal.returns
returns c = imported c.in_ok-own.own c.in_ok-imports.imports (module_of c.args.m.now) (plus_all (words_but c.args.m.now.name (map module_word (nmodules_of c.args.modules.now))) no_word) c.in_ok-own.ensures c.in_ok-imports.ensures
