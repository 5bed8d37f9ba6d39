use Rattle.std.proofs.Common.{take}
use Rattle.fc_syntax.specs.Hints.{param_hint}
use Rattle.fc_syntax.specs.View.{param_of}
use Rattle.fc_model.specs.DeclaredWords.{words_by_space}
use Rattle.fc_model.specs.Worded.{bare_param}
use Rattle.fc_naming.proofs.NamedDeclarations.{TookWords}
use Rattle.fc_naming.proofs.params.own_params.Given as goal

abbrev pub invariant-loop-param : goal.invariant-loop-param
invariant-loop-param l = TookWords param_of param_hint bare_param (take l.param-index l.params) l.out l.names (words_by_space l.taken).types
