use Rattle.std.proofs.Common.{take}
use Rattle.fc_syntax.specs.Hints.{plain_hint}
use Rattle.fc_syntax.specs.View.{plain_of}
use Rattle.fc_model.specs.DeclaredWords.{words_by_space}
use Rattle.fc_model.specs.Worded.{bare_plain}
use Rattle.fc_naming.proofs.NamedDeclarations.{TookWords}
use Rattle.fc_naming.proofs.params.own_plains.Given as goal

abbrev pub invariant-loop-plain : goal.invariant-loop-plain
invariant-loop-plain l = TookWords plain_of plain_hint bare_plain (take l.plain-index l.plains) l.out l.names (words_by_space l.taken).types
