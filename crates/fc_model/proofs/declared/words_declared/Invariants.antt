use Rattle.std.proofs.Common.{◌≡◌, ◌++◌, drop}
use Rattle.fc_syntax.specs.View.{decls_of}
use Rattle.fc_model.proofs.declared.words_declared.Given as goal
use Rattle.fc_model.specs.Declaring.{declared_words}

abbrev pub invariant-loop-decl : goal.invariant-loop-decl
invariant-loop-decl g l = l.words ++ declared_words (decls_of (drop l.decl-index l.decls)) ≡ declared_words (decls_of l.decls)
