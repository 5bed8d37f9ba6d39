use Rattle.std.proofs.Common.{◌≡◌, drop}
use Rattle.fc_syntax.specs.View.{decls_of}
use Rattle.fc_model.specs.Resolution.{no_words}
use Rattle.fc_model.specs.DeclaredWords.{all_behind, words_by_space}
use Rattle.fc_model.proofs.declared.spaces_of.Given as goal

abbrev pub invariant-loop-decl : goal.invariant-loop-decl
invariant-loop-decl g l = all_behind (decls_of (drop l.decl-index l.decls)) (words_by_space l.spaces) ≡ all_behind (decls_of l.decls) no_words
