use Rattle.std.proofs.Common.{take}
use Rattle.fc_syntax.specs.View.{decl_of}
use Rattle.fc_model.specs.DeclaredWords.{top_by}
use Rattle.fc_naming.specs.Declarations.{IsNamedDecl}
use Rattle.fc_naming.proofs.Each.{AreEach}
use Rattle.fc_naming.proofs.declarations.named_decls.Given as goal

abbrev pub invariant-loop-decl : goal.invariant-loop-decl
invariant-loop-decl l = AreEach (λ x y. IsNamedDecl (top_by l.top) (decl_of x) (decl_of y)) (take l.decl-index l.decls) l.out
