use Rattle.std.proofs.Common.{take}
use Rattle.fc_syntax.specs.View.{con_of}
use Rattle.fc_model.specs.DeclaredWords.{top_by}
use Rattle.fc_scope.specs.ScopeWords.{locals_of}
use Rattle.fc_naming.specs.Declarations.{IsNamedCon}
use Rattle.fc_naming.proofs.Each.{AreEach}
use Rattle.fc_naming.proofs.declarations.named_cons.Given as goal

abbrev pub invariant-loop-con : goal.invariant-loop-con
invariant-loop-con l = AreEach (λ x y. IsNamedCon (top_by l.top) (locals_of l.scope) (con_of x) (con_of y)) (take l.con-index l.cons) l.out
