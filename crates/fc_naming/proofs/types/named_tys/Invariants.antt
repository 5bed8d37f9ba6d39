use Rattle.std.proofs.Common.{take}
use Rattle.fc_syntax.specs.View.{ty_of}
use Rattle.fc_model.specs.DeclaredWords.{top_by}
use Rattle.fc_scope.specs.ScopeWords.{locals_of}
use Rattle.fc_naming.specs.Named.{IsNamedTy}
use Rattle.fc_naming.proofs.Each.{AreEach}
use Rattle.fc_naming.proofs.types.named_tys.Given as goal

abbrev pub invariant-loop-t : goal.invariant-loop-t
invariant-loop-t l = AreEach (λ x y. IsNamedTy (top_by l.top) (locals_of l.scope) (ty_of x) (ty_of y)) (take l.t-index l.types) l.out
