use Rattle.std.proofs.Common.{take}
use Rattle.fc_syntax.specs.View.{co_of}
use Rattle.fc_model.specs.DeclaredWords.{top_by}
use Rattle.fc_scope.specs.ScopeWords.{locals_of}
use Rattle.fc_naming.specs.Named.{IsNamedCo}
use Rattle.fc_naming.proofs.Each.{AreEach}
use Rattle.fc_naming.proofs.coercions.+named.Given as goal

abbrev pub invariant-named_cos-loop-g : goal.invariant-named_cos-loop-g
invariant-named_cos-loop-g l = AreEach (λ x y. IsNamedCo (top_by l.top) (locals_of l.scope) (co_of x) (co_of y)) (take l.g-index l.gs) l.out
