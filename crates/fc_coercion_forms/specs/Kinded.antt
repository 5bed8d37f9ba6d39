-- What a coercion relates, if both ends have kinds.
use Rattle.std.specs.Prelude.{List, Result, Ok, Err}
use Rattle.fc_syntax.specs.declared.fault.FaultKind.TheVariants.{KindMismatch}
use Rattle.fc_syntax.specs.Tree.{Kind, KStar}
use Rattle.fc_model.specs.Coercing.{Ends, are_kinded}
use Rattle.fc_model.specs.Faulting.{F, need}
use Rattle.fc_model.specs.Kinding.{Modules}

abbrev pub kinded_or_fault : Modules → List Kind → Ends → Result Ends F
kinded_or_fault ms ks e = need (are_kinded ms ks e.left e.right) KindMismatch (Ok e)

-- a name takes its arguments where it has a kind then
abbrev pub takes_or_fault : Result Kind F → Result Kind F
takes_or_fault (Ok k) = Ok KStar
takes_or_fault (Err f) = Err f
