-- Applications that a coercion relates: their heads, and what they are applied to.
use Rattle.std.specs.Prelude.{List, [], Option, Some, None, Result, Ok, Err}
use Rattle.fc_syntax.specs.declared.fault.FaultKind.TheVariants.{KindsDiffer, NotInjective, RoleWrong}
use Rattle.fc_syntax.specs.declared.ty.Role.TheVariants.{N}
use Rattle.fc_syntax.specs.Tree.{Kind}
use Rattle.fc_model.specs.Calling.{application_ends}
use Rattle.fc_model.specs.Coercing.{Ends, are_injective_applications, ends, have_one_kind}
use Rattle.fc_model.specs.Faulting.{F, At, need}
use Rattle.fc_model.specs.Kinding.{Modules, same_role}
use Rattle.fc_model.specs.Nameless.{NTy}

abbrev pub both_split : Option (NTy × NTy) → Option (NTy × NTy) → Option (Ends × Ends)
both_split (Some p) (Some q) = Some (ends N p.0 q.0, ends N p.1 q.1)
both_split (Some p) None = None
both_split None q = None

abbrev pub apart_or_fault : Modules → Ends → Option (Ends × Ends) → Result (Ends × Ends) F
apart_or_fault ms e (Some both) = need (are_injective_applications ms e.left e.right) NotInjective (Ok both)
apart_or_fault ms e None = Err (At NotInjective None [])

abbrev pub split_or_fault : Modules → Ends → Result (Ends × Ends) F
split_or_fault ms e = need (same_role e.role N) RoleWrong (apart_or_fault ms e (both_split (application_ends e.left) (application_ends e.right)))

abbrev pub one_kind_or_fault : Modules → List Kind → Ends → Result Ends F
one_kind_or_fault ms ks e = need (have_one_kind ms ks e.left e.right) KindsDiffer (Ok e)
