-- Axioms at the ends of coercions: whether the coercions fit the parameters, and the sides there.
use Rattle.std.specs.Prelude.{nat_eq, List, [], length, Option, Some, None, Result, Ok, Err}
use Rattle.fc_syntax.specs.declared.fault.FaultKind.TheVariants.{AxiomArity, KindsDiffer, RoleWrong, Unbound}
use Rattle.fc_syntax.specs.declared.ty.Role.{Role}
use Rattle.fc_syntax.specs.Tree.{Kind}
use Rattle.fc_model.specs.Calling.{at_types}
use Rattle.fc_model.specs.Coercing.{Axiom, Ends, are_at_roles, are_of_kinds, lefts, rights}
use Rattle.fc_model.specs.Faulting.{F, At, need}
use Rattle.fc_model.specs.Kinding.{Modules}
use Rattle.fc_model.specs.Nameless.{NTy}

-- coercions for parameters of these kinds and roles, in what stands at role r; the answer is that role
abbrev pub parameters_fit : Modules → List Kind → List Kind → Role → List Role → List Ends → Result Role F
parameters_fit ms ks js r rs es = need (nat_eq (length es) (length js)) AxiomArity (need (are_at_roles r rs es) RoleWrong (need (are_of_kinds ms ks js es) KindsDiffer (Ok r)))

abbrev pub fits_or_fault : Modules → List Kind → Option Axiom → List Ends → Result Role F
fits_or_fault ms ks (Some a) es = parameters_fit ms ks a.params a.ends.role a.roles es
fits_or_fault ms ks None es = Err (At Unbound None [])

abbrev pub both_of : Option NTy → Option NTy → Option (NTy × NTy)
both_of (Some t) (Some u) = Some (t, u)
both_of (Some t) None = None
both_of None u = None

-- two `forall`s, the first at the left ends and the second at the right ends
abbrev pub sides_at : NTy → NTy → List Ends → Option (NTy × NTy)
sides_at t u es = both_of (at_types t (lefts es)) (at_types u (rights es))
