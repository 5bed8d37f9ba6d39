-- Two `forall`s over variables of one kind, at types.
use Rattle.std.specs.Prelude.{if◌then◌else◌, [], Option, Some, None, Result, Ok, Err}
use Rattle.fc_syntax.specs.declared.fault.FaultKind.TheVariants.{EndsDiffer}
use Rattle.fc_syntax.specs.declared.ty.Role.{Role}
use Rattle.fc_syntax.specs.Tree.{Kind}
use Rattle.fc_model.specs.Calling.{forall_kind}
use Rattle.fc_model.specs.Coercing.{Ends, ends}
use Rattle.fc_model.specs.Faulting.{F, At}
use Rattle.fc_model.specs.Kinding.{same_kind}
use Rattle.fc_model.specs.Nameless.{NTy}

abbrev pub one_kind : Option Kind → Option Kind → Option Kind
one_kind (Some j) (Some k) = if same_kind j k then Some j else None
one_kind (Some j) None = None
one_kind None k = None

-- the kind of the variables of both
abbrev pub one_forall_kind : NTy → NTy → Option Kind
one_forall_kind t u = one_kind (forall_kind t) (forall_kind u)

-- what both are there
abbrev pub ends_at_types : Role → Option NTy → Option NTy → Result Ends F
ends_at_types r (Some t) (Some u) = Ok (ends r t u)
ends_at_types r (Some t) None = Err (At EndsDiffer None [])
ends_at_types r None u = Err (At EndsDiffer None [])
