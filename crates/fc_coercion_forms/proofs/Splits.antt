-- The faults of applications that cannot be taken apart are those of their heads and of their arguments.
use Rattle.std.proofs.Common.{◌≡◌, Bool, true, false, List, [], Option, Some, None, Result, Ok, Err, refl, sym, ap, ◌∙◌}
use Rattle.fc_syntax.specs.declared.fault.FaultKind.{FaultKind}
use Rattle.fc_syntax.specs.declared.fault.FaultKind.TheVariants.{NotInjective, RoleWrong}
use Rattle.fc_syntax.specs.declared.ty.Role.TheVariants.{N}
use Rattle.fc_syntax.specs.Tree.{Kind}
use Rattle.fc_model.specs.Calling.{application_ends}
use Rattle.fc_model.specs.Coercing.{Ends, are_injective_applications, side_ends, split_ends}
use Rattle.fc_model.specs.Faulting.{F, At, need}
use Rattle.fc_model.specs.Kinding.{Modules, same_role}
use Rattle.fc_model.specs.Nameless.{NTy}
use Rattle.fc_model.specs.Says.{IsFlaw, Refuses, fault_of}
use Rattle.fc_model.specs.declared.flaw.Flawed.{Flawed}
use Rattle.fc_model.specs.declared.flaw.Flawed.TheVariants.{Memory, Flaw as OfFlaw}
use Rattle.fc_coercion_forms.specs.Splits.{apart_or_fault, both_split, split_or_fault}

-- a flaw of the piece itself refuses what fails by it
pub refused : {Y : Type 0} (e : Flawed) (kind : FaultKind) (r : Result Y F) → IsFlaw kind e → r ≡ Err (At kind None []) → Refuses e r
refused (OfFlaw f) kind r h s = s ∙ ap Err (sym h)
refused Memory kind r h s = tt

abbrev apart_by : Bool → Option (Ends × Ends) → Result (Ends × Ends) F
apart_by b (Some both) = need b NotInjective (Ok both)
apart_by b None = Err (At NotInjective None [])

apart-by : (ms : Modules) (e : Ends) (o : Option (Ends × Ends)) → apart_by (are_injective_applications ms e.left e.right) o ≡ apart_or_fault ms e o
apart-by ms e (Some both) = refl
apart-by ms e None = refl

same_fault : (ms : Modules) (ks : List Kind) (side : NTy × NTy → NTy) (b c : Bool) (p q : Option (NTy × NTy)) (f : F) → need b RoleWrong (apart_by c (both_split p q)) ≡ Err f
    → need b RoleWrong (split_ends ms ks side c p q) ≡ Err f
same_fault ms ks side false c p q f h = cc
same_fault ms ks side true c None q f h = cc
same_fault ms ks side true c (Some p) None f h = cc
same_fault ms ks side true false (Some p) (Some q) f h = cc
same_fault ms ks side true true (Some p) (Some q) f h = cc

pub side-refused : (ms : Modules) (ks : List Kind) (side : NTy × NTy → NTy) (e : Ends) (f : Flawed) → Refuses f (split_or_fault ms e) → Refuses f (side_ends ms ks side e)
side-refused ms ks side e Memory h = tt
side-refused ms ks side e (OfFlaw f) h =
    same_fault ms ks side (same_role e.role N) (are_injective_applications ms e.left e.right) (application_ends e.left) (application_ends e.right) (fault_of f)
    (ap (need (same_role e.role N) RoleWrong) (apart-by ms e (both_split (application_ends e.left) (application_ends e.right))) ∙ h)
