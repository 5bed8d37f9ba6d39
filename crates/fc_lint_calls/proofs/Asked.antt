-- What follows a premise that the code asks alone: where it holds, the rest is judged, and where it fails, the whole does.
use Rattle.std.proofs.Common.{◌≡◌, ℕ, Bool, true, false, not, Option, Some, None, Result, Ok, Err, refl}
use Rattle.fc_syntax.specs.declared.fault.FaultKind.{FaultKind}
use Rattle.fc_syntax.specs.declared.fault.FaultKind.TheVariants.{EscapingType}
use Rattle.fc_model.specs.Faulting.{F, need}
use Rattle.fc_model.specs.Kinding.{same_type}
use Rattle.fc_model.specs.Nameless.{NTy}
use Rattle.fc_model.specs.Substituting.{has_innermost, raised_type}
use Rattle.fc_model.specs.Typing.{leaves_as, paid}

pub need-holds : {X : Type 0} (b : Bool) (kind : FaultKind) (r : Result X F) → need b kind (Ok (tt {0})) ≡ Ok (tt {0}) → need b kind r ≡ r
need-holds true kind r h = refl
need-holds false kind r h = cc

pub need-fails : {X : Type 0} (b : Bool) (kind : FaultKind) (f : F) (r : Result X F) → need b kind (Ok (tt {0})) ≡ Err f → need b kind r ≡ Err f
need-fails true kind f r h = cc
need-fails false kind f r h = cc

pub paid-holds : {X : Type 0} (owed : Option FaultKind) (r : Result X F) → paid owed (Ok (tt {0})) ≡ Ok (tt {0}) → paid owed r ≡ r
paid-holds (Some kind) r h = cc
paid-holds None r h = refl

pub paid-fails : {X : Type 0} (owed : Option FaultKind) (f : F) (r : Result X F) → paid owed (Ok (tt {0})) ≡ Err f → paid owed r ≡ Err f
paid-fails (Some kind) f r h = cc
paid-fails None f r h = cc

both-hold : {X : Type 0} (a b : Bool) (j k : FaultKind) (r : Result X F) → need a j (need b k (Ok (tt {0}))) ≡ Ok (tt {0}) → need a j (need b k r) ≡ r
both-hold true b j k r h = need-holds b k r h
both-hold false b j k r h = cc

one-fails : {X : Type 0} (a b : Bool) (j k : FaultKind) (f : F) (r : Result X F) → need a j (need b k (Ok (tt {0}))) ≡ Err f → need a j (need b k r) ≡ Err f
one-fails true b j k f r h = need-fails b k f r h
one-fails false b j k f r h = cc

pub leaves_as-holds : {X : Type 0} (m : ℕ) (u t : NTy) (differs : FaultKind) (r : Result X F) → leaves_as m u t differs (Ok (tt {0})) ≡ Ok (tt {0}) → leaves_as m u t differs r ≡ r
leaves_as-holds m u t differs r h = both-hold (not (has_innermost m 0 u)) (same_type u (raised_type m t)) EscapingType differs r h

pub leaves_as-fails : {X : Type 0} (m : ℕ) (u t : NTy) (differs : FaultKind) (f : F) (r : Result X F) → leaves_as m u t differs (Ok (tt {0})) ≡ Err f → leaves_as m u t differs r ≡ Err f
leaves_as-fails m u t differs f r h = one-fails (not (has_innermost m 0 u)) (same_type u (raised_type m t)) EscapingType differs f r h

pub ruleset asked_rules = (need-holds, need-fails, paid-holds, paid-fails, leaves_as-holds, leaves_as-fails)
