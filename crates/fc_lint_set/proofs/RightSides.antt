-- A right side against its written type.
use Rattle.std.proofs.Common.{◌≡◌, refl, ℕ, Bool, Result, Ok, Err}
use Rattle.fc_syntax.specs.declared.fault.FaultKind.TheVariants.{DefType}
use Rattle.fc_model.specs.Faulting.{F, At, and_then, need, under}
use Rattle.fc_model.specs.Kinding.{same_type}
use Rattle.fc_model.specs.Linting.{Done, done}
use Rattle.fc_model.specs.Nameless.{NTy}
use Rattle.fc_model.proofs.Parts.{err_ok, ok_ok}

pub right_ok : (i : ℕ) (r : Result NTy F) (t : NTy) (b : Bool) → and_then {Y = Bool} r (λ u. Ok (same_type t u)) ≡ Ok b → and_then {Y = Done} (under i r) (λ u. need (same_type t u) DefType (Ok done)) ≡ need b DefType (Ok done)
right_ok i (Ok u) t b h = rw (ok_ok h) refl
right_ok i (Err f) t b h = err_ok h

pub right_err : (i : ℕ) (r : Result NTy F) (t : NTy) (f : F) → and_then {Y = Bool} r (λ u. Ok (same_type t u)) ≡ Err f → and_then {Y = Done} (under i r) (λ u. need (same_type t u) DefType (Ok done)) ≡ under i (Err f)
right_err i (Ok u) t f h = cc
right_err i (Err (At k d p)) t f h = let e : At k d p ≡ f = cc in rw (← e) refl

pub ruleset right_rules = (right_ok, right_err)
