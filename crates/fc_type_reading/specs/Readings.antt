-- What is read off of types, arguments and answers.
use Rattle.std.specs.Prelude.{◌≡◌, ℕ, zero, suc, Option, Some, None, Result, Ok, Err}
use Rattle.fc_syntax.specs.declared.expr.Arg.{Arg}
use Rattle.fc_syntax.specs.declared.expr.Arg.TheVariants as args
use Rattle.fc_syntax.specs.declared.ty.Ref.{Ref}
use Rattle.fc_syntax.specs.declared.ty.Ty.{Ty}
use Rattle.fc_model.specs.Calling.{at_type, coercion_asked, function_ends}
use Rattle.fc_model.specs.Nameless.{NTy, NTApp, NArg, NATerm, NAType, NACo, NArgs, NoNArgs, MoreNArgs}
use Rattle.fc_model.specs.Typing.{behind_coercion, second_of}
use Rattle.fc_model.specs.declared.flaw.Flawed.{Flawed}
use Rattle.fc_model.specs.declared.flaw.Flawed.TheVariants.{Memory, Flaw as OfFlaw}

-- what was judged, or nothing where a premise fails; out of memory is no answer
abbrev pub IsAnswer : {X : Type 0} → Result X Flawed → Option X → Type 0
IsAnswer (Ok x) o = o ≡ Some x
IsAnswer (Err Memory) o = ⊥
IsAnswer (Err (OfFlaw f)) o = o ≡ None

-- what is of type t, applied to an argument
abbrev pub type_applied : NTy → NArg → Option NTy
type_applied t (NATerm e) = second_of (function_ends t)
type_applied t (NAType u) = at_type t u
type_applied t (NACo g) = behind_coercion (coercion_asked t)

-- the type that is given as an argument
abbrev pub type_of_argument : Option (Arg ℕ Ref) → Option (Ty ℕ)
type_of_argument (Some (args.Term e)) = None
type_of_argument (Some (args.OfType t)) = Some t
type_of_argument (Some (args.OfCo g)) = None
type_of_argument None = None

-- a type applied to the first so many arguments, where they are types
abbrev pub applied_to_first : ℕ → NTy → NArgs → Option NTy
applied_to_first zero t args = Some t
applied_to_first (suc n) t NoNArgs = None
applied_to_first (suc n) t (MoreNArgs (NATerm e) rest) = None
applied_to_first (suc n) t (MoreNArgs (NAType u) rest) = applied_to_first n (NTApp t u) rest
applied_to_first (suc n) t (MoreNArgs (NACo g) rest) = None
