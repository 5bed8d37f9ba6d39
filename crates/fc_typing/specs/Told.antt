-- How answers with words meet judgements of nameless forms.
use Rattle.std.specs.Prelude.{◌≡◌, ℕ, List, Result, Ok, Option, Some, None}
use Rattle.fc_syntax.specs.Tree as trees
use Rattle.fc_syntax.specs.Tree.{Word}
use Rattle.fc_syntax.specs.View.{ty_of}
use Rattle.fc_syntax.specs.declared.ty.Ty.{Ty}
use Rattle.fc_model.specs.Coercing as model
use Rattle.fc_model.specs.Faulting.{F}
use Rattle.fc_model.specs.Nameless.{NTy}
use Rattle.fc_type_names.specs.Meant.{meant}
use Rattle.fc_typing.specs.declared.naming.Ends.{Ends}

-- the type that is judged is the one that the answer means, where these are the words of the type variables in scope
pub record IsTypeOf (own : Word) (ws : List Word) (t : trees.Ty) (judged : Result NTy F) : Type 0 where
  pub form : NTy
  pub answer : judged ≡ Ok form
  pub means : meant own ws t ≡ Ok form

-- the role and the ends that are judged are those of the answer
pub record AreEndsOf (own : Word) (ws : List Word) (e : Ends) (judged : Result model.Ends F) : Type 0 where
  pub left : NTy
  pub right : NTy
  pub answer : judged ≡ Ok (record { role = e.role; left = left; right = right })
  pub left_means : meant own ws (ty_of e.left) ≡ Ok left
  pub right_means : meant own ws (ty_of e.right) ≡ Ok right

-- the type that is judged to be there is the one that the answer means
pub record IsFoundType (own : Word) (ws : List Word) (t : trees.Ty) (judged : Result (Option NTy) F) : Type 0 where
  pub form : NTy
  pub answer : judged ≡ Ok (Some form)
  pub means : meant own ws t ≡ Ok form

-- the same, or there is none
abbrev pub IsFoundTypeOf : Word → List Word → Option (Ty (List ℕ)) → Result (Option NTy) F → Type 0
IsFoundTypeOf own ws None judged = judged ≡ Ok None
IsFoundTypeOf own ws (Some t) judged = IsFoundType own ws (ty_of t) judged
