-- What a row makes of a whole at a place: nothing where it makes nothing of the part there, else the whole with what it makes in the place of that part.
use Rattle.std.proofs.Common.{◌≡◌, ℕ, List, Option, Some, None, ap, ◌∙◌}
use Rattle.fc_syntax.specs.declared.ty.Ref.{Ref}
use Rattle.fc_model.specs.Nameless.{NExpr}
use Rattle.fc_model.specs.Worded.{WExpr, bare_expr}
use Rattle.fc_places.specs.Places.{Exchanged, exchanged}
use Rattle.fc_rows.specs.Changing.{changed}
use Rattle.fc_rows.specs.ChangingCoercions.{as_they_are}
use Rattle.fc_rows.specs.Surroundings.{Surroundings}
use Rattle.fc_parts.specs.Found.{Found}
use Rattle.fc_parts.specs.PartsAt.{at_place}
use Rattle.fc_parts.proofs.Changes.{IsMade, made_at, nowhere, there}
use Rattle.fc_parts.proofs.Parted.{asked, asked_of_found}

module _ (row : Surroundings → NExpr → Option NExpr) where
  nothing_there : {by : WExpr} {f : Option Found} {ex : Exchanged ℕ Ref _ WExpr} {ch : Option NExpr} → IsMade row by bare_expr f ex ch → asked row f ≡ None → ch ≡ None
  nothing_there (nowhere none) is = none
  nothing_there (there s old new none some) is = none is

  something_there : {by : WExpr} {f : Option Found} {ex : Exchanged ℕ Ref _ WExpr} {ch : Option NExpr} {r : WExpr × WExpr} → IsMade row by bare_expr f ex ch → asked row f ≡ Some (bare_expr by)
      → ex ≡ Some r → ch ≡ Some (bare_expr r.1)
  something_there (nowhere none) is put = cc
  something_there (there s old new none some) is put = some is ∙ ap (λ o. Some (bare_expr (given o))) put
    where
      given : Option (WExpr × WExpr) → WExpr
      given (Some q) = q.1
      given None = new

  some_there : {by : WExpr} {f : Option Found} {ex : Exchanged ℕ Ref _ WExpr} {ch : Option NExpr} {x : NExpr} → IsMade row by bare_expr f ex ch → asked row f ≡ Some x → ex ≡ None → ⊥
  some_there (nowhere none) is absent = cc
  some_there (there s old new none some) is absent = cc

  module _ (s : Surroundings) (p : List ℕ) (e : WExpr) where
    pub not_made : at_place row p s (bare_expr e) ≡ None → changed row as_they_are s p (bare_expr e) ≡ None
    not_made is = nothing_there (made_at row e s p e) (asked_of_found row s p (bare_expr e) ∙ is)

    pub is_made : (by : WExpr) (r : WExpr × WExpr) → at_place row p s (bare_expr e) ≡ Some (bare_expr by) → exchanged by p e ≡ Some r → changed row as_they_are s p (bare_expr e) ≡ Some (bare_expr r.1)
    is_made by r is put = something_there (made_at row by s p e) (asked_of_found row s p (bare_expr e) ∙ is) put

    pub is_put : (by : WExpr) (x : NExpr) → at_place row p s (bare_expr e) ≡ Some x → exchanged by p e ≡ None → ⊥
    is_put by x is absent = some_there (made_at row by s p e) (asked_of_found row s p (bare_expr e) ∙ is) absent
