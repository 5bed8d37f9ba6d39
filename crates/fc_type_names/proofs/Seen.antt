-- One word more among words of which none hides another.
use Rattle.std.proofs.Common.{◌≡◌, ℕ, zero, suc, ◌+◌, List, [], ◌∷◌, Bool, true, false, Some, None, option_map, bytes_eq, if◌then◌else◌, refl, ap, subst, ◌∙◌, add-one, slice_get}
use Rattle.fc_syntax.specs.Tree.{Word}
use Rattle.fc_model.specs.Resolution.{index_of}
use Rattle.fc_model.proofs.Sameness.{bytes_eq_eq, bytes_eq_refl}
use Rattle.fc_type_names.specs.Meant.{AreSeen}

here : (v w : Word) (ws : List Word) → Some v ≡ Some w → index_of (v ∷ ws) w ≡ Some 0
here v w ws e =
    let same : v ≡ w = cc in
    subst (λ (x : Word). index_of (v ∷ ws) x ≡ Some 0) same (ap (λ b. if b then Some 0 else option_map (λ j. j + 1) (index_of ws v)) (bytes_eq_refl v))

past : (v w : Word) (ws : List Word) (i : ℕ) (b : Bool) → bytes_eq v w ≡ b → index_of ws v ≡ None → index_of ws w ≡ Some i
    → (if b then Some 0 else option_map (λ j. j + 1) (index_of ws w)) ≡ Some (suc i)
past v w ws i true e none some = let same : index_of ws v ≡ index_of ws w = ap (index_of ws) (bytes_eq_eq v w e) in absurd cc
past v w ws i false e none some = ap (option_map (λ j. j + 1)) some ∙ ap (λ j. Some j) (add-one i)

-- a word that is not among them hides none of them
pub seen_more : (v : Word) (ws : List Word) → index_of ws v ≡ None → AreSeen ws → AreSeen (v ∷ ws)
seen_more v ws none seen = record { found = by }
  where
    by : (i : ℕ) (w : Word) → slice_get (v ∷ ws) i ≡ Some w → index_of (v ∷ ws) w ≡ Some i
    by zero w e = here v w ws e
    by (suc i) w e = past v w ws i (bytes_eq v w) refl none (seen.found i w e)

-- no word hides another where there is none
pub seen_none : AreSeen []
seen_none = record { found = λ i w e. absurd cc }

pub ruleset seen_rules = (seen_none, seen_more)
