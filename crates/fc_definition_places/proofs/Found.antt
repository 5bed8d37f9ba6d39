-- The right side at the place of a name is the one that is known of the name.
use Rattle.std.proofs.Common.{◌≡◌, refl, ap, ◌∙◌, arith, ℕ, suc, ◌+◌, true, false, if◌then◌else◌, List, [], ◌∷◌, Option, Some, None, slice_get}
use Rattle.std.specs.Option.{option_and_then, option_map}
use Rattle.std.specs.Str.{bytes_eq}
use Rattle.fc_syntax.specs.Tree.{Word}
use Rattle.fc_model.specs.Kinding.{decls_of_module}
use Rattle.fc_model.specs.Nameless.{NDecl, NData, NNew, NFamily, NAxiom, NDef, NWrap, NExpr, NModule, NModuleOf}
use Rattle.fc_reaching.specs.Numbering.{number_from}
use Rattle.fc_rows.specs.Surroundings.{known_definition, known_of}
use Rattle.fc_known.specs.Told.{right_side}
use Rattle.fc_definition_places.specs.Places.{HasPlaces, place_from, place_of, placed, right_at, right_of, right_within, at}
use Rattle.fc_definition_places.specs.declared.keys.DefinitionPlace.{DefinitionPlace}
use Rattle.fc_definition_places.specs.declared.places.DefinitionPlaces.{DefinitionPlaces}

-- ---- a look at what stands from a number on

here : {X : Type 0} (see : ℕ → Option X) (k : ℕ) (x : X) (xs : List X) → ((i : ℕ) → see (k + i) ≡ slice_get (x ∷ xs) i) → see k ≡ Some x
here see k x xs h = ap see (let e : k ≡ k + 0 = omega arith in e) ∙ h 0

further : {X : Type 0} (see : ℕ → Option X) (k : ℕ) (x : X) (xs : List X) → ((i : ℕ) → see (k + i) ≡ slice_get (x ∷ xs) i) → (i : ℕ) → see ((k + 1) + i) ≡ slice_get xs i
further see k x xs h i = ap see (let e : (k + 1) + i ≡ k + suc i = omega arith in e) ∙ h (suc i)

-- ---- declarations

right_seen : (ℕ → Option NDecl) → Option ℕ → Option NExpr
right_seen see found = option_and_then (λ i. option_and_then right_of (see i)) found

defined_here : (see : ℕ → Option NDecl) (k : ℕ) (d : NDecl) (e : NExpr) (w n : Word) (ds : List NDecl) → see k ≡ Some d → right_of d ≡ Some e
    → right_side (right_seen see (number_from (k + 1) ds w)) ≡ known_definition ds w
    → right_side (right_seen see (if bytes_eq n w then Some k else number_from (k + 1) ds w)) ≡ (if bytes_eq n w then known_of e else known_definition ds w)
unfolding right_seen
defined_here see k d e w n ds seen is later = elim (bytes_eq n w) as (λ b. right_side (right_seen see (if b then Some k else number_from (k + 1) ds w)) ≡ (if b then known_of e else known_definition ds w)) [
  | true ↦ ap right_side (ap (option_and_then right_of) seen ∙ is)
  | false ↦ later
]

right_known : (see : ℕ → Option NDecl) (k : ℕ) (ds : List NDecl) (w : Word) → ((i : ℕ) → see (k + i) ≡ slice_get ds i) → right_side (right_seen see (number_from k ds w)) ≡ known_definition ds w
unfolding right_seen
right_known see k [] w h = refl
right_known see k (NData n ps cs ∷ ds) w h = right_known see (k + 1) ds w (further see k _ ds h)
right_known see k (NNew n ps t con ∷ ds) w h = right_known see (k + 1) ds w (further see k _ ds h)
right_known see k (NFamily n ps j ∷ ds) w h = right_known see (k + 1) ds w (further see k _ ds h)
right_known see k (NAxiom n ps t u ∷ ds) w h = right_known see (k + 1) ds w (further see k _ ds h)
right_known see k (NDef n t e ∷ ds) w h = defined_here see k (NDef n t e) e w n ds (here see k _ ds h) refl (right_known see (k + 1) ds w (further see k _ ds h))
right_known see k (NWrap n t e ∷ ds) w h = defined_here see k (NWrap n t e) e w n ds (here see k _ ds h) refl (right_known see (k + 1) ds w (further see k _ ds h))

-- ---- modules

placed_seen : (ℕ → Option NModule) → Option (ℕ × ℕ) → Option NExpr
placed_seen see found = option_and_then (λ p. option_and_then (right_within p.1) (see p.0)) found

seen_there : (see : ℕ → Option NModule) (k : ℕ) (n : Word) (imports exports hidden : List Word) (ds : List NDecl) (found : Option ℕ) → see k ≡ Some (NModuleOf n imports exports hidden ds)
    → placed_seen see (placed k found) ≡ right_seen (slice_get ds) found
unfolding placed_seen right_seen
seen_there see k n imports exports hidden ds None e = refl
seen_there see k n imports exports hidden ds (Some i) e = ap (option_and_then (right_within i)) e

place_known : (see : ℕ → Option NModule) (k : ℕ) (ms : List NModule) (m w : Word) → ((i : ℕ) → see (k + i) ≡ slice_get ms i)
    → right_side (placed_seen see (place_from k ms m w)) ≡ known_definition (decls_of_module ms m) w
unfolding placed_seen
place_known see k [] m w h = refl
place_known see k (NModuleOf n imports exports hidden ds ∷ ms) m w h =
    elim (bytes_eq n m) as (λ b. right_side (placed_seen see (if b then placed k (number_from 0 ds w) else place_from (k + 1) ms m w)) ≡ known_definition (if b then ds else decls_of_module ms m) w) [
      | true ↦ ap right_side (seen_there see k n imports exports hidden ds (number_from 0 ds w) (here see k _ ms h)) ∙ right_known (slice_get ds) 0 ds w (λ i. ap (slice_get ds) (let e : 0 + i ≡ i = omega arith in e))
      | false ↦ place_known see (k + 1) ms m w (further see k _ ms h)
    ]

-- what stands at the place that a table has
stands_there : (ms : List NModule) (o : Option DefinitionPlace) → option_and_then (λ p. right_at ms (place_of p)) o ≡ placed_seen (slice_get ms) (option_map place_of o)
unfolding placed_seen
stands_there ms None = refl
stands_there ms (Some p) = refl

-- the right side that is found by a table is what is known of the word
pub found_known : (ms : List NModule) (p : DefinitionPlaces) (m w : Word) (o : Option DefinitionPlace) (r : Option NExpr) → HasPlaces ms p → o ≡ at p.table m w
    → r ≡ option_and_then (λ q. right_at ms (place_of q)) o → right_side r ≡ known_definition (decls_of_module ms m) w
found_known ms p m w o r has is e =
    ap right_side (e ∙ stands_there ms o ∙ ap (placed_seen (slice_get ms)) (ap (option_map place_of) is ∙ has.places m w))
    ∙ place_known (slice_get ms) 0 ms m w (λ i. ap (slice_get ms) (let e : 0 + i ≡ i = omega arith in e))
