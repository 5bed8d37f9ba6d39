-- Places of definitions stay while right sides change.
use Rattle.std.proofs.Common.{◌≡◌, refl, sym, ap, ◌∙◌, ℕ, ◌+◌, if◌then◌else◌, List, [], ◌∷◌, map, Some}
use Rattle.std.specs.Str.{bytes_eq}
use Rattle.fc_syntax.specs.Tree.{Word}
use Rattle.fc_model.specs.Nameless.{NExpr, NDecl, NData, NNew, NFamily, NAxiom, NDef, NWrap, NModule, NModuleOf}
use Rattle.fc_outlines.specs.Outlines.{outlined_all, outlined_decl}
use Rattle.fc_outlines.specs.RightSides.{Righted, righted_def, righted_wrap, righted_later}
use Rattle.fc_reaching.specs.Numbering.{number_from}
use Rattle.fc_definition_places.specs.Places.{HasPlaces, place_from, place_in, placed}
use Rattle.fc_definition_places.specs.declared.places.DefinitionPlaces.{DefinitionPlaces}

-- a table serves all modules that define words at the same places
pub places_stay : (ms ks : List NModule) → ((m w : Word) → place_in ks m w ≡ place_in ms m w) → (p : DefinitionPlaces) → HasPlaces ms p → HasPlaces ks p
places_stay ms ks same p has = record { places = λ m w. has.places m w ∙ sym (same m w) }

-- the same is found behind another
found_behind : {X : Type 0} (v w : Word) (x y z : X) → y ≡ z → (if bytes_eq v w then x else y) ≡ (if bytes_eq v w then x else z)
found_behind v w x y z h = ap (λ o. if bytes_eq v w then x else o) h

-- RIGHT SIDES

righted_numbers : {R : NExpr → NExpr → Type 0} {ds es : List NDecl} → Righted R ds es → (k : ℕ) (w : Word) → number_from k es w ≡ number_from k ds w
righted_numbers (righted_def r) k w = refl
righted_numbers (righted_wrap r) k w = refl
righted_numbers (righted_later {d = NData n ps cs} r) k w = righted_numbers r (k + 1) w
righted_numbers (righted_later {d = NNew n ps t con} r) k w = righted_numbers r (k + 1) w
righted_numbers (righted_later {d = NFamily n ps j} r) k w = righted_numbers r (k + 1) w
righted_numbers (righted_later {d = NAxiom n ps t u} r) k w = righted_numbers r (k + 1) w
righted_numbers (righted_later {d = NDef n t e} r) k w = found_behind n w (Some k) _ _ (righted_numbers r (k + 1) w)
righted_numbers (righted_later {d = NWrap n t e} r) k w = found_behind n w (Some k) _ _ (righted_numbers r (k + 1) w)

-- a module with another right side, before the same modules, has the same places
pub righted_places : (m : Word) (imports exports hidden : List Word) {R : NExpr → NExpr → Type 0} {ds es : List NDecl} (rest : List NModule) → Righted R ds es → (v w : Word)
    → place_in (NModuleOf m imports exports hidden es ∷ rest) v w ≡ place_in (NModuleOf m imports exports hidden ds ∷ rest) v w
righted_places m imports exports hidden rest r v w = ap (λ found. if bytes_eq m v then placed 0 found else place_from (0 + 1) rest v w) (righted_numbers r 0 w)

-- OUTLINES

outlined_numbers : (k : ℕ) (ds : List NDecl) (w : Word) → number_from k (map outlined_decl ds) w ≡ number_from k ds w
outlined_numbers k [] w = refl
outlined_numbers k (NData n ps cs ∷ ds) w = outlined_numbers (k + 1) ds w
outlined_numbers k (NNew n ps t con ∷ ds) w = outlined_numbers (k + 1) ds w
outlined_numbers k (NFamily n ps j ∷ ds) w = outlined_numbers (k + 1) ds w
outlined_numbers k (NAxiom n ps t u ∷ ds) w = outlined_numbers (k + 1) ds w
outlined_numbers k (NDef n t e ∷ ds) w = found_behind n w (Some k) _ _ (outlined_numbers (k + 1) ds w)
outlined_numbers k (NWrap n t e ∷ ds) w = found_behind n w (Some k) _ _ (outlined_numbers (k + 1) ds w)

outlined_from : (k : ℕ) (ms : List NModule) (m w : Word) → place_from k (outlined_all ms) m w ≡ place_from k ms m w
outlined_from k [] m w = refl
outlined_from k (NModuleOf n imports exports hidden ds ∷ ms) m w =
    ap (λ found. if bytes_eq n m then placed k found else place_from (k + 1) (outlined_all ms) m w) (outlined_numbers 0 ds w)
    ∙ found_behind n m (placed k (number_from 0 ds w)) _ _ (outlined_from (k + 1) ms m w)

-- outlines define words where the modules do
pub outlined_places : (ms : List NModule) (m w : Word) → place_in (outlined_all ms) m w ≡ place_in ms m w
outlined_places ms m w = outlined_from 0 ms m w
