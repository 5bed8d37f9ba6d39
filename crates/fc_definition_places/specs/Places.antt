-- Where modules define words: the number of a module, and the number of a declaration there.
use Rattle.std.specs.Prelude.{◌≡◌, ℕ, ◌+◌, ◌&&◌, if◌then◌else◌, List, [], ◌∷◌, Option, Some, None, slice_get}
use Rattle.std.specs.Option.{option_and_then, option_map}
use Rattle.std.specs.Str.{bytes_eq}
use Rattle.indexmap.specs.IndexMap.{IndexMap, get_by}
use Rattle.fc_syntax.specs.Tree.{Word}
use Rattle.fc_model.specs.Nameless.{NDecl, NData, NNew, NFamily, NAxiom, NDef, NWrap, NExpr, NModule, NModuleOf}
use Rattle.fc_reaching.specs.Numbering.{number_from}
use Rattle.fc_reaching.specs.Reaching.{decls_in}
use Rattle.fc_definition_places.specs.declared.keys.DefinitionPlace.{DefinitionPlace}
use Rattle.fc_definition_places.specs.declared.keys.WordKey.{WordKey}
use Rattle.fc_definition_places.specs.declared.places.DefinitionPlaces.{DefinitionPlaces}

-- the place of a declaration in the module of the number k
abbrev pub placed : ℕ → Option ℕ → Option (ℕ × ℕ)
placed k found = option_map (λ i. (k, i)) found

-- where the first module of a word m first defines a word w, among modules of which the first has the number k
abbrev pub place_from : ℕ → List NModule → Word → Word → Option (ℕ × ℕ)
place_from k [] m w = None
place_from k (NModuleOf n imports exports hidden ds ∷ ms) m w = if bytes_eq n m then placed k (number_from 0 ds w) else place_from (k + 1) ms m w

-- where modules define a word w of a module m: the number of the first module of that word, and of the first definition of w there
abbrev pub place_in : List NModule → Word → Word → Option (ℕ × ℕ)
place_in ms m w = place_from 0 ms m w

-- the right side of a declaration that is a definition
abbrev pub right_of : NDecl → Option NExpr
right_of (NData n ps cs) = None
right_of (NNew n ps t con) = None
right_of (NFamily n ps k) = None
right_of (NAxiom n ps t u) = None
right_of (NDef n t e) = Some e
right_of (NWrap n t e) = Some e

-- the right side at the number i of a module
abbrev pub right_within : ℕ → NModule → Option NExpr
right_within i m = option_and_then right_of (slice_get (decls_in m) i)

-- the right side at a place
abbrev pub right_at : List NModule → ℕ × ℕ → Option NExpr
right_at ms p = option_and_then (right_within p.1) (slice_get ms p.0)

-- what a table has at a word of a module
abbrev pub at : {V S : Type 0} → IndexMap WordKey V S → Word → Word → Option V
at table m w = get_by (λ k. bytes_eq m k.module.now && bytes_eq w k.word.now) table

abbrev pub place_of : DefinitionPlace → ℕ × ℕ
place_of p = (p.module, p.decl)

-- the place that a table has at a word of a module
abbrev pub place_at : {S : Type 0} → IndexMap WordKey DefinitionPlace S → Word → Word → Option (ℕ × ℕ)
place_at table m w = option_map place_of (at table m w)

-- the table has the place of each definition of modules
pub record HasPlaces (ms : List NModule) (p : DefinitionPlaces) : Type 0 where
  pub places : (m w : Word) → place_at p.table m w ≡ place_in ms m w
