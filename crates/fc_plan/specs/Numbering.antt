-- The numbers of modules, and of those that they import.
use Rattle.std.specs.Prelude.{◌≡◌, ℕ, ◌+◌, Bool, false, List, [], ◌∷◌, Option, Some, None, if◌then◌else◌}
use Rattle.std.specs.List.{AllZip, list_all}
use Rattle.std.specs.Option.{option_map_or}
use Rattle.std.specs.Str.{bytes_eq}
use Rattle.indexmap.specs.IndexMap.{IndexMap, get_by}
use Rattle.fc_syntax.specs.Tree.{Word, Module}
use Rattle.fc_plan.specs.Modules.{names_of}
use Rattle.fc_model.specs.Headers.{imports_of}
use denote.Ref.{Bor}

-- what a table has at a word
abbrev pub at : {V S : Type 0} → IndexMap (Bor (List ℕ)) V S → Word → Option V
at table w = get_by (λ k. bytes_eq w k.now) table

-- the number of a word among these, of which the first has the number k
abbrev pub number_among : ℕ → List Word → Word → Option ℕ
number_among k [] w = None
number_among k (v ∷ vs) w = if bytes_eq v w then Some k else number_among (k + 1) vs w

-- the number of the module of a name
abbrev pub number_in : List Module → Word → Option ℕ
number_in ms w = number_among 0 (names_of ms) w

-- these are the numbers of the modules by their names
abbrev pub AreNumbers : List Module → (Word → Option ℕ) → Type 0
AreNumbers ms number = (w : Word) → number w ≡ number_in ms w

-- a word has a number that passes a test
abbrev pub has_passing : (Word → Option ℕ) → (ℕ → Bool) → Word → Bool
has_passing number test w = option_map_or test (number w) false

-- these are the numbers of the words, in any order and as often: a test passes at all of them where it passes at the number of each word
abbrev pub AreNumbersOf : (Word → Option ℕ) → List Word → List ℕ → Type 0
AreNumbersOf number ws ns = (test : ℕ → Bool) → list_all test ns ≡ list_all (has_passing number test) ws

-- for each module the numbers of those that it imports
abbrev pub AreNeeds : (Word → Option ℕ) → List Module → List (List ℕ) → Type 0
AreNeeds number ms needs = AllZip (λ m ns. AreNumbersOf number (imports_of m) ns) ms needs
