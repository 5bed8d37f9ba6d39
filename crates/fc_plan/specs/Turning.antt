-- Modules that are built one after the other, by their numbers.
use Rattle.std.specs.Prelude.{◌≡◌, ℕ, ◌+◌, Bool, false, not, ◌&&◌, if◌then◌else◌, List, [], ◌∷◌, ◌++◌, map, reverse, slice_get, slice_index_or, Option, Some, None}
use Rattle.std.specs.List.{list_all}
use Rattle.fc_syntax.specs.Tree.{Word, Module}
use Rattle.fc_plan.specs.Modules.{names_of}
use Rattle.fc_plan.specs.Numbering.{AreNeeds, has_passing, number_in}
use Rattle.fc_model.specs.Planning.{build_order, built_behind, first_repeated, is_among}

-- a number is marked
abbrev pub is_marked : List Bool → ℕ → Bool
is_marked marks n = slice_index_or marks n false

-- the first number that is not built and needs none that is not, where the first of them is k
abbrev pub first_free : (ℕ → Bool) → ℕ → List (List ℕ) → Option ℕ
first_free built k [] = None
first_free built k (ns ∷ needs) = if not (built k) && list_all built ns then Some k else first_free built (k + 1) needs

-- the first word whose number is not built, where the first of them has the number k
abbrev pub first_unbuilt : (ℕ → Bool) → ℕ → List Word → Option Word
first_unbuilt built k [] = None
first_unbuilt built k (w ∷ ws) = if built k then first_unbuilt built (k + 1) ws else Some w

-- Modules are built in this order so far, which are those that are marked, and as many more at most are built behind them.
pub record IsUnderway (ms : List Module) (marks : List Bool) (order : List ℕ) (most : ℕ) : Type 0 where
  pub built : List Word
  pub marked : (w : Word) → is_among built w ≡ has_passing (number_in ms) (is_marked marks) w
  pub names : reverse built ++ names_of (built_behind most built ms) ≡ names_of (build_order ms)
  pub numbers : map (slice_get ms) order ++ map Some (built_behind most built ms) ≡ map Some (build_order ms)

-- the same of every set of modules, each of its own name, that need these numbers
abbrev pub AreUnderway : List (List ℕ) → List Bool → List ℕ → ℕ → Type 0
AreUnderway needs marks order most = (ms : List Module) → first_repeated [] (names_of ms) ≡ None → AreNeeds (number_in ms) ms needs → IsUnderway ms marks order most
