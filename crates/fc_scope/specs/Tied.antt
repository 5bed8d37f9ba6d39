-- A table from each word of a list to the number of words up to its last place.
use Rattle.std.specs.Prelude.{◌≡◌, ℕ, ◌+◌, List, length, reverse, Option, Some, None}
use Rattle.fc_syntax.specs.Tree.{Word}
use Rattle.fc_model.specs.Resolution.{index_of}

-- a distance from the end, and the number of words up to there
abbrev pub AreOfOnePlace : ℕ → Option ℕ → Option ℕ → Type 0
AreOfOnePlace count (Some distance) (Some last) = distance + last ≡ count
AreOfOnePlace count (Some distance) None = ⊥
AreOfOnePlace count None (Some last) = ⊥
AreOfOnePlace count None None = Unit {0}

pub record IsTied (words : List Word) (count : ℕ) (last : Word → Option ℕ) : Type 0 where
  pub count_is : count ≡ length words
  pub last_is : (w : Word) → AreOfOnePlace count (index_of (reverse words) w) (last w)
