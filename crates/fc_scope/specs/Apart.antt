-- The first words of a group, and those behind them.
use Rattle.std.specs.Prelude.{◌≡◌, ℕ, ◌+◌, ◌<◌, ◌≤◌, List, [], length}
use Rattle.fc_syntax.specs.Tree.{Word}

-- there are at most eight first ones, others only behind eight, and no more than a count of 32 bits in all
pub record AreApart (few : ℕ) (many : List Word) : Type 0 where
  pub low : few ≤ 8
  pub full : few < 8 → many ≡ []
  pub counted : few + length many < 4294967296
