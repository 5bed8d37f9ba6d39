-- Where a text cannot go on, counted in tokens.
use Rattle.std.specs.Prelude.{◌≡◌, ℕ, List, ◌++◌, length}
use Rattle.fc_model.specs.Words.{Tok}
use Rattle.fc_model.specs.FileForms.{FileForm}
use Rattle.fc_model.specs.ReadFaults.{Begins, CannotGoOn}

-- n tokens are left from the first one on that cannot go on, which is the end of the tokens where n is 0
pub record FirstBad (f : FileForm) (ts : List Tok) (n : ℕ) : Type 0 where
  pub good : List Tok
  pub bad : List Tok
  pub parts : ts ≡ good ++ bad
  pub left : length bad ≡ n
  pub begins : Begins f good
  pub stops : CannotGoOn f good bad
