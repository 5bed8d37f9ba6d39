-- How far the tokens nest no deeper than brackets may.
use Rattle.std.specs.Prelude.{◌≡◌, ℕ, Bool, true, false, List, [], ◌∷◌, ◌++◌, length}
use Rattle.fc_syntax.specs.Limits.{standard_limits}
use Rattle.fc_model.specs.Words.{Tok, Open}
use Rattle.fc_model.specs.ReadFaults.{nests_within, NestsWithin, level_behind, may_stand}

-- a token may stand at this level, and leaves another behind it
pub record StepsTo (t : Tok) (level next : ℕ) : Type 0 where
  pub stands : may_stand standard_limits.brackets level t ≡ true
  pub behind : level_behind level t ≡ next

-- a token is a bracket that nests too deep
pub record IsTooDeep (t : Tok) (level : ℕ) : Type 0 where
  pub opens : t ≡ Open
  pub deep : may_stand standard_limits.brackets level t ≡ false

-- the tokens end with the first bracket that nests too deep
pub record EndsDeep (all part : List Tok) : Type 0 where
  pub behind : List Tok
  pub good : List Tok
  pub parts : all ≡ part ++ behind
  pub is : part ≡ good ++ Open ∷ []
  pub nested : NestsWithin good
  pub deep : nests_within standard_limits.brackets 0 (good ++ Open ∷ []) ≡ false

pub record NestsAll (all part : List Tok) : Type 0 where
  pub whole : part ≡ all
  pub nested : NestsWithin all

-- the part of the tokens that is read: up to and with the first bracket that nests too deep, where there is one
abbrev pub IsPart : List Tok → List Tok → Bool → Type 0
IsPart all part true = EndsDeep all part
IsPart all part false = NestsAll all part

-- a bracket that nests too deep stands n tokens before the end, and the tokens before it nest within the limit
pub record IsDeepBefore (ts : List Tok) (n : ℕ) : Type 0 where
  pub good : List Tok
  pub bad : List Tok
  pub parts : ts ≡ good ++ (Open ∷ bad)
  pub left : length bad ≡ n
  pub nested : NestsWithin good
  pub deep : nests_within standard_limits.brackets 0 (good ++ Open ∷ []) ≡ false
