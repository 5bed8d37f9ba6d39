-- How tokens are read by the rows of the grammar, one at a time.
use Rattle.std.specs.Prelude.{◌≡◌, ℕ, suc, List, [], ◌∷◌, length, Some, None}
use Rattle.fc_model.specs.Words.{Tok}
use Rattle.fc_model.specs.Grammar.{Part, Given, Steps, gives, ◌▸◌, and_then, row_of}

-- what comes of reading: what is given and the tokens behind it, or how many tokens are left from the first on that cannot stand where
-- it stands, which are none at the end of the tokens
pub data Outcome (A : Type 0) : Type 0 where
  Got : (x : A) (rest : List Tok) → Outcome A
  Stuck : (left : ℕ) → Outcome A

-- the tokens, by what is still to come
abbrev pub read_steps : {A : Type 0} → List Tok → Steps A → Outcome A
read_steps ts (gives x) = Got x ts
read_steps [] (p ▸ f) = Stuck 0
read_steps (t ∷ ts) (p ▸ f) = elim (row_of p t) [ None ↦ Stuck (suc (length ts)) | Some st ↦ read_steps ts (and_then st f) ]

-- the tokens, as a part
abbrev pub read_part : (p : Part) → List Tok → Outcome (Given p)
read_part p ts = read_steps ts (p ▸ λ x. gives x)

-- the tokens begin with a text of what is given, and the rest follows it
abbrev pub Reads : (p : Part) → List Tok → Given p → List Tok → Type 0
Reads p ts x rest = read_part p ts ≡ Got x rest
