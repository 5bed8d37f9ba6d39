-- What a search finds applies; and where it finds nothing, nothing does.
use Rattle.std.specs.Prelude.{◌≡◌, ℕ, ◌-◌, true, false, List, [], length, Some}
use Rattle.fc_log.specs.declared.log.Row.{Row}
use Rattle.fc_model.specs.Kinding.{Modules}
use Rattle.fc_model.specs.Nameless.{NExpr}
use Rattle.fc_parts.specs.Found.{found}
use Rattle.fc_rows.specs.Surroundings.{Surroundings}
use Rattle.fc_row_at_place.specs.Rows.{built_row}
use Rattle.fc_search_laws.specs.Searching.{Answered, Applies, Quiet, fits, searched}

-- A row applies at a place of an expression that may be so deep: there is a part at that place, the row makes this of it, and it may stand there.
pub record AppliesAt (ms : Modules) (spare n : ℕ) (s : Surroundings) (e : NExpr) (r : Row) (i : ℕ) (q : List ℕ) (x : NExpr) : Type 0 where
  pub around : Surroundings
  pub part : NExpr
  pub there : found s q e ≡ Some (around, part)
  pub makes : built_row ms r i around part ≡ Some x
  pub fitted : fits (n - length q) spare part x ≡ true

-- the row that a search finds applies at the place that it finds, wherever the search begins
abbrev pub WhatIsFoundApplies : Type 0
WhatIsFoundApplies = (ms : Modules) (spare n : ℕ) (from : List ℕ) (s : Surroundings) (e : NExpr) (r : Row) (i : ℕ) (q : List ℕ) (x : NExpr)
    → searched ms spare n from s e ≡ Some (Applies r i q x) → AppliesAt ms spare n s e r i q x

-- where a search of the whole finds nothing, what a row makes of any part may not stand there
abbrev pub NothingElseApplies : Type 0
NothingElseApplies = (ms : Modules) (spare n : ℕ) (s : Surroundings) (e : NExpr) → searched ms spare n [] s e ≡ Some Quiet → (q : List ℕ) (t : Surroundings) (f : NExpr) (r : Row) (i : ℕ) (x : NExpr)
    → found s q e ≡ Some (t, f) → built_row ms r i t f ≡ Some x → fits (n - length q) spare f x ≡ false

-- a search always answers
abbrev pub SearchAnswers : Type 0
SearchAnswers = (ms : Modules) (spare n : ℕ) (from : List ℕ) (s : Surroundings) (e : NExpr) → (a : Answered) × (searched ms spare n from s e ≡ Some a)
