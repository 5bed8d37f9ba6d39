-- Closed terms of one program that come to the same heads, in whatever number of steps.
use Rattle.std.specs.Prelude.{ℕ}
use Rattle.fc_model.specs.Stepping.{Program, Reaches}
use Rattle.fc_model.specs.Terms.{Term}

-- u comes to each head that t comes to
abbrev pub Follows : Program → Term → Term → Type 0
Follows P t u = (k : ℕ) (h : Term) → Reaches P t k h → (l : ℕ) × Reaches P u l h

-- each comes to the heads of the other
abbrev pub SameHeads : Program → Term → Term → Type 0
SameHeads P t u = Follows P t u × Follows P u t
