-- Judgements that give an answer or the first premise that fails, with its place. Their clauses stand in the order in which
-- the premises are judged.
use Rattle.std.specs.Prelude.{ℕ, zero, suc, Bool, true, false, List, [], ◌∷◌, Option, Some, None, Result, Ok, Err}
use Rattle.fc_syntax.specs.declared.fault.FaultKind.{FaultKind}
use Rattle.fc_syntax.specs.declared.fault.FaultKind.TheVariants.{Unbound}
use Rattle.fc_syntax.specs.Tree.{Word}

-- a premise that fails: the declaration, where it stands in one, and the part numbers from the piece that is judged on
pub data F : Type 0 where
  At : (kind : FaultKind) (def : Option Word) (path : List ℕ) → F

-- a premise of the piece itself
abbrev pub need : {X : Type 0} → Bool → FaultKind → Result X F → Result X F
need true kind r = r
need false kind r = Err (At kind None [])

-- a judgement of the part with this number
abbrev pub under : {X : Type 0} → ℕ → Result X F → Result X F
under i (Ok x) = Ok x
under i (Err (At kind def path)) = Err (At kind def (i ∷ path))

-- a judgement of the declaration of this word
abbrev pub within : {X : Type 0} → Word → Result X F → Result X F
within w (Ok x) = Ok x
within w (Err (At kind def path)) = Err (At kind (Some w) path)

-- one judgement, and then another
abbrev pub and_then : {X Y : Type 0} → Result X F → (X → Result Y F) → Result Y F
and_then (Ok x) go = go x
and_then (Err f) go = Err f

-- what is in scope at a distance, the innermost first
abbrev pub at_distance : {X : Type 0} → List X → ℕ → Result X F
at_distance [] i = Err (At Unbound None [])
at_distance (x ∷ xs) zero = Ok x
at_distance (x ∷ xs) (suc i) = at_distance xs i
