-- How an answer of the code meets a judgement: the value, or the first fault, or out of memory, which tells nothing.
use Rattle.std.specs.Prelude.{◌≡◌, ℕ, ⊤, [], ◌∷◌, reverse, Some, None, Result, Ok, Err}
use Rattle.fc_syntax.specs.Tree.{Word}
use Rattle.fc_syntax.specs.declared.fault.FaultKind.{FaultKind}
use Rattle.fc_model.specs.Faulting.{F, At}
use Rattle.fc_model.specs.declared.flaw.Flaw.{Flaw}
use Rattle.fc_model.specs.declared.flaw.Flawed.{Flawed}
use Rattle.fc_model.specs.declared.flaw.Flawed.TheVariants.{Memory, Flaw as OfFlaw}

-- the numbers of a flaw stand the innermost first
abbrev pub fault_of : Flaw → F
fault_of f = At f.kind f.def (reverse f.path)

abbrev pub Refuses : {Y : Type 0} → Flawed → Result Y F → Type 0
Refuses (OfFlaw f) r = r ≡ Err (fault_of f)
Refuses Memory r = ⊤

abbrev pub Says : {X Y : Type 0} → (X → Y) → Result X Flawed → Result Y F → Type 0
Says view (Ok x) r = r ≡ Ok (view x)
Says view (Err e) r = Refuses e r

-- the same flaw, seen from one level further out
abbrev pub Deepens : ℕ → Flawed → Flawed → Type 0
Deepens i Memory q = q ≡ Memory
Deepens i (OfFlaw f) Memory = ⊤
Deepens i (OfFlaw f) (OfFlaw g) = fault_of g ≡ At f.kind f.def (i ∷ reverse f.path)

-- the same flaw, in a declaration
abbrev pub StandsIn : Word → Flawed → Flawed → Type 0
StandsIn w Memory q = q ≡ Memory
StandsIn w (OfFlaw f) Memory = ⊤
StandsIn w (OfFlaw f) (OfFlaw g) = fault_of g ≡ At f.kind (Some w) (reverse f.path)

-- a flaw of the piece itself
abbrev pub IsFlaw : FaultKind → Flawed → Type 0
IsFlaw kind Memory = ⊥
IsFlaw kind (OfFlaw f) = fault_of f ≡ At kind None []
