-- How a fault of a part is the fault of the whole.
use Rattle.std.proofs.Common.{◌≡◌, ◌∙◌, sym, ap, subst, ℕ, [], None, Result, Err}
use Rattle.fc_syntax.specs.declared.fault.FaultKind.{FaultKind}
use Rattle.fc_model.specs.Faulting.{F, At, and_then, under}
use Rattle.fc_model.specs.Says.{Deepens, IsFlaw, Refuses, Says}
use Rattle.fc_model.specs.declared.flaw.Flawed.{Flawed}
use Rattle.fc_model.specs.declared.flaw.Flawed.TheVariants.{Memory, Flaw as OfFlaw}

-- the answer is this fault
pub refused : {X Y : Type 0} (v : X → Y) (a : Result X Flawed) (f : Flawed) (r : Result Y F) → Refuses f r → a ≡ Err f → Says v a r
refused v a f r h is = subst (λ x. Says v x r) (sym is) h

-- what comes first fails
pub refuses_then : {Y W : Type 0} (f : Flawed) (r : Result Y F) (go : Y → Result W F) → Refuses f r → Refuses f (and_then r go)
refuses_then Memory r go h = tt
refuses_then (OfFlaw x) r go h = ap (λ q. and_then q go) h

pub fails : {X Y W : Type 0} (v : X → W) (a : Result X Flawed) (f : Flawed) (r : Result Y F) (go : Y → Result W F) → Refuses f r → a ≡ Err f → Says v a (and_then r go)
fails v a f r go h is = refused v a f (and_then r go) (refuses_then f r go h) is

-- a flaw of the piece itself
pub flaw_refuses : (Y : Type 0) (kind : FaultKind) (q : Flawed) → IsFlaw kind q → Refuses {Y = Y} q (Err (At kind None []))
flaw_refuses Y kind Memory h = tt
flaw_refuses Y kind (OfFlaw f) h = ap Err (sym h)

-- a fault of a part, seen from the whole
pub part_refuses : {Y : Type 0} (i : ℕ) (e q : Flawed) (r : Result Y F) → Deepens i e q → Refuses e r → Refuses q (under i r)
part_refuses i Memory q r d s = subst (λ x. Refuses x (under i r)) (sym d) tt
part_refuses i (OfFlaw x) Memory r d s = tt
part_refuses i (OfFlaw x) (OfFlaw y) r d s = ap (under i) s ∙ ap Err (sym d)
