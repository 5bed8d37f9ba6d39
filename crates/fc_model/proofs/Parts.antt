-- What follows where a judgement gives an answer: each of its parts gave one, and each of its premises holds. Judgements whose parts
-- are the same are the same.
use Rattle.std.proofs.Common.{◌≡◌, ℕ, Bool, true, false, Result, Ok, Err, refl, ap, ◌∙◌}
use Rattle.fc_syntax.specs.declared.fault.FaultKind.{FaultKind}
use Rattle.fc_model.specs.Faulting.{F, At, need, under, and_then}

-- a fault is no answer
pub err_ok : {Y X : Type 0} {f : F} {x : X} → Err f ≡ Ok x → Y
err_ok h = absurd cc

-- an answer
abbrev pub answer : {X : Type 0} → X → Result X F
answer x = Ok x

-- equal answers are of equals
pub ok_ok : {X : Type 0} {x y : X} → answer x ≡ answer y → x ≡ y
ok_ok h = cc

pub and_then_inv : {X Y : Type 0} (r : Result X F) (go : X → Result Y F) (y : Y) → and_then r go ≡ Ok y → (x : X) × (r ≡ Ok x) × (go x ≡ Ok y)
and_then_inv (Ok x) go y h = (x, refl, h)
and_then_inv (Err f) go y h = err_ok h

pub under_inv : {X : Type 0} (i : ℕ) (r : Result X F) (x : X) → under i r ≡ Ok x → r ≡ Ok x
under_inv i (Ok y) x h = h
under_inv i (Err (At kind def path)) x h = err_ok h

pub need_inv : {X : Type 0} (b : Bool) (kind : FaultKind) (r : Result X F) (x : X) → need b kind r ≡ Ok x → (b ≡ true) × (r ≡ Ok x)
need_inv true kind r x h = (refl, h)
need_inv false kind r x h = err_ok h

-- a part gave an answer, and the rest did with it
pub part : {X Y : Type 0} (i : ℕ) (r : Result X F) (go : X → Result Y F) (y : Y) → and_then (under i r) go ≡ Ok y → (x : X) × (r ≡ Ok x) × (go x ≡ Ok y)
part i r go y h = let p = and_then_inv (under i r) go y h in (p.0, under_inv i r p.0 p.1, p.2)

-- what follows an answer may be replaced by what is the same for each answer
pub and_then_same : {X Y : Type 0} (r : Result X F) (f g : X → Result Y F) → ((x : X) → f x ≡ g x) → and_then r f ≡ and_then r g
and_then_same (Ok x) f g same = same x
and_then_same (Err e) f g same = refl

pub under_same : {X : Type 0} (i : ℕ) (r s : Result X F) → r ≡ s → under i r ≡ under i s
under_same i r s same = ap (under i) same

-- first and second judgements that are the same
pub both_same : {X Y : Type 0} (r s : Result X F) (f g : X → Result Y F) → r ≡ s → ((x : X) → f x ≡ g x) → and_then r f ≡ and_then s g
both_same r s f g first second = and_then_same r f g second ∙ ap (λ x. and_then x g) first
