-- Answers that may be none, tests, and what follows where one holds.
use Rattle.std.proofs.Common.{◌≡◌, Bool, true, false, if◌then◌else◌, cond, Option, Some, None, refl, subst, ap}

value_or : {A : Type 0} → A → Option A → A
value_or a None = a
value_or a (Some x) = x

pub some_is : {A : Type 0} {x y : A} → Some x ≡ Some y → x ≡ y
unfolding value_or
some_is {x = x} e = ap (value_or x) e

pub none_some : {A : Type 0} {x : A} → None ≡ Some x → ⊥
none_some e = cc

-- an answer under a test is given where the test holds
pub cond_some : {A : Type 0} (b : Bool) (x u : A) → cond b (Some x) None ≡ Some u → (b ≡ true) × (x ≡ u)
cond_some true x u e = (refl, some_is e)
cond_some false x u e = absurd (none_some e)

pub false_true : false ≡ true → ⊥
false_true e = cc

pub both_true : (a b : Bool) → cond a b false ≡ true → (a ≡ true) × (b ≡ true)
both_true true b e = (refl, e)
both_true false b e = absurd (false_true e)

-- what holds of both branches holds of a conditional
pub cond_keeps : {A : Type 0} (F : A → Type 0) (b : Bool) (x y : A) → F x → F y → F (cond b x y)
cond_keeps F true x y p q = p
cond_keeps F false x y p q = q

-- what a search finds has a property, if what stands here has it, and what is found further on
pub found_has : {X R : Type 0} (P : X → Type 0) (make : X → R) → ((x y : X) → make x ≡ make y → x ≡ y) → (b : Bool) (here found : X) (further : R) → P here
    → (further ≡ make found → P found) → (if b then make here else further) ≡ make found → P found
found_has P make same true here found further p rest e = subst P (same here found e) p
found_has P make same false here found further p rest e = rest e
