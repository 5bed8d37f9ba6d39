-- In build order each module is ready behind those before it.
use Rattle.std.proofs.Common.{◌≡◌, ℕ, zero, suc, Bool, true, false, if◌then◌else◌, List, [], ◌∷◌, Option, Some, None, refl, subst}
use Rattle.fc_syntax.specs.Tree.{Word, Module}
use Rattle.fc_model.specs.Headers.{name_of}
use Rattle.fc_model.specs.Planning.{built_behind, first_ready, is_ready}
use Rattle.fc_resolved_names.proofs.Obeying.{some_some}

-- each of these modules is ready behind those of these names and those before it
pub data AreReady : List Word → List Module → Type 0 where
  none_ready : {built : List Word} → AreReady built []
  one_ready : {built : List Word} {m : Module} {ms : List Module} → is_ready built m ≡ true → AreReady (name_of m ∷ built) ms → AreReady built (m ∷ ms)

-- the first that is ready is, where it is so for those behind the first of all
one_is_ready : (built : List Word) (m k : Module) (o : Option Module) (b : Bool) → is_ready built m ≡ b → (o ≡ Some k → is_ready built k ≡ true) → (if b then Some m else o) ≡ Some k
    → is_ready built k ≡ true
one_is_ready built m k o true ready later same = subst (λ x. is_ready built x ≡ true) (some_some m k same) ready
one_is_ready built m k o false ready later same = later same

first_is_ready : (built : List Word) (ms : List Module) (k : Module) → first_ready built ms ≡ Some k → is_ready built k ≡ true
first_is_ready built [] k h = absurd cc
first_is_ready built (m ∷ ms) k h = one_is_ready built m k (first_ready built ms) (is_ready built m) refl (first_is_ready built ms k) h

next_are_ready : (built : List Word) (most : ℕ) (ms : List Module) (o : Option Module) → first_ready built ms ≡ o
    → ((m : Module) → AreReady (name_of m ∷ built) (built_behind most (name_of m ∷ built) ms))
    → AreReady built (elim o [ Some m ↦ m ∷ built_behind most (name_of m ∷ built) ms | None ↦ [] ])
next_are_ready built most ms (Some m) h more = one_ready (first_is_ready built ms m h) (more m)
next_are_ready built most ms None h more = none_ready

pub built_are_ready : (most : ℕ) (built : List Word) (ms : List Module) → AreReady built (built_behind most built ms)
built_are_ready zero built ms = none_ready
built_are_ready (suc most) built ms = next_are_ready built most ms (first_ready built ms) refl (λ m. built_are_ready most (name_of m ∷ built) ms)
