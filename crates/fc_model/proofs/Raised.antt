-- A type past binders of type variables has none of their variables.
use Rattle.std.proofs.Common.{◌≡◌, ℕ, zero, suc, ◌+◌, ◌≤◌, false, not, ◌&&◌, nat_le, nat_lt, Result, Ok, refl, arith}
use Rattle.std.proofs.lemmas.Bool.Decides.{nat_tests}
use Rattle.fc_syntax.specs.declared.fault.FaultKind.{FaultKind}
use Rattle.fc_model.specs.Faulting.{F}
use Rattle.fc_model.specs.Kinding.{same_type}
use Rattle.fc_model.specs.Nameless.{NTy, NTVar, NTCon, NTInt, NTApp, NTFun, NTForall, NTCoForall}
use Rattle.fc_model.specs.Substituting.{has_innermost, raised_type, renamed_type, renaming_below}
use Rattle.fc_model.specs.Typing.{leaves_as}
use Rattle.fc_model.proofs.Parts.{need_inv}
use Rattle.fc_model.proofs.Sameness.{same_type_eq, same_type_refl}

-- what is past b binders is past m more
abbrev Passes : ℕ → ℕ → ℕ → Type 0
Passes m b i = b ≤ i → b + m ≤ i

-- a variable that is past b binders only where it is past m more is none of those m
variable_passes : (m b i : ℕ) → Passes m b i → (nat_le b i && nat_lt i (b + m)) ≡ false
variable_passes m b i h = grind (arith, nat_tests)

passes_below : (m b : ℕ) (r : ℕ → ℕ) → ((i : ℕ) → Passes m b (r i)) → (i : ℕ) → Passes m (suc b) (renaming_below r i)
passes_below m b r h zero l = omega arith
passes_below m b r h (suc i) l = omega (arith, h i (omega arith))

-- a type whose variables are renamed past m binders has none of theirs
renamed_has_none : (m b : ℕ) (r : ℕ → ℕ) → ((i : ℕ) → Passes m b (r i)) → (t : NTy) → has_innermost m b (renamed_type r t) ≡ false
renamed_has_none m b r h (NTVar i) = variable_passes m b (r i) (h i)
renamed_has_none m b r h (NTCon n) = refl
renamed_has_none m b r h NTInt = refl
renamed_has_none m b r h (NTApp t u) = rw (renamed_has_none m b r h t, renamed_has_none m b r h u) refl
renamed_has_none m b r h (NTFun t u) = rw (renamed_has_none m b r h t, renamed_has_none m b r h u) refl
renamed_has_none m b r h (NTForall k t) = renamed_has_none m (suc b) (renaming_below r) (passes_below m b r h) t
renamed_has_none m b r h (NTCoForall o t u v) = rw (renamed_has_none m b r h t, renamed_has_none m b r h u, renamed_has_none m b r h v) refl

-- a type past m type variables has none of them
pub raised_has_none : (m : ℕ) (t : NTy) → has_innermost m 0 (raised_type m t) ≡ false
raised_has_none m t = renamed_has_none m 0 (λ i. i + m) (λ i l. omega arith) t

-- what leaves the scope of m type variables is of a type past them, and what is asked behind that gave the answer
pub leaves_as_inv : {X : Type 0} (m : ℕ) (u t : NTy) (differs : FaultKind) (r : Result X F) (x : X) → leaves_as m u t differs r ≡ Ok x → (u ≡ raised_type m t) × (r ≡ Ok x)
leaves_as_inv m u t differs r x h =
    let p = need_inv (not (has_innermost m 0 u)) _ _ x h in
    let q = need_inv (same_type u (raised_type m t)) differs r x p.1 in
    (same_type_eq u (raised_type m t) q.0, q.1)

-- a type past m type variables leaves their scope
pub raised_leaves : {X : Type 0} (m : ℕ) (t : NTy) (differs : FaultKind) (r : Result X F) → leaves_as m (raised_type m t) t differs r ≡ r
raised_leaves m t differs r = rw (raised_has_none m t, same_type_refl (raised_type m t)) refl
