-- Types past type variables, one after the other and back.
use Rattle.std.proofs.Common.{◌≡◌, ℕ, zero, suc, ◌+◌, ◌-◌, List, [], ◌∷◌, map, refl, sym, ap, ◌∙◌, arith}
use Rattle.fc_model.specs.Coercing.{Ends, ends}
use Rattle.fc_model.specs.Nameless.{NTy, NTVar, NTCon, NTInt, NTApp, NTFun, NTForall, NTCoForall}
use Rattle.fc_model.specs.Substituting.{raised_type, renamed_type, renaming_below, shifted_type}

abbrev Same : (ℕ → ℕ) → (ℕ → ℕ) → Type 0
Same r s = (i : ℕ) → r i ≡ s i

below_same : (r s : ℕ → ℕ) → Same r s → Same (renaming_below r) (renaming_below s)
below_same r s e zero = refl
below_same r s e (suc i) = ap suc (e i)

renamed_same : (r s : ℕ → ℕ) → Same r s → (t : NTy) → renamed_type r t ≡ renamed_type s t
renamed_same r s e (NTVar i) = ap NTVar (e i)
renamed_same r s e (NTCon n) = refl
renamed_same r s e NTInt = refl
renamed_same r s e (NTApp t u) = cc (renamed_same r s e t, renamed_same r s e u)
renamed_same r s e (NTFun t u) = cc (renamed_same r s e t, renamed_same r s e u)
renamed_same r s e (NTForall k t) = ap (λ x. NTForall k x) (renamed_same (renaming_below r) (renaming_below s) (below_same r s e) t)
renamed_same r s e (NTCoForall o t u v) = cc (renamed_same r s e t, renamed_same r s e u, renamed_same r s e v)

below_compose : (r s : ℕ → ℕ) → Same (λ i. renaming_below s (renaming_below r i)) (renaming_below (λ i. s (r i)))
below_compose r s zero = refl
below_compose r s (suc i) = refl

pub renamed_compose : (r s : ℕ → ℕ) (t : NTy) → renamed_type s (renamed_type r t) ≡ renamed_type (λ i. s (r i)) t
renamed_compose r s (NTVar i) = refl
renamed_compose r s (NTCon n) = refl
renamed_compose r s NTInt = refl
renamed_compose r s (NTApp t u) = cc (renamed_compose r s t, renamed_compose r s u)
renamed_compose r s (NTFun t u) = cc (renamed_compose r s t, renamed_compose r s u)
renamed_compose r s (NTForall k t) =
    ap (λ x. NTForall k x) (renamed_compose (renaming_below r) (renaming_below s) t
    ∙ renamed_same (λ i. renaming_below s (renaming_below r i)) (renaming_below (λ i. s (r i))) (below_compose r s) t)
renamed_compose r s (NTCoForall o t u v) = cc (renamed_compose r s t, renamed_compose r s u, renamed_compose r s v)

below_itself : (r : ℕ → ℕ) → ((i : ℕ) → r i ≡ i) → (i : ℕ) → renaming_below r i ≡ i
below_itself r e zero = refl
below_itself r e (suc i) = ap suc (e i)

renamed_itself : (r : ℕ → ℕ) → ((i : ℕ) → r i ≡ i) → (t : NTy) → renamed_type r t ≡ t
renamed_itself r e (NTVar i) = ap NTVar (e i)
renamed_itself r e (NTCon n) = refl
renamed_itself r e NTInt = refl
renamed_itself r e (NTApp t u) = cc (renamed_itself r e t, renamed_itself r e u)
renamed_itself r e (NTFun t u) = cc (renamed_itself r e t, renamed_itself r e u)
renamed_itself r e (NTForall k t) = ap (λ x. NTForall k x) (renamed_itself (renaming_below r) (below_itself r e) t)
renamed_itself r e (NTCoForall o t u v) = cc (renamed_itself r e t, renamed_itself r e u, renamed_itself r e v)

-- past none it stays
pub raised_none : (t : NTy) → raised_type 0 t ≡ t
raised_none t = renamed_itself (λ i. i + 0) (λ i. omega arith) t

-- past some and then past more is past all of them
pub raised_twice : (m n : ℕ) (t : NTy) → raised_type n (raised_type m t) ≡ raised_type (m + n) t
raised_twice m n t = renamed_compose (λ i. i + m) (λ i. i + n) t ∙ renamed_same (λ i. (i + m) + n) (λ i. i + (m + n)) (λ i. omega arith) t

pub raised_shifted : (m : ℕ) (t : NTy) → raised_type m (shifted_type t) ≡ raised_type (suc m) t
raised_shifted m t = renamed_compose suc (λ i. i + m) t ∙ renamed_same (λ i. suc i + m) (λ i. i + suc m) (λ i. omega arith) t

-- the way back
raised_back : (m : ℕ) (t : NTy) → renamed_type (λ i. i - m) (raised_type m t) ≡ t
raised_back m t = renamed_compose (λ i. i + m) (λ i. i - m) t ∙ renamed_itself (λ i. (i + m) - m) (λ i. omega arith) t

-- what is the same past type variables is the same before them
pub raised_apart : (m : ℕ) (s t : NTy) → raised_type m s ≡ raised_type m t → s ≡ t
raised_apart m s t e = sym (raised_back m s) ∙ ap (renamed_type (λ i. i - m)) e ∙ raised_back m t

pub all_raised_twice : (m n : ℕ) (ts : List NTy) → map (raised_type n) (map (raised_type m) ts) ≡ map (raised_type (m + n)) ts
all_raised_twice m n [] = refl
all_raised_twice m n (t ∷ ts) = cc (raised_twice m n t, all_raised_twice m n ts)

-- what is proved, by its parts
pub same_ends : (d e : Ends) → d.role ≡ e.role → d.left ≡ e.left → d.right ≡ e.right → d ≡ e
same_ends d e r t u = ap (λ o. ends o d.left d.right) r ∙ ap (λ v. ends e.role v d.right) t ∙ ap (λ v. ends e.role e.left v) u
