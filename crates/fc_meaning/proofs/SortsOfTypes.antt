-- The sort of a type: one of a kind without `#` is lifted. Types in place of variables keep it.
use Rattle.std.proofs.Common.{◌≡◌, ℕ, zero, suc, Bool, true, false, not, ◌||◌, if◌then◌else◌, List, refl, ap, ◌∙◌}
use Rattle.fc_syntax.specs.Tree.{Kind}
use Rattle.fc_model.specs.Calling.{atom_fits, is_unlifted}
use Rattle.fc_model.specs.Erasure.{sort_of_type}
use Rattle.fc_model.specs.Kinding.{Modules, HasHeadKind, kind_variable, kind_declared, kind_int, kind_application, kind_function, kind_forall, kind_coforall, is_lifted}
use Rattle.fc_model.specs.Nameless.{NTy}
use Rattle.fc_model.specs.Substituting.{renamed_type, substituted_type, type_for_innermost, types_below}
use Rattle.fc_model.specs.Terms.{Lifted, Unlifted}
use Rattle.fc_model.proofs.CallsKept.{unlifted_kept, unlifted_renamed}
use Rattle.fc_model.proofs.Sameness.{false_true}

-- a type of a kind without `#` is lifted
pub lifted_by_kind : {ms : Modules} {ks : List Kind} {args : ℕ} {t : NTy} {k : Kind} → HasHeadKind ms ks args t k → is_lifted k ≡ true → sort_of_type t ≡ Lifted
lifted_by_kind (kind_variable p) l = refl
lifted_by_kind (kind_declared p) l = refl
lifted_by_kind kind_int l = false_true l
lifted_by_kind (kind_application t u) l = refl
lifted_by_kind (kind_function j k t u a b) l = refl
lifted_by_kind (kind_forall p t) l = refl
lifted_by_kind (kind_coforall j k t u v p) l = refl

-- what is lifted is not unlifted
pub lifted_is : (t : NTy) → sort_of_type t ≡ Lifted → is_unlifted t ≡ false
lifted_is t h = either (is_unlifted t) h
  where
    either : (b : Bool) → (if b then Unlifted else Lifted) ≡ Lifted → b ≡ false
    either true h = absurd cc
    either false h = refl

-- a type that takes what is no atom is lifted
pub no_atom_is_lifted : (t : NTy) → atom_fits t false ≡ true → Lifted ≡ sort_of_type t
no_atom_is_lifted t fits = either (is_unlifted t) fits
  where
    either : (b : Bool) → not b || false ≡ true → Lifted ≡ (if b then Unlifted else Lifted)
    either true h = false_true h
    either false h = refl

-- VARIABLES IN PLACE OF VARIABLES

pub sort_of_renamed : (r : ℕ → ℕ) (t : NTy) → sort_of_type (renamed_type r t) ≡ sort_of_type t
sort_of_renamed r t = ap (λ b. if b then Unlifted else Lifted) (unlifted_renamed r t)

-- TYPES IN PLACE OF VARIABLES

-- what stands in place of a variable is lifted
abbrev pub AreLifted : (ℕ → NTy) → Type 0
AreLifted s = (i : ℕ) → sort_of_type (s i) ≡ Lifted

pub lifted_below : (s : ℕ → NTy) → AreLifted s → AreLifted (types_below s)
lifted_below s l zero = refl
lifted_below s l (suc i) = sort_of_renamed suc (s i) ∙ l i

pub lifted_innermost : (u : NTy) → sort_of_type u ≡ Lifted → AreLifted (type_for_innermost u)
lifted_innermost u l zero = l
lifted_innermost u l (suc i) = refl

pub sort_of_substituted : (s : ℕ → NTy) → AreLifted s → (t : NTy) → sort_of_type (substituted_type s t) ≡ sort_of_type t
sort_of_substituted s l t = ap (λ b. if b then Unlifted else Lifted) (unlifted_kept s (λ i. lifted_is (s i) (l i)) t)
