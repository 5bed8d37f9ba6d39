-- Types in place of variables: what is put in counts, and one substitution after another is one substitution.
use Rattle.std.proofs.Common.{◌≡◌, ℕ, zero, suc, ◌<◌, refl, sym, ap, ap₂, ◌∙◌, arith}
use Rattle.std.proofs.Math.Path.{fun_ext}
use Rattle.fc_model.specs.Nameless.{NTy, NTVar, NTCon, NTInt, NTApp, NTFun, NTForall, NTCoForall}
use Rattle.fc_model.specs.Substituting.{instantiated, renamed_type, renaming_below, shifted_type, substituted_type, type_for_innermost, types_below}
use Rattle.fc_model.specs.SubstitutionLaws.{OnlyValuesCount, VariablesForThemselves, SubstitutionsCompose, ShiftedIsKept, ShiftedBelow, InstantiatedWithin}

-- WHAT IS PUT IN

-- types that are equal for each variable within a bound are so below a binder
equal_below : (n : ℕ) (r s : ℕ → NTy) → ((i : ℕ) → i < n → r i ≡ s i) → (i : ℕ) → i < suc n → types_below r i ≡ types_below s i
equal_below n r s h zero l = refl
equal_below n r s h (suc i) l = ap shifted_type (h i (omega arith))

-- only what is put in for the variables of a type counts
pub only_values_count : OnlyValuesCount
only_values_count n r s (NTVar i) w h = h i w
only_values_count n r s (NTCon c) w h = refl
only_values_count n r s NTInt w h = refl
only_values_count n r s (NTApp t u) w h = ap₂ NTApp (only_values_count n r s t w.0 h) (only_values_count n r s u w.1 h)
only_values_count n r s (NTFun t u) w h = ap₂ NTFun (only_values_count n r s t w.0 h) (only_values_count n r s u w.1 h)
only_values_count n r s (NTForall k t) w h = ap (NTForall k) (only_values_count (suc n) (types_below r) (types_below s) t w (equal_below n r s h))
only_values_count n r s (NTCoForall o t u v) w h =
    rw (only_values_count n r s t w.0 h, only_values_count n r s u w.1 h, only_values_count n r s v w.2 h) refl

-- equal types for each variable give equal results
pub equal_types : {r s : ℕ → NTy} → ((i : ℕ) → r i ≡ s i) → (t : NTy) → substituted_type r t ≡ substituted_type s t
equal_types h t = ap (λ f. substituted_type f t) (fun_ext h)

-- variables stand for themselves below a binder too
variables_below : (i : ℕ) → types_below NTVar i ≡ NTVar i
variables_below zero = refl
variables_below (suc i) = refl

-- each variable in place of itself
pub variables_for_themselves : VariablesForThemselves
variables_for_themselves (NTVar i) = refl
variables_for_themselves (NTCon n) = refl
variables_for_themselves NTInt = refl
variables_for_themselves (NTApp t u) = ap₂ NTApp (variables_for_themselves t) (variables_for_themselves u)
variables_for_themselves (NTFun t u) = ap₂ NTFun (variables_for_themselves t) (variables_for_themselves u)
variables_for_themselves (NTForall k t) = ap (NTForall k) (equal_types variables_below t ∙ variables_for_themselves t)
variables_for_themselves (NTCoForall o t u v) = rw (variables_for_themselves t, variables_for_themselves u, variables_for_themselves v) refl

-- VARIABLES IN PLACE OF VARIABLES

-- a renaming below a binder, as types in place of variables
renaming_as_types_below : (r : ℕ → ℕ) (i : ℕ) → NTVar (renaming_below r i) ≡ types_below (λ j. NTVar (r j)) i
renaming_as_types_below r zero = refl
renaming_as_types_below r (suc i) = refl

-- a renamed type is the type with variables in place of its own
pub renamed_is_substituted : (r : ℕ → ℕ) (t : NTy) → renamed_type r t ≡ substituted_type (λ i. NTVar (r i)) t
renamed_is_substituted r (NTVar i) = refl
renamed_is_substituted r (NTCon n) = refl
renamed_is_substituted r NTInt = refl
renamed_is_substituted r (NTApp t u) = ap₂ NTApp (renamed_is_substituted r t) (renamed_is_substituted r u)
renamed_is_substituted r (NTFun t u) = ap₂ NTFun (renamed_is_substituted r t) (renamed_is_substituted r u)
renamed_is_substituted r (NTForall k t) = ap (NTForall k) (renamed_is_substituted (renaming_below r) t ∙ equal_types (renaming_as_types_below r) t)
renamed_is_substituted r (NTCoForall o t u v) = rw (renamed_is_substituted r t, renamed_is_substituted r u, renamed_is_substituted r v) refl

-- ONE AFTER THE OTHER

-- below a binder, a renaming and then types
types_below_renaming : (r : ℕ → ℕ) (s : ℕ → NTy) (i : ℕ) → types_below s (renaming_below r i) ≡ types_below (λ j. s (r j)) i
types_below_renaming r s zero = refl
types_below_renaming r s (suc i) = refl

-- types in place of renamed variables
pub types_for_renamed : (r : ℕ → ℕ) (s : ℕ → NTy) (t : NTy) → substituted_type s (renamed_type r t) ≡ substituted_type (λ i. s (r i)) t
types_for_renamed r s (NTVar i) = refl
types_for_renamed r s (NTCon n) = refl
types_for_renamed r s NTInt = refl
types_for_renamed r s (NTApp t u) = ap₂ NTApp (types_for_renamed r s t) (types_for_renamed r s u)
types_for_renamed r s (NTFun t u) = ap₂ NTFun (types_for_renamed r s t) (types_for_renamed r s u)
types_for_renamed r s (NTForall k t) = ap (NTForall k) (types_for_renamed (renaming_below r) (types_below s) t ∙ equal_types (types_below_renaming r s) t)
types_for_renamed r s (NTCoForall o t u v) = rw (types_for_renamed r s t, types_for_renamed r s u, types_for_renamed r s v) refl

-- renamed, and then renamed again
pub renamed_again : (q r : ℕ → ℕ) (t : NTy) → renamed_type q (renamed_type r t) ≡ renamed_type (λ i. q (r i)) t
renamed_again q r t =
    renamed_is_substituted q (renamed_type r t) ∙ types_for_renamed r (λ i. NTVar (q i)) t ∙ sym (renamed_is_substituted (λ i. q (r i)) t)

-- below a binder, types and then a renaming
renaming_below_types : (r : ℕ → ℕ) (s : ℕ → NTy) (i : ℕ) → renamed_type (renaming_below r) (types_below s i) ≡ types_below (λ j. renamed_type r (s j)) i
renaming_below_types r s zero = refl
renaming_below_types r s (suc i) = renamed_again (renaming_below r) suc (s i) ∙ sym (renamed_again suc r (s i))

-- renamed after types were put in
renamed_after_types : (r : ℕ → ℕ) (s : ℕ → NTy) (t : NTy) → renamed_type r (substituted_type s t) ≡ substituted_type (λ i. renamed_type r (s i)) t
renamed_after_types r s (NTVar i) = refl
renamed_after_types r s (NTCon n) = refl
renamed_after_types r s NTInt = refl
renamed_after_types r s (NTApp t u) = ap₂ NTApp (renamed_after_types r s t) (renamed_after_types r s u)
renamed_after_types r s (NTFun t u) = ap₂ NTFun (renamed_after_types r s t) (renamed_after_types r s u)
renamed_after_types r s (NTForall k t) = ap (NTForall k) (renamed_after_types (renaming_below r) (types_below s) t ∙ equal_types (renaming_below_types r s) t)
renamed_after_types r s (NTCoForall o t u v) = rw (renamed_after_types r s t, renamed_after_types r s u, renamed_after_types r s v) refl

-- past a binder, and then below it
pub shifted_below : ShiftedBelow
shifted_below s t = types_for_renamed suc (types_below s) t ∙ sym (renamed_after_types suc s t)

-- below a binder, types and then types
types_below_types : (r s : ℕ → NTy) (i : ℕ) → substituted_type (types_below s) (types_below r i) ≡ types_below (λ j. substituted_type s (r j)) i
types_below_types r s zero = refl
types_below_types r s (suc i) = shifted_below s (r i)

-- one after the other
pub substitutions_compose : SubstitutionsCompose
substitutions_compose r s (NTVar i) = refl
substitutions_compose r s (NTCon n) = refl
substitutions_compose r s NTInt = refl
substitutions_compose r s (NTApp t u) = ap₂ NTApp (substitutions_compose r s t) (substitutions_compose r s u)
substitutions_compose r s (NTFun t u) = ap₂ NTFun (substitutions_compose r s t) (substitutions_compose r s u)
substitutions_compose r s (NTForall k t) = ap (NTForall k) (substitutions_compose (types_below r) (types_below s) t ∙ equal_types (types_below_types r s) t)
substitutions_compose r s (NTCoForall o t u v) = rw (substitutions_compose r s t, substitutions_compose r s u, substitutions_compose r s v) refl

-- A TYPE FOR THE INNERMOST VARIABLE

-- a type that does not have the variable stays as it is
pub shifted_is_kept : ShiftedIsKept
shifted_is_kept u t = types_for_renamed suc (type_for_innermost u) t ∙ variables_for_themselves t

-- the innermost variable and the others, each way
innermost_within : (s : ℕ → NTy) (u : NTy) (i : ℕ) → substituted_type s (type_for_innermost u i) ≡ instantiated (substituted_type s u) (types_below s i)
innermost_within s u zero = refl
innermost_within s u (suc i) = sym (shifted_is_kept (substituted_type s u) (s i))

-- a type in place of the variable of a `forall`, and then others in both
pub instantiated_within : InstantiatedWithin
instantiated_within s u t =
    substitutions_compose (type_for_innermost u) s t ∙ equal_types (innermost_within s u) t
    ∙ sym (substitutions_compose (types_below s) (type_for_innermost (substituted_type s u)) t)
