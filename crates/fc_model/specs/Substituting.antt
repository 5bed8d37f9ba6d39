-- Types in place of the variables of a type. A type that is put in below binders keeps its own variables: they are shifted past the
-- binders, so that none is captured.
use Rattle.std.specs.Prelude.{ℕ, zero, suc, ◌+◌, ◌<◌, Bool, false, ◌&&◌, ◌||◌, nat_le, nat_lt, List, [], ◌∷◌}
use Rattle.fc_model.specs.Nameless.{NTy, NTVar, NTCon, NTInt, NTApp, NTFun, NTForall, NTCoForall}

-- VARIABLES IN PLACE OF VARIABLES

-- below one binder more, whose variable stays
abbrev pub renaming_below : (ℕ → ℕ) → ℕ → ℕ
renaming_below r zero = zero
renaming_below r (suc i) = suc (r i)

abbrev pub renamed_type : (ℕ → ℕ) → NTy → NTy
renamed_type r (NTVar i) = NTVar (r i)
renamed_type r (NTCon n) = NTCon n
renamed_type r NTInt = NTInt
renamed_type r (NTApp t u) = NTApp (renamed_type r t) (renamed_type r u)
renamed_type r (NTFun t u) = NTFun (renamed_type r t) (renamed_type r u)
renamed_type r (NTForall k t) = NTForall k (renamed_type (renaming_below r) t)
renamed_type r (NTCoForall o t u v) = NTCoForall o (renamed_type r t) (renamed_type r u) (renamed_type r v)

-- a type past one binder more of a type variable
abbrev pub shifted_type : NTy → NTy
shifted_type t = renamed_type suc t

-- a type past so many binders more of type variables
abbrev pub raised_type : ℕ → NTy → NTy
raised_type m t = renamed_type (λ i. i + m) t

-- TYPES IN PLACE OF VARIABLES

-- below one binder more, whose variable stays
abbrev pub types_below : (ℕ → NTy) → ℕ → NTy
types_below s zero = NTVar zero
types_below s (suc i) = shifted_type (s i)

-- all variables at once, each by its type
abbrev pub substituted_type : (ℕ → NTy) → NTy → NTy
substituted_type s (NTVar i) = s i
substituted_type s (NTCon n) = NTCon n
substituted_type s NTInt = NTInt
substituted_type s (NTApp t u) = NTApp (substituted_type s t) (substituted_type s u)
substituted_type s (NTFun t u) = NTFun (substituted_type s t) (substituted_type s u)
substituted_type s (NTForall k t) = NTForall k (substituted_type (types_below s) t)
substituted_type s (NTCoForall o t u v) = NTCoForall o (substituted_type s t) (substituted_type s u) (substituted_type s v)

-- a type for the innermost variable; the others stand one binder further in than what they refer to
abbrev pub type_for_innermost : NTy → ℕ → NTy
type_for_innermost u zero = u
type_for_innermost u (suc i) = NTVar i

-- a type for the innermost variable; what stood for the others stands for them one binder further in
abbrev pub type_before : NTy → (ℕ → NTy) → ℕ → NTy
type_before t s zero = t
type_before t s (suc i) = s i

-- types for variables that stand together, the last one for the innermost
abbrev pub types_before : List NTy → (ℕ → NTy) → ℕ → NTy
types_before [] s = s
types_before (t ∷ ts) s = types_before ts (type_before t s)

-- the body of a `forall` at a type
abbrev pub instantiated : NTy → NTy → NTy
instantiated u t = substituted_type (type_for_innermost u) t

-- WHERE VARIABLES STAND

-- whether a type has one of the m innermost variables, below b binders of its own
abbrev pub has_innermost : ℕ → ℕ → NTy → Bool
has_innermost m b (NTVar i) = nat_le b i && nat_lt i (b + m)
has_innermost m b (NTCon c) = false
has_innermost m b NTInt = false
has_innermost m b (NTApp t u) = has_innermost m b t || has_innermost m b u
has_innermost m b (NTFun t u) = has_innermost m b t || has_innermost m b u
has_innermost m b (NTForall k t) = has_innermost m (suc b) t
has_innermost m b (NTCoForall o t u v) = (has_innermost m b t || has_innermost m b u) || has_innermost m b v

-- each variable has a binder in the type, or is one of this many outside
abbrev pub IsScopedType : ℕ → NTy → Type 0
IsScopedType n (NTVar i) = i < n
IsScopedType n (NTCon c) = Unit {0}
IsScopedType n NTInt = Unit {0}
IsScopedType n (NTApp t u) = IsScopedType n t × IsScopedType n u
IsScopedType n (NTFun t u) = IsScopedType n t × IsScopedType n u
IsScopedType n (NTForall k t) = IsScopedType (suc n) t
IsScopedType n (NTCoForall o t u v) = IsScopedType n t × IsScopedType n u × IsScopedType n v
