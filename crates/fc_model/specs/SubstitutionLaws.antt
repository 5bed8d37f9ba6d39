-- Laws of types in place of variables.
use Rattle.std.specs.Prelude.{◌≡◌, ℕ, ◌≤◌, ◌<◌, List, ◌∷◌, length, Ok}
use Rattle.fc_syntax.specs.Tree.{Kind}
use Rattle.fc_model.specs.Faulting.{at_distance}
use Rattle.fc_model.specs.Kinding.{Modules, HasHeadKind, HasKind}
use Rattle.fc_model.specs.Nameless.{NTy, NTVar}
use Rattle.fc_model.specs.Substituting.{IsScopedType, instantiated, shifted_type, substituted_type, types_below}

-- EQUATIONS

-- only what is put in for the variables of a type counts
abbrev pub OnlyValuesCount : Type 0
OnlyValuesCount = (n : ℕ) (r s : ℕ → NTy) (t : NTy) → IsScopedType n t → ((i : ℕ) → i < n → r i ≡ s i) → substituted_type r t ≡ substituted_type s t

-- each variable in place of itself
abbrev pub VariablesForThemselves : Type 0
VariablesForThemselves = (t : NTy) → substituted_type NTVar t ≡ t

-- one after the other
abbrev pub SubstitutionsCompose : Type 0
SubstitutionsCompose = (r s : ℕ → NTy) (t : NTy) → substituted_type s (substituted_type r t) ≡ substituted_type (λ i. substituted_type s (r i)) t

-- a type that does not have the variable stays as it is
abbrev pub ShiftedIsKept : Type 0
ShiftedIsKept = (u t : NTy) → instantiated u (shifted_type t) ≡ t

-- past a binder, and then below it
abbrev pub ShiftedBelow : Type 0
ShiftedBelow = (s : ℕ → NTy) (t : NTy) → substituted_type (types_below s) (shifted_type t) ≡ shifted_type (substituted_type s t)

-- a type in place of the variable of a `forall`, and then others in both
abbrev pub InstantiatedWithin : Type 0
InstantiatedWithin = (s : ℕ → NTy) (u t : NTy) → substituted_type s (instantiated u t) ≡ instantiated (substituted_type s u) (substituted_type (types_below s) t)

-- KINDS

-- a type that has a kind has its variables among those in scope
abbrev pub KindedIsScoped : Type 0
KindedIsScoped = (ms : Modules) (ks : List Kind) (args : ℕ) (t : NTy) (k : Kind) → HasHeadKind ms ks args t k → IsScopedType (length ks) t

-- the head of more arguments has the same kind
abbrev pub MoreArgumentsKeepKinds : Type 0
MoreArgumentsKeepKinds = (ms : Modules) (ks : List Kind) (few many : ℕ) (t : NTy) (k : Kind) → few ≤ many → HasHeadKind ms ks few t k → HasHeadKind ms ks many t k

-- types of the kinds of the variables keep the kind of the whole
abbrev pub SubstitutionKeepsKinds : Type 0
SubstitutionKeepsKinds = (ms : Modules) (ks ls : List Kind) (s : ℕ → NTy) → ((i : ℕ) (k : Kind) → at_distance ks i ≡ Ok k → HasKind ms ls (s i) k)
    → (args : ℕ) (t : NTy) (k : Kind) → HasHeadKind ms ks args t k → HasHeadKind ms ls args (substituted_type s t) k

-- a type keeps its kind past one binder more
abbrev pub ShiftingKeepsKinds : Type 0
ShiftingKeepsKinds = (ms : Modules) (ks : List Kind) (j : Kind) (args : ℕ) (t : NTy) (k : Kind) → HasHeadKind ms ks args t k → HasHeadKind ms (j ∷ ks) args (shifted_type t) k

-- the body of a `forall` keeps its kind at a type of the kind of the variable
abbrev pub InstantiatingKeepsKinds : Type 0
InstantiatingKeepsKinds = (ms : Modules) (ks : List Kind) (j k : Kind) (u t : NTy) → HasKind ms ks u j → HasKind ms (j ∷ ks) t k → HasKind ms ks (instantiated u t) k
