-- A type keeps its kind below more arguments, past binders, and with types of the kinds of its variables in their place.
use Rattle.std.proofs.Common.{◌≡◌, ℕ, zero, suc, ◌≤◌, ◌<◌, true, List, [], ◌∷◌, length, Option, Some, None, Ok, nat_le, subst, arith}
use Rattle.std.proofs.lemmas.Bool.Decides.{nat_tests}
use Rattle.fc_syntax.specs.Tree.{Kind}
use Rattle.fc_model.specs.Faulting.{at_distance}
use Rattle.fc_model.specs.Kinding.{Modules, HasHeadKind, kind_variable, kind_declared, kind_int, kind_application, kind_function, kind_forall, kind_coforall}
use Rattle.fc_model.specs.Kinding.{HasKind, decl_kind, type_decl}
use Rattle.fc_model.specs.Nameless.{NDecl, NData, NNew, NFamily, NAxiom, NDef, NWrap, NTy}
use Rattle.fc_model.specs.Substituting.{renamed_type, renaming_below, type_for_innermost, types_below}
use Rattle.fc_model.specs.SubstitutionLaws.{KindedIsScoped, MoreArgumentsKeepKinds, SubstitutionKeepsKinds, ShiftingKeepsKinds, InstantiatingKeepsKinds}
use Rattle.fc_model.proofs.Parts.{err_ok, ok_ok, need_inv}

-- SCOPE

-- a variable that has a kind is in scope
local_in_scope : (ks : List Kind) (i : ℕ) (k : Kind) → at_distance ks i ≡ Ok k → i < length ks
local_in_scope [] i k h = err_ok h
local_in_scope (j ∷ ks) zero k h = omega arith
local_in_scope (j ∷ ks) (suc i) k h = omega (arith, local_in_scope ks i k h)

-- a type that has a kind has its variables among those in scope
pub kinded_is_scoped : KindedIsScoped
kinded_is_scoped ms ks args t k (kind_variable {i = i} h) = local_in_scope ks i k h
kinded_is_scoped ms ks args t k (kind_declared h) = tt
kinded_is_scoped ms ks args t k kind_int = tt
kinded_is_scoped ms ks args t k (kind_application f a) = (kinded_is_scoped ms ks _ _ _ f, kinded_is_scoped ms ks _ _ _ a)
kinded_is_scoped ms ks args t k (kind_function i j a b p q) = (kinded_is_scoped ms ks _ _ _ a, kinded_is_scoped ms ks _ _ _ b)
kinded_is_scoped ms ks args t k (kind_forall l b) = kinded_is_scoped ms _ _ _ _ b
kinded_is_scoped ms ks args t k (kind_coforall i j a b c l) =
    (kinded_is_scoped ms ks _ _ _ a, kinded_is_scoped ms ks _ _ _ b, kinded_is_scoped ms ks _ _ _ c)

-- ARGUMENTS

-- a declaration that is applied to more arguments has the same kind
declared_with_more : (d : Option NDecl) (few many : ℕ) (k : Kind) → few ≤ many → decl_kind d few ≡ Ok k → decl_kind d many ≡ Ok k
declared_with_more (Some (NFamily n ps j)) few many k l h =
    let p = need_inv (nat_le (length ps) few) _ _ k h in
    let q : nat_le (length ps) many ≡ true = grind (arith, nat_tests, p.0) in
    rw q p.1
declared_with_more (Some (NData n ps cs)) few many k l h = h
declared_with_more (Some (NNew n ps t con)) few many k l h = h
declared_with_more (Some (NAxiom n ps t u)) few many k l h = h
declared_with_more (Some (NDef n t e)) few many k l h = h
declared_with_more (Some (NWrap n t e)) few many k l h = h
declared_with_more None few many k l h = h

-- the head of more arguments has the same kind
pub more_arguments_keep_kinds : MoreArgumentsKeepKinds
more_arguments_keep_kinds ms ks few many t k l (kind_variable h) = kind_variable h
more_arguments_keep_kinds ms ks few many t k l (kind_declared {n = n} h) =
    kind_declared (declared_with_more (type_decl (ms n.module) n.text) few many k l h)
more_arguments_keep_kinds ms ks few many t k l kind_int = kind_int
more_arguments_keep_kinds ms ks few many t k l (kind_application f a) =
    kind_application (more_arguments_keep_kinds ms ks (suc few) (suc many) _ _ (omega arith) f) a
more_arguments_keep_kinds ms ks few many t k l (kind_function i j a b p q) = kind_function i j a b p q
more_arguments_keep_kinds ms ks few many t k l (kind_forall p b) = kind_forall p b
more_arguments_keep_kinds ms ks few many t k l (kind_coforall i j a b c p) = kind_coforall i j a b c p

-- BINDERS

-- each variable has its kind also where it is renamed to
abbrev KeepsKinds : List Kind → List Kind → (ℕ → ℕ) → Type 0
KeepsKinds ks ls r = (i : ℕ) (k : Kind) → at_distance ks i ≡ Ok k → at_distance ls (r i) ≡ Ok k

-- so it does below a binder
keeps_kinds_below : (ks ls : List Kind) (j : Kind) (r : ℕ → ℕ) → KeepsKinds ks ls r → KeepsKinds (j ∷ ks) (j ∷ ls) (renaming_below r)
keeps_kinds_below ks ls j r h zero k e = e
keeps_kinds_below ks ls j r h (suc i) k e = h i k e

-- a type keeps its kind where its variables keep theirs
renaming_keeps_kinds : (ms : Modules) (ks ls : List Kind) (r : ℕ → ℕ) → KeepsKinds ks ls r
    → (args : ℕ) (t : NTy) (k : Kind) → HasHeadKind ms ks args t k → HasHeadKind ms ls args (renamed_type r t) k
renaming_keeps_kinds ms ks ls r h args t k (kind_variable {i = i} e) = kind_variable (h i k e)
renaming_keeps_kinds ms ks ls r h args t k (kind_declared e) = kind_declared e
renaming_keeps_kinds ms ks ls r h args t k kind_int = kind_int
renaming_keeps_kinds ms ks ls r h args t k (kind_application f a) =
    kind_application (renaming_keeps_kinds ms ks ls r h _ _ _ f) (renaming_keeps_kinds ms ks ls r h _ _ _ a)
renaming_keeps_kinds ms ks ls r h args t k (kind_function i j a b p q) =
    kind_function i j (renaming_keeps_kinds ms ks ls r h _ _ _ a) (renaming_keeps_kinds ms ks ls r h _ _ _ b) p q
renaming_keeps_kinds ms ks ls r h args t k (kind_forall {k = j} p b) =
    kind_forall p (renaming_keeps_kinds ms (j ∷ ks) (j ∷ ls) (renaming_below r) (keeps_kinds_below ks ls j r h) _ _ _ b)
renaming_keeps_kinds ms ks ls r h args t k (kind_coforall i j a b c p) =
    kind_coforall i j (renaming_keeps_kinds ms ks ls r h _ _ _ a) (renaming_keeps_kinds ms ks ls r h _ _ _ b) (renaming_keeps_kinds ms ks ls r h _ _ _ c) p

-- a type keeps its kind past one binder more
pub shifting_keeps_kinds : ShiftingKeepsKinds
shifting_keeps_kinds ms ks j args t k h = renaming_keeps_kinds ms ks (j ∷ ks) suc (λ i l e. e) args t k h

-- TYPES IN PLACE OF VARIABLES

-- each variable has a type of its kind
abbrev pub HaveKinds : Modules → List Kind → List Kind → (ℕ → NTy) → Type 0
HaveKinds ms ks ls s = (i : ℕ) (k : Kind) → at_distance ks i ≡ Ok k → HasKind ms ls (s i) k

-- so it does below a binder
pub have_kinds_below : (ms : Modules) (ks ls : List Kind) (j : Kind) (s : ℕ → NTy) → HaveKinds ms ks ls s → HaveKinds ms (j ∷ ks) (j ∷ ls) (types_below s)
have_kinds_below ms ks ls j s h zero k e = kind_variable e
have_kinds_below ms ks ls j s h (suc i) k e = shifting_keeps_kinds ms ls j 0 (s i) k (h i k e)

-- types of the kinds of the variables keep the kind of the whole
pub substitution_keeps_kinds : SubstitutionKeepsKinds
substitution_keeps_kinds ms ks ls s h args t k (kind_variable {i = i} e) = more_arguments_keep_kinds ms ls 0 args (s i) k (omega arith) (h i k e)
substitution_keeps_kinds ms ks ls s h args t k (kind_declared e) = kind_declared e
substitution_keeps_kinds ms ks ls s h args t k kind_int = kind_int
substitution_keeps_kinds ms ks ls s h args t k (kind_application f a) =
    kind_application (substitution_keeps_kinds ms ks ls s h _ _ _ f) (substitution_keeps_kinds ms ks ls s h _ _ _ a)
substitution_keeps_kinds ms ks ls s h args t k (kind_function i j a b p q) =
    kind_function i j (substitution_keeps_kinds ms ks ls s h _ _ _ a) (substitution_keeps_kinds ms ks ls s h _ _ _ b) p q
substitution_keeps_kinds ms ks ls s h args t k (kind_forall {k = j} p b) =
    kind_forall p (substitution_keeps_kinds ms (j ∷ ks) (j ∷ ls) (types_below s) (have_kinds_below ms ks ls j s h) _ _ _ b)
substitution_keeps_kinds ms ks ls s h args t k (kind_coforall i j a b c p) =
    kind_coforall i j (substitution_keeps_kinds ms ks ls s h _ _ _ a) (substitution_keeps_kinds ms ks ls s h _ _ _ b) (substitution_keeps_kinds ms ks ls s h _ _ _ c) p

-- a type for the innermost variable, and the other variables themselves
pub innermost_has_kind : (ms : Modules) (ks : List Kind) (j : Kind) (u : NTy) → HasKind ms ks u j → HaveKinds ms (j ∷ ks) ks (type_for_innermost u)
innermost_has_kind ms ks j u h zero k e = subst (HasKind ms ks u) (ok_ok e) h
innermost_has_kind ms ks j u h (suc i) k e = kind_variable e

-- the body of a `forall` keeps its kind at a type of the kind of the variable
pub instantiating_keeps_kinds : InstantiatingKeepsKinds
instantiating_keeps_kinds ms ks j k u t h b = substitution_keeps_kinds ms (j ∷ ks) ks (type_for_innermost u) (innermost_has_kind ms ks j u h) 0 t k b
