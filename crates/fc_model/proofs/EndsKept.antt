-- What coercions relate, with types in place of type variables: the arguments of declared types, the parts of types, and axioms.
use Rattle.std.proofs.Common.{◌≡◌, ◌∙◌, ◌+◌, ◌<◌, ℕ, zero, suc, Bool, true, false, ◌&&◌, nat_eq, if◌then◌else◌, List, [], ◌∷◌, length, map, Some, None, Ok, refl, sym, ap, arith}
use Rattle.std.proofs.lemmas.List.{length-map, map-append}
use Rattle.fc_syntax.specs.declared.ty.Role.{Role}
use Rattle.fc_syntax.specs.Tree.{Kind}
use Rattle.fc_model.specs.Coercing.{Ends, Shape, Named, Function, Equality, NoShape, applied_shape, applied_to, at_parameters, is_injective, lefts, paired}
use Rattle.fc_model.specs.Coercing.{parts_of, rights, shape_of, shifted_ends}
use Rattle.fc_model.specs.CoercingRules.{AreAtRoles, no_role, one_role, AreOfKinds, no_kind, one_kind}
use Rattle.fc_model.specs.CoercionLaws.{IsSaturated, TypesFit, substituted_ends}
use Rattle.fc_model.specs.Faulting.{at_distance}
use Rattle.fc_model.specs.Kinding.{Modules, HasKind, is_family_applied, same_name, same_role, type_decl}
use Rattle.fc_model.specs.Nameless.{NTy, NTVar, NTCon, NTInt, NTApp, NTFun, NTForall, NTCoForall}
use Rattle.fc_model.specs.Needs.{later_roles, name_roles, next_role, role_within}
use Rattle.fc_model.specs.Substituting.{IsScopedType, renamed_type, substituted_type, type_before, types_before, types_below}
use Rattle.fc_model.proofs.KindsKept.{have_kinds_below, substitution_keeps_kinds}
use Rattle.fc_model.proofs.Parts.{err_ok, ok_ok}
use Rattle.fc_model.proofs.Sameness.{false_true}
use Rattle.fc_model.proofs.Substitutions.{only_values_count, shifted_below, substitutions_compose}

-- LISTS

-- what stands at a distance in a list that was gone through
pub mapped_inv : {X Y : Type 0} (f : X → Y) (xs : List X) (i : ℕ) (y : Y) → at_distance (map f xs) i ≡ Ok y → (x : X) × (at_distance xs i ≡ Ok x) × (f x ≡ y)
mapped_inv f [] i y h = err_ok h
mapped_inv f (x ∷ xs) zero y h = (x, refl, ok_ok h)
mapped_inv f (x ∷ xs) (suc i) y h = mapped_inv f xs i y h

pub mapped : {X Y : Type 0} (f : X → Y) (xs : List X) (i : ℕ) (x : X) → at_distance xs i ≡ Ok x → at_distance (map f xs) i ≡ Ok (f x)
mapped f [] i x h = err_ok h
mapped f (y ∷ xs) zero x h = ap (λ z. Ok (f z)) (ok_ok h)
mapped f (y ∷ xs) (suc i) x h = mapped f xs i x h

-- FAMILIES

renamed_family : (ms : Modules) (r : ℕ → ℕ) (n : ℕ) (t : NTy) → is_family_applied ms n (renamed_type r t) ≡ is_family_applied ms n t
renamed_family ms r n (NTVar i) = refl
renamed_family ms r n (NTCon c) = refl
renamed_family ms r n NTInt = refl
renamed_family ms r n (NTApp t u) = renamed_family ms r (suc n) t
renamed_family ms r n (NTFun t u) = refl
renamed_family ms r n (NTForall k t) = refl
renamed_family ms r n (NTCoForall o t u v) = refl

-- a head that makes no family applied to exactly its parameters still makes none
pub family_kept : (ms : Modules) (s : ℕ → NTy) → ((i : ℕ) → IsSaturated ms (s i)) → (n : ℕ) (t : NTy)
    → is_family_applied ms (suc n) (substituted_type s t) ≡ is_family_applied ms (suc n) t
family_kept ms s h n (NTVar i) = h i n
family_kept ms s h n (NTCon c) = refl
family_kept ms s h n NTInt = refl
family_kept ms s h n (NTApp t u) = family_kept ms s h (suc n) t
family_kept ms s h n (NTFun t u) = refl
family_kept ms s h n (NTForall k t) = refl
family_kept ms s h n (NTCoForall o t u v) = refl

saturated_below : (ms : Modules) (s : ℕ → NTy) → ((i : ℕ) → IsSaturated ms (s i)) → (i : ℕ) → IsSaturated ms (types_below s i)
saturated_below ms s h zero n = refl
saturated_below ms s h (suc i) n = renamed_family ms suc (suc n) (s i) ∙ h i n

-- types that fit do so below a binder
pub types_fit_below : (ms : Modules) (ks ls : List Kind) (s : ℕ → NTy) → TypesFit ms ks ls s → (k : Kind) → TypesFit ms (k ∷ ks) (k ∷ ls) (types_below s)
types_fit_below ms ks ls s fit k = record { kinds = have_kinds_below ms ks ls k s fit.kinds; saturated = saturated_below ms s fit.saturated }

-- KINDS AND ENDS

-- types that fit keep the kind of the whole
pub kind_kept : (ms : Modules) {ks ls : List Kind} {s : ℕ → NTy} → TypesFit ms ks ls s → {t : NTy} {k : Kind} → HasKind ms ks t k → HasKind ms ls (substituted_type s t) k
kind_kept ms {ks = ks} {ls = ls} {s = s} fit {t = t} {k = k} h = substitution_keeps_kinds ms ks ls s fit.kinds 0 t k h

-- past a binder, and then below it
pub shifted_ends_below : (s : ℕ → NTy) (e : Ends) → shifted_ends (substituted_ends s e) ≡ substituted_ends (types_below s) (shifted_ends e)
shifted_ends_below s e = rw (shifted_below s e.left, shifted_below s e.right) refl

lefts_kept : (s : ℕ → NTy) (es : List Ends) → map (substituted_type s) (lefts es) ≡ lefts (map (substituted_ends s) es)
lefts_kept s [] = refl
lefts_kept s (e ∷ es) = ap (λ l. substituted_type s e.left ∷ l) (lefts_kept s es)

rights_kept : (s : ℕ → NTy) (es : List Ends) → map (substituted_type s) (rights es) ≡ rights (map (substituted_ends s) es)
rights_kept s [] = refl
rights_kept s (e ∷ es) = ap (λ l. substituted_type s e.right ∷ l) (rights_kept s es)

pub applied_lefts_kept : (s : ℕ → NTy) (es : List Ends) (t : NTy)
    → substituted_type s (applied_to t (lefts es)) ≡ applied_to (substituted_type s t) (lefts (map (substituted_ends s) es))
applied_lefts_kept s [] t = refl
applied_lefts_kept s (e ∷ es) t = applied_lefts_kept s es (NTApp t e.left)

pub applied_rights_kept : (s : ℕ → NTy) (es : List Ends) (t : NTy)
    → substituted_type s (applied_to t (rights es)) ≡ applied_to (substituted_type s t) (rights (map (substituted_ends s) es))
applied_rights_kept s [] t = refl
applied_rights_kept s (e ∷ es) t = applied_rights_kept s es (NTApp t e.right)

-- what is at the roles of parameters, or of their kinds, still is
pub roles_kept : (s : ℕ → NTy) {r : Role} {rs : List Role} {es : List Ends} → AreAtRoles r rs es → AreAtRoles r rs (map (substituted_ends s) es)
roles_kept s no_role = no_role
roles_kept s (one_role rest) = one_role (roles_kept s rest)

pub kinds_kept : (ms : Modules) {ks ls : List Kind} {s : ℕ → NTy} → TypesFit ms ks ls s → {js : List Kind} {es : List Ends} → AreOfKinds ms ks js es
    → AreOfKinds ms ls js (map (substituted_ends s) es)
kinds_kept ms fit no_kind = no_kind
kinds_kept ms fit (one_kind a b kinds) = one_kind (kind_kept ms fit a) (kind_kept ms fit b) (kinds_kept ms fit kinds)

-- PARTS OF TYPES

some_some : {X : Type 0} {x y : X} → Some x ≡ Some y → x ≡ y
some_some h = cc

abbrev is_shape : Shape → Bool
is_shape (Named n ts) = true
is_shape (Function t u) = true
is_shape (Equality r t u v) = true
is_shape NoShape = false

abbrev substituted_shape : (ℕ → NTy) → Shape → Shape
substituted_shape s (Named n ts) = Named n (map (substituted_type s) ts)
substituted_shape s (Function t u) = Function (substituted_type s t) (substituted_type s u)
substituted_shape s (Equality r t u v) = Equality r (substituted_type s t) (substituted_type s u) (substituted_type s v)
substituted_shape s NoShape = NoShape

applied_shape_kept : (s : ℕ → NTy) (b c : Shape) (u : NTy) → (is_shape b ≡ true → c ≡ substituted_shape s b) → is_shape (applied_shape b u) ≡ true
    → applied_shape c (substituted_type s u) ≡ substituted_shape s (applied_shape b u)
applied_shape_kept s (Named n ts) c u kept h =
    ap (λ x. applied_shape x (substituted_type s u)) (kept refl) ∙ ap (λ l. Named n l) (sym (map-append (substituted_type s) ts (u ∷ [])))
applied_shape_kept s (Function t v) c u kept h = false_true h
applied_shape_kept s (Equality r t v w) c u kept h = false_true h
applied_shape_kept s NoShape c u kept h = false_true h

-- what a type is made of, with types in place of variables
shape_kept : (s : ℕ → NTy) (t : NTy) → is_shape (shape_of t) ≡ true → shape_of (substituted_type s t) ≡ substituted_shape s (shape_of t)
shape_kept s (NTVar i) h = false_true h
shape_kept s (NTCon n) h = refl
shape_kept s NTInt h = false_true h
shape_kept s (NTApp t u) h = applied_shape_kept s (shape_of t) (shape_of (substituted_type s t)) u (shape_kept s t) h
shape_kept s (NTFun t u) h = refl
shape_kept s (NTForall k t) h = false_true h
shape_kept s (NTCoForall r t u v) h = refl

paired_kept : (s : ℕ → NTy) (r : Role) (rs : List Role) (ts us : List NTy)
    → map (substituted_ends s) (paired r rs ts us) ≡ paired r rs (map (substituted_type s) ts) (map (substituted_type s) us)
paired_kept s r rs [] us = refl
paired_kept s r rs (t ∷ ts) [] = refl
paired_kept s r rs (t ∷ ts) (u ∷ us) =
    ap (λ l. substituted_ends s (record { role = role_within r (next_role rs); left = t; right = u }) ∷ l) (paired_kept s r (later_roles rs) ts us)

-- what is there under a condition, gone through
if_kept : {X Y : Type 0} (f : X → Y) (b : Bool) (x z : X) (y : Y) → f x ≡ y → (if b then Some x else None) ≡ Some z → (if b then Some y else None) ≡ Some (f z)
if_kept f true x z y same h = ap (λ q. Some q) (sym same ∙ ap f (some_some h))
if_kept f false x z y same h = absurd cc

-- parts are of what has a shape
parts_have_shapes : (ms : Modules) (r : Role) (b c : Shape) (es : List Ends) → parts_of ms r b c ≡ Some es → (is_shape b ≡ true) × (is_shape c ≡ true)
parts_have_shapes ms r (Named m ts) (Named n us) es h = (refl, refl)
parts_have_shapes ms r (Function t u) (Function v w) es h = (refl, refl)
parts_have_shapes ms r (Equality o t u v) (Equality q w x y) es h = (refl, refl)
parts_have_shapes ms r b c es h = absurd cc

shapes_parts_kept : (ms : Modules) (s : ℕ → NTy) (r : Role) (b c : Shape) (es : List Ends) → parts_of ms r b c ≡ Some es
    → parts_of ms r (substituted_shape s b) (substituted_shape s c) ≡ Some (map (substituted_ends s) es)
shapes_parts_kept ms s r (Named m ts) (Named n us) es h =
    rw (length-map ts (substituted_type s), length-map us (substituted_type s))
    (if_kept (map (substituted_ends s)) ((same_name m n && nat_eq (length ts) (length us)) && is_injective r (type_decl (ms m.module) m.text))
    (paired r (name_roles ms m) ts us) es _ (paired_kept s r (name_roles ms m) ts us) h)
shapes_parts_kept ms s r (Function t u) (Function v w) es h = ap (λ l. Some (map (substituted_ends s) l)) (some_some h)
shapes_parts_kept ms s r (Equality o t u v) (Equality q w x y) es h = if_kept (map (substituted_ends s)) (same_role o q) _ es _ refl h
shapes_parts_kept ms s r b c es h = absurd cc

-- the parts of two types, with types in place of variables
pub parts_kept : (ms : Modules) (s : ℕ → NTy) (r : Role) (t u : NTy) (es : List Ends) → parts_of ms r (shape_of t) (shape_of u) ≡ Some es
    → parts_of ms r (shape_of (substituted_type s t)) (shape_of (substituted_type s u)) ≡ Some (map (substituted_ends s) es)
parts_kept ms s r t u es h =
    let p = parts_have_shapes ms r (shape_of t) (shape_of u) es h in
    rw (shape_kept s t p.0, shape_kept s u p.1) (shapes_parts_kept ms s r (shape_of t) (shape_of u) es h)

-- AXIOMS

types_before_kept : (s : ℕ → NTy) (ts : List NTy) (q r : ℕ → NTy) (m : ℕ) → ((i : ℕ) → i < m → substituted_type s (q i) ≡ r i) → (i : ℕ) → i < length ts + m
    → substituted_type s (types_before ts q i) ≡ types_before (map (substituted_type s) ts) r i
types_before_kept s [] q r m h i l = h i (omega arith)
types_before_kept s (t ∷ ts) q r m h i l = types_before_kept s ts (type_before t q) (type_before (substituted_type s t) r) (suc m) here i (omega arith)
  where
    here : (j : ℕ) → j < suc m → substituted_type s (type_before t q j) ≡ type_before (substituted_type s t) r j
    here zero low = refl
    here (suc j) low = h j (omega arith)

-- a side of an axiom, which has no variables but those of its parameters
at_parameters_kept : (s : ℕ → NTy) (n : ℕ) (ts : List NTy) (t : NTy) → length ts ≡ n → IsScopedType n t
    → substituted_type s (at_parameters ts t) ≡ at_parameters (map (substituted_type s) ts) t
at_parameters_kept s n ts t long scoped =
    substitutions_compose (types_before ts NTVar) s t
    ∙ only_values_count n (λ i. substituted_type s (types_before ts NTVar i)) (types_before (map (substituted_type s) ts) NTVar) t scoped
    (λ i low. types_before_kept s ts NTVar NTVar 0 (λ j none. absurd (omega arith)) i (omega arith))

lefts_length : (es : List Ends) → length (lefts es) ≡ length es
lefts_length [] = refl
lefts_length (e ∷ es) = ap suc (lefts_length es)

rights_length : (es : List Ends) → length (rights es) ≡ length es
rights_length [] = refl
rights_length (e ∷ es) = ap suc (rights_length es)

pub left_side_kept : (s : ℕ → NTy) (n : ℕ) (es : List Ends) (t : NTy) → length es ≡ n → IsScopedType n t
    → substituted_type s (at_parameters (lefts es) t) ≡ at_parameters (lefts (map (substituted_ends s) es)) t
left_side_kept s n es t long scoped = at_parameters_kept s n (lefts es) t (lefts_length es ∙ long) scoped ∙ ap (λ l. at_parameters l t) (lefts_kept s es)

pub right_side_kept : (s : ℕ → NTy) (n : ℕ) (es : List Ends) (t : NTy) → length es ≡ n → IsScopedType n t
    → substituted_type s (at_parameters (rights es) t) ≡ at_parameters (rights (map (substituted_ends s) es)) t
right_side_kept s n es t long scoped = at_parameters_kept s n (rights es) t (rights_length es ∙ long) scoped ∙ ap (λ l. at_parameters l t) (rights_kept s es)
