-- Types in place of variables in what takes arguments: binders, calls, constructors and the binders of alternatives.
use Rattle.std.proofs.Common.{◌≡◌, ℕ, zero, suc, ◌+◌, Bool, true, false, List, [], ◌∷◌, ◌++◌, length, map, Option, Some, None, refl, sym, ap, ◌∙◌, subst, arith}
use Rattle.std.proofs.Math.Path.{fun_ext}
use Rattle.std.proofs.lemmas.Bool.{and_parts}
use Rattle.fc_syntax.specs.declared.ty.Name.{Name}
use Rattle.fc_syntax.specs.declared.ty.Role.{Role}
use Rattle.fc_syntax.specs.Tree.{Kind}
use Rattle.fc_model.specs.Calling.{Constructor, Given, GivenTerm, GivenType, GivenCoercion, Takes, takes_nothing, takes_term, takes_type, takes_coercion, at_type, at_types}
use Rattle.fc_model.specs.Calling.{atom_fits, binders_fit, binders_to, constructor_type, data_name, from_some, is_con_type, is_data_of, is_int, is_unlifted, over_binders, same_as}
use Rattle.fc_model.specs.Calling.{type_arguments, type_count, type_head}
use Rattle.fc_model.specs.Kinding.{Modules}
use Rattle.fc_model.specs.Nameless.{NTy, NTVar, NTCon, NTInt, NTApp, NTFun, NTForall, NTCoForall, NBinder, NBValue, NBType, NBCo}
use Rattle.fc_model.specs.Replacing.{replaced_binder, replaced_binders, types_behind, types_behind_all}
use Rattle.fc_model.specs.Substituting.{IsScopedType, instantiated, raised_type, renamed_type, shifted_type, substituted_type, types_below}
use Rattle.fc_model.specs.Typing.{kinds_behind}
use Rattle.fc_model.specs.TypingRules.{BinderIsKinded, value_binder, type_binder, coercion_binder, BindersAreKinded, no_binders, one_binder}
use Rattle.fc_model.proofs.KindsKept.{HaveKinds, have_kinds_below, substitution_keeps_kinds}
use Rattle.fc_model.proofs.Sameness.{false_true, same_type_eq, same_type_of}
use Rattle.fc_model.proofs.Substitutions.{equal_types, instantiated_within, only_values_count, renamed_again, renamed_is_substituted, shifted_below, variables_for_themselves}

-- UNLIFTED TYPES

-- no type that is put in is unlifted
abbrev pub AreLifted : (ℕ → NTy) → Type 0
AreLifted s = (i : ℕ) → is_unlifted (s i) ≡ false

-- so a type is unlifted where it was
pub unlifted_kept : (s : ℕ → NTy) → AreLifted s → (t : NTy) → is_unlifted (substituted_type s t) ≡ is_unlifted t
unlifted_kept s h (NTVar i) = h i
unlifted_kept s h (NTCon n) = refl
unlifted_kept s h NTInt = refl
unlifted_kept s h (NTApp t u) = refl
unlifted_kept s h (NTFun t u) = refl
unlifted_kept s h (NTForall k t) = refl
unlifted_kept s h (NTCoForall r t u v) = refl

pub unlifted_renamed : (r : ℕ → ℕ) (t : NTy) → is_unlifted (renamed_type r t) ≡ is_unlifted t
unlifted_renamed r (NTVar i) = refl
unlifted_renamed r (NTCon n) = refl
unlifted_renamed r NTInt = refl
unlifted_renamed r (NTApp t u) = refl
unlifted_renamed r (NTFun t u) = refl
unlifted_renamed r (NTForall k t) = refl
unlifted_renamed r (NTCoForall o t u v) = refl

-- and `Int#` where it was
pub int_kept : (s : ℕ → NTy) (t : NTy) → is_int t ≡ true → is_int (substituted_type s t) ≡ true
int_kept s (NTVar i) int = false_true int
int_kept s (NTCon n) int = int
int_kept s NTInt int = refl
int_kept s (NTApp t u) int = int
int_kept s (NTFun t u) int = int
int_kept s (NTForall k t) int = int
int_kept s (NTCoForall r t u v) int = int

pub are_lifted_below : (s : ℕ → NTy) → AreLifted s → AreLifted (types_below s)
are_lifted_below s h zero = refl
are_lifted_below s h (suc i) = unlifted_renamed suc (s i) ∙ h i

-- SCOPE

-- a type with no variables from outside stays as it is
pub closed_kept : (s : ℕ → NTy) (t : NTy) → IsScopedType 0 t → substituted_type s t ≡ t
closed_kept s t h = only_values_count 0 s NTVar t h (λ i l. absurd (omega arith)) ∙ variables_for_themselves t

-- BINDERS

pub raised_by_nothing : (t : NTy) → raised_type 0 t ≡ t
raised_by_nothing t =
    let none : (i : ℕ) → i + 0 ≡ i = λ i. omega arith in
    renamed_is_substituted (λ i. i + 0) t ∙ equal_types (λ i. ap (λ j. NTVar j) (none i)) t ∙ variables_for_themselves t

pub raised_by_more : (m : ℕ) (t : NTy) → raised_type (suc m) t ≡ raised_type m (shifted_type t)
raised_by_more m t =
    let more : (i : ℕ) → i + suc m ≡ suc i + m = λ i. omega arith in
    ap (λ f. renamed_type f t) (fun_ext more) ∙ sym (renamed_again (λ i. i + m) suc t)

-- a type from before binders, behind them
pub raised_kept : (bs : List NBinder) (s : ℕ → NTy) (t : NTy)
    → substituted_type (types_behind_all bs s) (raised_type (type_count bs) t) ≡ raised_type (type_count bs) (substituted_type s t)
raised_kept [] s t = ap (substituted_type s) (raised_by_nothing t) ∙ sym (raised_by_nothing (substituted_type s t))
raised_kept (NBValue u ∷ bs) s t = raised_kept bs s t
raised_kept (NBType k ∷ bs) s t =
    ap (substituted_type (types_behind_all bs (types_below s))) (raised_by_more (type_count bs) t) ∙ raised_kept bs (types_below s) (shifted_type t)
    ∙ ap (raised_type (type_count bs)) (shifted_below s t) ∙ sym (raised_by_more (type_count bs) (substituted_type s t))
raised_kept (NBCo r u v ∷ bs) s t = raised_kept bs s t

pub type_count_kept : (s : ℕ → NTy) (bs : List NBinder) → type_count (replaced_binders s bs) ≡ type_count bs
type_count_kept s [] = refl
type_count_kept s (NBValue t ∷ bs) = type_count_kept s bs
type_count_kept s (NBType k ∷ bs) = ap suc (type_count_kept (types_below s) bs)
type_count_kept s (NBCo r t u ∷ bs) = type_count_kept s bs

pub binder_length_kept : (s : ℕ → NTy) (bs : List NBinder) → length (replaced_binders s bs) ≡ length bs
binder_length_kept s [] = refl
binder_length_kept s (b ∷ bs) = ap suc (binder_length_kept (types_behind b s) bs)

pub over_binders_kept : (bs : List NBinder) (s : ℕ → NTy) (t : NTy)
    → substituted_type s (over_binders bs t) ≡ over_binders (replaced_binders s bs) (substituted_type (types_behind_all bs s) t)
over_binders_kept [] s t = refl
over_binders_kept (NBValue u ∷ bs) s t = ap (NTFun (substituted_type s u)) (over_binders_kept bs s t)
over_binders_kept (NBType k ∷ bs) s t = ap (NTForall k) (over_binders_kept bs (types_below s) t)
over_binders_kept (NBCo r u v ∷ bs) s t = ap (NTCoForall r (substituted_type s u) (substituted_type s v)) (over_binders_kept bs s t)

-- what takes arguments for binders and is then of a type that stands before them
pub binders_to_kept : (s : ℕ → NTy) (bs : List NBinder) (t : NTy) → substituted_type s (binders_to bs t) ≡ binders_to (replaced_binders s bs) (substituted_type s t)
binders_to_kept s bs t =
    over_binders_kept bs s (raised_type (type_count bs) t)
    ∙ ap (over_binders (replaced_binders s bs)) (raised_kept bs s t ∙ ap (λ m. raised_type m (substituted_type s t)) (sym (type_count_kept s bs)))

-- a type from before binders, behind them and as they are replaced
pub raised_past_replaced : (bs : List NBinder) (s : ℕ → NTy) (t : NTy)
    → substituted_type (types_behind_all bs s) (raised_type (type_count bs) t) ≡ raised_type (type_count (replaced_binders s bs)) (substituted_type s t)
raised_past_replaced bs s t = raised_kept bs s t ∙ ap (λ m. raised_type m (substituted_type s t)) (sym (type_count_kept s bs))

-- binders keep their kinds
pub binder_kept : (ms : Modules) (owes : Bool) (ks ls : List Kind) (s : ℕ → NTy) → HaveKinds ms ks ls s → (b : NBinder) → BinderIsKinded ms owes ks b
    → BinderIsKinded ms owes ls (replaced_binder s b)
binder_kept ms owes ks ls s h b (value_binder {t = t} k p v) = value_binder k (substitution_keeps_kinds ms ks ls s h 0 t k p) v
binder_kept ms owes ks ls s h b (type_binder l) = type_binder l
binder_kept ms owes ks ls s h b (coercion_binder {t = t} {u = u} j k p q same) =
    coercion_binder j k (substitution_keeps_kinds ms ks ls s h 0 t j p) (substitution_keeps_kinds ms ks ls s h 0 u k q) same

-- the kinds behind a binder are those behind it as it is replaced
pub kinds_behind_kept : (ms : Modules) (ks ls : List Kind) (s : ℕ → NTy) → HaveKinds ms ks ls s → (b : NBinder)
    → HaveKinds ms (kinds_behind b ks) (kinds_behind (replaced_binder s b) ls) (types_behind b s)
kinds_behind_kept ms ks ls s h (NBValue t) = h
kinds_behind_kept ms ks ls s h (NBType k) = have_kinds_below ms ks ls k s h
kinds_behind_kept ms ks ls s h (NBCo r t u) = h

pub binders_kept : (ms : Modules) (owes : Bool) (ks ls : List Kind) (s : ℕ → NTy) → HaveKinds ms ks ls s → (bs : List NBinder) → BindersAreKinded ms owes ks bs
    → BindersAreKinded ms owes ls (replaced_binders s bs)
binders_kept ms owes ks ls s h bs no_binders = no_binders
binders_kept ms owes ks ls s h bs (one_binder {b = b} {bs = rest} p ps) =
    one_binder (binder_kept ms owes ks ls s h b p) (binders_kept ms owes (kinds_behind b ks) _ (types_behind b s) (kinds_behind_kept ms ks ls s h b) rest ps)

-- ARGUMENTS

-- an argument is given its type, and what it proves, with types in place of variables; it need be an atom only where it was one and its
-- place takes one
pub data BecomesGiven (s : ℕ → NTy) : Given → Given → Type 0 where
  term_becomes : {t : NTy} {a b : Bool} → (atom_fits t a ≡ true → atom_fits (substituted_type s t) b ≡ true) → BecomesGiven s (GivenTerm t a) (GivenTerm (substituted_type s t) b)
  type_becomes : {t : NTy} {k : Kind} → BecomesGiven s (GivenType t k) (GivenType (substituted_type s t) k)
  coercion_becomes : {r : Role} {t u : NTy} → BecomesGiven s (GivenCoercion r t u) (GivenCoercion r (substituted_type s t) (substituted_type s u))

pub data BecomeGiven (s : ℕ → NTy) : List Given → List Given → Type 0 where
  none_become : BecomeGiven s [] []
  one_becomes : {g h : Given} {gs hs : List Given} → BecomesGiven s g h → BecomeGiven s gs hs → BecomeGiven s (g ∷ gs) (h ∷ hs)

pub given_length_kept : {s : ℕ → NTy} {gs hs : List Given} → BecomeGiven s gs hs → length hs ≡ length gs
given_length_kept none_become = refl
given_length_kept (one_becomes b bs) = ap suc (given_length_kept bs)

-- what takes arguments takes them so
pub takes_kept : (s : ℕ → NTy) {t u : NTy} {gs hs : List Given} → Takes t gs u → BecomeGiven s gs hs → Takes (substituted_type s t) hs (substituted_type s u)
takes_kept s takes_nothing none_become = takes_nothing
takes_kept s (takes_term fits rest) (one_becomes (term_becomes f) bs) = takes_term (f fits) (takes_kept s rest bs)
takes_kept s (takes_type {u = u} {r = r} {t = t} rest) (one_becomes {hs = hs} (type_becomes {k = k}) bs) =
    takes_type (subst (λ x. Takes x hs (substituted_type s t)) (instantiated_within s u r) (takes_kept s rest bs))
takes_kept s (takes_coercion rest) (one_becomes coercion_becomes bs) = takes_coercion (takes_kept s rest bs)

-- ALTERNATIVES

-- a type that a constructor constructs does so with types in place of variables, at those types
pub head_kept : (s : ℕ → NTy) (n : Name) (t : NTy) → is_con_type (type_head t) n ≡ true → is_con_type (type_head (substituted_type s t)) n ≡ true
head_kept s n (NTVar i) h = false_true h
head_kept s n (NTCon c) h = h
head_kept s n NTInt h = false_true h
head_kept s n (NTApp t u) h = head_kept s n t h
head_kept s n (NTFun t u) h = false_true h
head_kept s n (NTForall k t) h = false_true h
head_kept s n (NTCoForall r t u v) h = false_true h

map_more : {X Y : Type 0} (f : X → Y) (xs : List X) (x : X) → map f (xs ++ x ∷ []) ≡ map f xs ++ f x ∷ []
map_more f [] x = refl
map_more f (y ∷ xs) x = ap (λ ys. f y ∷ ys) (map_more f xs x)

pub map_length : {X Y : Type 0} (f : X → Y) (xs : List X) → length (map f xs) ≡ length xs
map_length f [] = refl
map_length f (x ∷ xs) = ap suc (map_length f xs)

pub arguments_kept : (s : ℕ → NTy) (n : Name) (t : NTy) → is_con_type (type_head t) n ≡ true → type_arguments (substituted_type s t) ≡ map (substituted_type s) (type_arguments t)
arguments_kept s n (NTVar i) h = false_true h
arguments_kept s n (NTCon c) h = refl
arguments_kept s n NTInt h = false_true h
arguments_kept s n (NTApp t u) h = ap (λ us. us ++ substituted_type s u ∷ []) (arguments_kept s n t h) ∙ sym (map_more (substituted_type s) (type_arguments t) u)
arguments_kept s n (NTFun t u) h = false_true h
arguments_kept s n (NTForall k t) h = false_true h
arguments_kept s n (NTCoForall r t u v) h = false_true h

pub at_type_kept : (s : ℕ → NTy) (t u v : NTy) → at_type t u ≡ Some v → at_type (substituted_type s t) (substituted_type s u) ≡ Some (substituted_type s v)
at_type_kept s (NTForall k t) u v h =
    let e : instantiated u t ≡ v = cc in
    ap (λ x. Some x) (sym (instantiated_within s u t) ∙ ap (substituted_type s) e)
at_type_kept s (NTVar i) u v h = absurd cc
at_type_kept s (NTCon n) u v h = absurd cc
at_type_kept s NTInt u v h = absurd cc
at_type_kept s (NTApp t w) u v h = absurd cc
at_type_kept s (NTFun t w) u v h = absurd cc
at_type_kept s (NTCoForall r t w x) u v h = absurd cc

pub from_some_inv : {X Y : Type 0} (f : X → Option Y) (o : Option X) (y : Y) → from_some f o ≡ Some y → (x : X) × (o ≡ Some x) × (f x ≡ Some y)
from_some_inv f (Some x) y h = (x, refl, h)
from_some_inv f None y h = absurd cc

pub at_types_kept : (s : ℕ → NTy) (t : NTy) (us : List NTy) (v : NTy) → at_types t us ≡ Some v
    → at_types (substituted_type s t) (map (substituted_type s) us) ≡ Some (substituted_type s v)
at_types_kept s t [] v h = let e : t ≡ v = cc in ap (λ x. Some (substituted_type s x)) e
at_types_kept s t (u ∷ us) v h =
    let p = from_some_inv (λ w. at_types w us) (at_type t u) v h in
    rw (at_type_kept s t u p.0 p.1) (at_types_kept s p.0 us v p.2)

pub same_as_inv : (o : Option NTy) (t : NTy) → same_as o t ≡ true → o ≡ Some t
same_as_inv (Some u) t h = ap (λ x. Some x) (same_type_eq u t h)
same_as_inv None t h = false_true h

-- the type of a scrutinee and the binders of an alternative for a constructor with no variables from outside
pub data_kept : (s : ℕ → NTy) (n : Name) (k : Constructor) (t : NTy) → is_data_of t n k ≡ true → is_data_of (substituted_type s t) n k ≡ true
data_kept s n k t h =
    let p = and_parts (is_con_type (type_head t) (data_name n k.data_word)) _ h in
    rw (
      head_kept s (data_name n k.data_word) t p.0,
      arguments_kept s (data_name n k.data_word) t p.0,
      map_length (substituted_type s) (type_arguments t),
    )
    p.1

pub fit_kept : (s : ℕ → NTy) (n : Name) (k : Constructor) (t : NTy) (bs : List NBinder) → IsScopedType 0 (constructor_type n k) → is_data_of t n k ≡ true
    → binders_fit n k t bs ≡ true → binders_fit n k (substituted_type s t) (replaced_binders s bs) ≡ true
fit_kept s n k t bs closed is h =
    let p = and_parts (is_con_type (type_head t) (data_name n k.data_word)) _ is in
    let e = same_as_inv (at_types (constructor_type n k) (type_arguments t)) (binders_to bs t) h in
    let f = at_types_kept s (constructor_type n k) (type_arguments t) (binders_to bs t) e in
    let g : at_types (constructor_type n k) (type_arguments (substituted_type s t)) ≡ Some (substituted_type s (binders_to bs t)) =
    rw (arguments_kept s (data_name n k.data_word) t p.0)
    (subst (λ x. at_types x (map (substituted_type s) (type_arguments t)) ≡ Some (substituted_type s (binders_to bs t))) (closed_kept s (constructor_type n k) closed) f)
    in
    ap (λ o. same_as o (binders_to (replaced_binders s bs) (substituted_type s t))) g ∙ same_type_of (binders_to_kept s bs t)
