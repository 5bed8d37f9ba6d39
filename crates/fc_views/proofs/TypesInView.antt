-- Types that mention modules in view alone. Renamed, substituted, applied and taken apart they do too.
use Rattle.std.proofs.Common.{◌≡◌, ◌∙◌, ℕ, zero, suc, ◌+◌, List, [], ◌∷◌, ◌++◌, length, map, Ok, refl, sym}
use Rattle.std.specs.List.{AllByRecursion as Each, list_all}
use Rattle.std.proofs.lemmas.Bool.{and_parts}
use Rattle.std.proofs.lemmas.List.Folds.{list_all-append}
use Rattle.fc_syntax.specs.declared.ty.Name.{Name}
use Rattle.fc_syntax.specs.declared.ty.Role.{Role}
use Rattle.fc_syntax.specs.Tree.{Word, Kind}
use Rattle.fc_model.specs.Calling.{Constructor, Given, GivenTerm, GivenType, GivenCoercion, Takes, takes_nothing, takes_term, takes_type, takes_coercion}
use Rattle.fc_model.specs.Calling.{applied_to_variables, binders_to, constructor_type, over_binder, over_binders, type_count}
use Rattle.fc_model.specs.Coercing.{Ends, applied_to, at_parameters, lefts, rights, shifted_ends}
use Rattle.fc_model.specs.Faulting.{at_distance}
use Rattle.fc_model.specs.Kinding.{param_kinds}
use Rattle.fc_model.specs.Nameless.{NTy, NTVar, NTCon, NTInt, NTApp, NTFun, NTForall, NTCoForall, NBinder, NBValue, NBType, NBCo}
use Rattle.fc_model.specs.Substituting.{instantiated, raised_type, renamed_type, renaming_below, shifted_type, substituted_type, type_before, type_for_innermost, types_before, types_below}
use Rattle.fc_headers.specs.NamelessHeaders.{modules_in_binder, modules_in_binders, modules_in_type, modules_in_types}
use Rattle.fc_views.specs.Views.{AreInView, AreTypesInView, IsNameInView, View}

-- LISTS

pub each_in_both : {X : Type 0} (P : X → Type 0) (xs ys : List X) → Each P xs → Each P ys → Each P (xs ++ ys)
each_in_both P [] ys p q = q
each_in_both P (x ∷ xs) ys p q = (p.0, each_in_both P xs ys p.1 q)

pub each_apart : {X : Type 0} (P : X → Type 0) (xs ys : List X) → Each P (xs ++ ys) → Each P xs × Each P ys
each_apart P [] ys h = (tt, h)
each_apart P (x ∷ xs) ys h = let p = each_apart P xs ys h.1 in ((h.0, p.0), p.1)

pub each_mapped : {X Y : Type 0} (P : X → Type 0) (Q : Y → Type 0) (f : X → Y) → ((x : X) → P x → Q (f x)) → (xs : List X) → Each P xs → Each Q (map f xs)
each_mapped P Q f kept [] h = tt
each_mapped P Q f kept (x ∷ xs) h = (kept x h.0, each_mapped P Q f kept xs h.1)

pub each_at : {X : Type 0} (P : X → Type 0) (xs : List X) (i : ℕ) {x : X} → Each P xs → at_distance xs i ≡ Ok x → P x
each_at P [] i h at = absurd (cc)
each_at P (y ∷ xs) zero {x = x} h at = let e : y ≡ x = cc in rw (← e) h.0
each_at P (y ∷ xs) (suc i) h at = each_at P xs i h.1 at

module _ (view : View) where
  -- WORDS

  pub words_apart : (xs ys : List Word) → AreInView view (xs ++ ys) → AreInView view xs × AreInView view ys
  words_apart xs ys h = and_parts (list_all view xs) (list_all view ys) (sym (list_all-append view xs ys) ∙ h)

  pub words_in_both : (xs ys : List Word) → AreInView view xs → AreInView view ys → AreInView view (xs ++ ys)
  words_in_both xs ys p q = list_all-append view xs ys ∙ rw (p, q) refl

  -- TYPES

  -- the names in a type are of modules in view
  pub data IsTypeIn : NTy → Type 0 where
    variable_in : {i : ℕ} → IsTypeIn (NTVar i)
    declared_in : {n : Name} → IsNameInView view n → IsTypeIn (NTCon n)
    int_in : IsTypeIn NTInt
    application_in : {t u : NTy} → IsTypeIn t → IsTypeIn u → IsTypeIn (NTApp t u)
    function_in : {t u : NTy} → IsTypeIn t → IsTypeIn u → IsTypeIn (NTFun t u)
    forall_in : {k : Kind} {t : NTy} → IsTypeIn t → IsTypeIn (NTForall k t)
    coforall_in : {r : Role} {t u v : NTy} → IsTypeIn t → IsTypeIn u → IsTypeIn v → IsTypeIn (NTCoForall r t u v)

  pub type_in : (t : NTy) → AreInView view (modules_in_type t) → IsTypeIn t
  type_in (NTVar i) h = variable_in
  type_in (NTCon n) h = declared_in h
  type_in NTInt h = int_in
  type_in (NTApp t u) h = let p = words_apart (modules_in_type t) (modules_in_type u) h in application_in (type_in t p.0) (type_in u p.1)
  type_in (NTFun t u) h = let p = words_apart (modules_in_type t) (modules_in_type u) h in function_in (type_in t p.0) (type_in u p.1)
  type_in (NTForall k t) h = forall_in (type_in t h)
  type_in (NTCoForall r t u v) h =
      let p = words_apart (modules_in_type t) (modules_in_type u ++ modules_in_type v) h in
      let q = words_apart (modules_in_type u) (modules_in_type v) p.1 in
      coforall_in (type_in t p.0) (type_in u q.0) (type_in v q.1)

  pub modules_of_type : {t : NTy} → IsTypeIn t → AreInView view (modules_in_type t)
  modules_of_type variable_in = refl
  modules_of_type (declared_in h) = h
  modules_of_type int_in = refl
  modules_of_type (application_in {t = t} {u = u} p q) = words_in_both (modules_in_type t) (modules_in_type u) (modules_of_type p) (modules_of_type q)
  modules_of_type (function_in {t = t} {u = u} p q) = words_in_both (modules_in_type t) (modules_in_type u) (modules_of_type p) (modules_of_type q)
  modules_of_type (forall_in p) = modules_of_type p
  modules_of_type (coforall_in {t = t} {u = u} {v = v} p q r) =
      words_in_both (modules_in_type t) (modules_in_type u ++ modules_in_type v) (modules_of_type p) (words_in_both (modules_in_type u) (modules_in_type v) (modules_of_type q) (modules_of_type r))

  pub types_in : (ts : List NTy) → AreInView view (modules_in_types ts) → Each IsTypeIn ts
  types_in [] h = tt
  types_in (t ∷ ts) h = let p = words_apart (modules_in_type t) (modules_in_types ts) h in (type_in t p.0, types_in ts p.1)

  pub two_types_in : (t u : NTy) → AreTypesInView view t u → IsTypeIn t × IsTypeIn u
  two_types_in t u h = let p = words_apart (modules_in_type t) (modules_in_type u) h in (type_in t p.0, type_in u p.1)

  pub modules_of_two : {t u : NTy} → IsTypeIn t → IsTypeIn u → AreTypesInView view t u
  modules_of_two {t = t} {u = u} p q = words_in_both (modules_in_type t) (modules_in_type u) (modules_of_type p) (modules_of_type q)

  -- VARIABLES IN PLACE OF VARIABLES

  renamed_in : (r : ℕ → ℕ) {t : NTy} → IsTypeIn t → IsTypeIn (renamed_type r t)
  renamed_in r variable_in = variable_in
  renamed_in r (declared_in h) = declared_in h
  renamed_in r int_in = int_in
  renamed_in r (application_in p q) = application_in (renamed_in r p) (renamed_in r q)
  renamed_in r (function_in p q) = function_in (renamed_in r p) (renamed_in r q)
  renamed_in r (forall_in p) = forall_in (renamed_in (renaming_below r) p)
  renamed_in r (coforall_in p q s) = coforall_in (renamed_in r p) (renamed_in r q) (renamed_in r s)

  pub shifted_in : {t : NTy} → IsTypeIn t → IsTypeIn (shifted_type t)
  shifted_in p = renamed_in suc p

  raised_in : (m : ℕ) {t : NTy} → IsTypeIn t → IsTypeIn (raised_type m t)
  raised_in m p = renamed_in (λ i. i + m) p

  -- TYPES IN PLACE OF VARIABLES

  below_in : (s : ℕ → NTy) → ((i : ℕ) → IsTypeIn (s i)) → (i : ℕ) → IsTypeIn (types_below s i)
  below_in s h zero = variable_in
  below_in s h (suc i) = shifted_in (h i)

  substituted_in : (s : ℕ → NTy) → ((i : ℕ) → IsTypeIn (s i)) → {t : NTy} → IsTypeIn t → IsTypeIn (substituted_type s t)
  substituted_in s h (variable_in {i = i}) = h i
  substituted_in s h (declared_in n) = declared_in n
  substituted_in s h int_in = int_in
  substituted_in s h (application_in p q) = application_in (substituted_in s h p) (substituted_in s h q)
  substituted_in s h (function_in p q) = function_in (substituted_in s h p) (substituted_in s h q)
  substituted_in s h (forall_in p) = forall_in (substituted_in (types_below s) (below_in s h) p)
  substituted_in s h (coforall_in p q r) = coforall_in (substituted_in s h p) (substituted_in s h q) (substituted_in s h r)

  innermost_in : {u : NTy} → IsTypeIn u → (i : ℕ) → IsTypeIn (type_for_innermost u i)
  innermost_in h zero = h
  innermost_in h (suc i) = variable_in

  pub instantiated_in : {u t : NTy} → IsTypeIn u → IsTypeIn t → IsTypeIn (instantiated u t)
  instantiated_in {u = u} p q = substituted_in (type_for_innermost u) (innermost_in p) q

  one_before_in : {t : NTy} (s : ℕ → NTy) → IsTypeIn t → ((i : ℕ) → IsTypeIn (s i)) → (i : ℕ) → IsTypeIn (type_before t s i)
  one_before_in s p h zero = p
  one_before_in s p h (suc i) = h i

  before_in : (ts : List NTy) (s : ℕ → NTy) → Each IsTypeIn ts → ((i : ℕ) → IsTypeIn (s i)) → (i : ℕ) → IsTypeIn (types_before ts s i)
  before_in [] s q h i = h i
  before_in (t ∷ ts) s q h i = before_in ts (type_before t s) q.1 (one_before_in s q.0 h) i

  pub parameters_in : (ts : List NTy) {t : NTy} → Each IsTypeIn ts → IsTypeIn t → IsTypeIn (at_parameters ts t)
  parameters_in ts h p = substituted_in (types_before ts NTVar) (before_in ts NTVar h (λ i. variable_in)) p

  -- APPLICATIONS

  pub applied_in : (us : List NTy) {t : NTy} → IsTypeIn t → Each IsTypeIn us → IsTypeIn (applied_to t us)
  applied_in [] p h = p
  applied_in (u ∷ us) p h = applied_in us (application_in p h.0) h.1

  pub to_variables_in : (m d : ℕ) {t : NTy} → IsTypeIn t → IsTypeIn (applied_to_variables t m d)
  to_variables_in zero d p = p
  to_variables_in (suc m) d p = to_variables_in m d (application_in p variable_in)

  -- ENDS

  abbrev pub AreEndsIn : Ends → Type 0
  AreEndsIn e = IsTypeIn e.left × IsTypeIn e.right

  pub lefts_in : (es : List Ends) → Each AreEndsIn es → Each IsTypeIn (lefts es)
  lefts_in [] h = tt
  lefts_in (e ∷ es) h = (h.0.0, lefts_in es h.1)

  pub rights_in : (es : List Ends) → Each AreEndsIn es → Each IsTypeIn (rights es)
  rights_in [] h = tt
  rights_in (e ∷ es) h = (h.0.1, rights_in es h.1)

  pub shifted_ends_in : (es : List Ends) → Each AreEndsIn es → Each AreEndsIn (map shifted_ends es)
  shifted_ends_in es h = each_mapped AreEndsIn AreEndsIn shifted_ends (λ e p. (shifted_in p.0, shifted_in p.1)) es h

  -- BINDERS

  abbrev pub IsBinderIn : NBinder → Type 0
  IsBinderIn (NBValue t) = IsTypeIn t
  IsBinderIn (NBType k) = Unit {0}
  IsBinderIn (NBCo r t u) = IsTypeIn t × IsTypeIn u

  pub binder_in : (b : NBinder) → AreInView view (modules_in_binder b) → IsBinderIn b
  binder_in (NBValue t) h = type_in t h
  binder_in (NBType k) h = tt
  binder_in (NBCo r t u) h = two_types_in t u h

  pub binders_in : (bs : List NBinder) → AreInView view (modules_in_binders bs) → Each IsBinderIn bs
  binders_in [] h = tt
  binders_in (b ∷ bs) h = let p = words_apart (modules_in_binder b) (modules_in_binders bs) h in (binder_in b p.0, binders_in bs p.1)

  pub over_binder_in : (b : NBinder) {t : NTy} → IsBinderIn b → IsTypeIn t → IsTypeIn (over_binder b t)
  over_binder_in (NBValue s) p q = function_in p q
  over_binder_in (NBType k) p q = forall_in q
  over_binder_in (NBCo r u v) p q = coforall_in p.0 p.1 q

  over_binders_in : (bs : List NBinder) {t : NTy} → Each IsBinderIn bs → IsTypeIn t → IsTypeIn (over_binders bs t)
  over_binders_in [] h p = p
  over_binders_in (b ∷ bs) h p = over_binder_in b h.0 (over_binders_in bs h.1 p)

  pub binders_to_in : (bs : List NBinder) {t : NTy} → Each IsBinderIn bs → IsTypeIn t → IsTypeIn (binders_to bs t)
  binders_to_in bs h p = over_binders_in bs h (raised_in (type_count bs) p)

  -- CONSTRUCTORS

  params_in : (ks : List Kind) → Each IsBinderIn (map NBType ks)
  params_in [] = tt
  params_in (k ∷ ks) = (tt, params_in ks)

  pub constructor_in : (n : Name) (k : Constructor) → IsNameInView view n → AreInView view (modules_in_binders k.binders ++ modules_in_types k.fields)
      → IsTypeIn (constructor_type n k)
  constructor_in n k named h =
      let p = words_apart (modules_in_binders k.binders) (modules_in_types k.fields) h in
      let fields : Each IsBinderIn (map NBValue k.fields) = each_mapped IsTypeIn IsBinderIn NBValue (λ t q. q) k.fields (types_in k.fields p.1) in
      let own : Each IsBinderIn (k.binders ++ map NBValue k.fields) = each_in_both IsBinderIn k.binders (map NBValue k.fields) (binders_in k.binders p.0) fields in
      over_binders_in (map NBType (param_kinds k.params) ++ (k.binders ++ map NBValue k.fields))
      (each_in_both IsBinderIn (map NBType (param_kinds k.params)) (k.binders ++ map NBValue k.fields) (params_in (param_kinds k.params)) own)
      (to_variables_in (length k.params) (type_count k.binders) (declared_in named))

  -- ARGUMENTS

  -- of an argument only a type is put into a type
  abbrev pub IsGivenIn : Given → Type 0
  IsGivenIn (GivenTerm t atom) = Unit {0}
  IsGivenIn (GivenType t k) = IsTypeIn t
  IsGivenIn (GivenCoercion r t u) = Unit {0}

  pub taken_in : {t u : NTy} {gs : List Given} → Takes t gs u → IsTypeIn t → Each IsGivenIn gs → IsTypeIn u
  taken_in takes_nothing p h = p
  taken_in (takes_term fits more) (function_in p q) h = taken_in more q h.1
  taken_in (takes_type more) (forall_in p) h = taken_in more (instantiated_in h.0 p) h.1
  taken_in (takes_coercion more) (coforall_in p q r) h = taken_in more r h.1
