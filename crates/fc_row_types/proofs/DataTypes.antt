-- The type of a scrutinee of data: the types that it is at are of the kinds of the parameters, and an alternative's binders are kinded.
use Rattle.std.proofs.Common.{◌≡◌, ℕ, zero, suc, ◌+◌, true, List, [], ◌∷◌, ◌++◌, length, map, Some, Ok, refl, sym, ap, ap₂, ◌∙◌, subst, arith}
use Rattle.std.proofs.lemmas.Bool.{and_parts}
use Rattle.fc_syntax.specs.declared.ty.Name.{Name}
use Rattle.fc_syntax.specs.declared.ty.Role.{Role}
use Rattle.fc_syntax.specs.Tree.{Kind, KStar, KArrow}
use Rattle.fc_model.specs.Calling.{Constructor, Given, Takes, at_types, applied_to_variables, binders_fit, binders_to, constructed_type, constructor, constructor_binders, constructor_type, data_name, is_con_type, is_data_of, over_binders}
use Rattle.fc_model.specs.Calling.{type_arguments, type_count, type_head}
use Rattle.fc_model.specs.Kinding.{Modules, HasHeadKind, HasKind, arrows, kind_application, kind_coforall, kind_declared, kind_forall, kind_function, name_kind, param_kinds}
use Rattle.fc_model.specs.Nameless.{NTy, NTVar, NTCon, NTInt, NTApp, NTFun, NTForall, NTCoForall, NParam, NParamOf, NBinder, NBValue, NBType, NBCo, NATerm, NAType, NACo, NArgs, NoNArgs, MoreNArgs}
use Rattle.fc_model.specs.Replacing.{replaced_binders, types_behind_all}
use Rattle.fc_model.specs.Substituting.{instantiated, raised_type, renamed_type, substituted_type, type_before}
use Rattle.fc_model.specs.TypingLaws.{AreDeclaredKinded, IsValueType}
use Rattle.fc_model.specs.TypingRules.{value_binder, type_binder, coercion_binder, ArgsAreGiven, BindersAreKinded, no_binders, one_binder}
use Rattle.fc_model.proofs.ArgumentsFit.{instantiated_before}
use Rattle.fc_model.proofs.ConstructorsRead.{constructed_is_read}
use Rattle.fc_model.specs.Typing.{Context, applied_to_types}
use Rattle.fc_row_types.proofs.ConstructorParts.{constructed_arguments, first_types}
use Rattle.fc_model.proofs.CallsKept.{binder_length_kept, head_kept, over_binders_kept, same_as_inv}
use Rattle.fc_model.proofs.Parts.{ok_ok}
use Rattle.fc_model.proofs.Sameness.{false_true, nat_eq_eq, same_kind_refl, same_name_eq, same_name_refl}
use Rattle.fc_model.proofs.Substitutions.{variables_for_themselves}
use Rattle.fc_model.proofs.TypesKinded.{kinded_anywhere, value_instance}
use Rattle.fc_row_types.proofs.Made.{none_some, some_some}

-- KINDS OF ARGUMENTS

pub data AreOfKinds (ms : Modules) (ks : List Kind) : List Kind → List NTy → Type 0 where
  none_of_kinds : AreOfKinds ms ks [] []
  one_of_kinds : {j : Kind} {js : List Kind} {t : NTy} {ts : List NTy} → HasKind ms ks t j → AreOfKinds ms ks js ts → AreOfKinds ms ks (j ∷ js) (t ∷ ts)

kinds_then : {ms : Modules} {ks js : List Kind} {ts : List NTy} {j : Kind} {t : NTy} → AreOfKinds ms ks js ts → HasKind ms ks t j → AreOfKinds ms ks (js ++ j ∷ []) (ts ++ t ∷ [])
kinds_then none_of_kinds h = one_of_kinds h none_of_kinds
kinds_then (one_of_kinds p more) h = one_of_kinds p (kinds_then more h)

kinds_count : {ms : Modules} {ks js : List Kind} {ts : List NTy} → AreOfKinds ms ks js ts → length js ≡ length ts
kinds_count none_of_kinds = refl
kinds_count (one_of_kinds p more) = ap suc (kinds_count more)

arrows_then : (js : List Kind) (j k : Kind) → arrows (js ++ j ∷ []) k ≡ arrows js (KArrow j k)
arrows_then [] j k = refl
arrows_then (i ∷ js) j k = ap (KArrow i) (arrows_then js j k)

abbrev arrow : Kind → Kind → Kind
arrow j k = KArrow j k

arrow_parts : {a b c d : Kind} → arrow a b ≡ arrow c d → (a ≡ c) × (b ≡ d)
arrow_parts h = (cc, cc)

arrows_same : (js ls : List Kind) (k l : Kind) → arrows js k ≡ arrows ls l → length js ≡ length ls → js ≡ ls
arrows_same [] [] k l h n = refl
arrows_same [] (i ∷ ls) k l h n = absurd (omega (arith, n))
arrows_same (i ∷ js) [] k l h n = absurd (omega (arith, n))
arrows_same (i ∷ js) (j ∷ ls) k l h n = let p = arrow_parts h in ap₂ (λ x xs. x ∷ xs) p.0 (arrows_same js ls k l p.1 (omega (arith, n)))

length_then : {X : Type 0} (xs : List X) (x : X) → length (xs ++ x ∷ []) ≡ suc (length xs)
length_then [] x = refl
length_then (y ∷ xs) x = ap suc (length_then xs x)

module _ (ms : Modules) where
  -- a declared type at types, the head of so many arguments more
  applied_kinds : (ks : List Kind) (args : ℕ) (t : NTy) (k : Kind) → HasHeadKind ms ks args t k → (d : Name) → is_con_type (type_head t) d ≡ true
      → (js : List Kind) × (name_kind ms d (args + length (type_arguments t)) ≡ Ok (arrows js k)) × AreOfKinds ms ks js (type_arguments t)
  applied_kinds ks args (NTCon c) k (kind_declared q) d h =
      let e : args + 0 ≡ args = omega arith in
      ([], ap (name_kind ms d) e ∙ subst (λ x. name_kind ms x args ≡ Ok k) (same_name_eq c d h) q, none_of_kinds)
  applied_kinds ks args (NTApp t u) k (kind_application {j = j} p q) d h =
      let ih = applied_kinds ks (suc args) t (KArrow j k) p d h in
      let e : args + length (type_arguments t ++ u ∷ []) ≡ suc args + length (type_arguments t) = omega (arith, length_then (type_arguments t) u) in
      (ih.0 ++ j ∷ [], ap (name_kind ms d) e ∙ ih.1 ∙ ap (λ x. Ok x) (sym (arrows_then ih.0 j k)), kinds_then ih.2 q)
  applied_kinds ks args (NTVar i) k p d h = false_true h
  applied_kinds ks args NTInt k p d h = false_true h
  applied_kinds ks args (NTFun t u) k p d h = false_true h
  applied_kinds ks args (NTForall j t) k p d h = false_true h
  applied_kinds ks args (NTCoForall r t u v) k p d h = false_true h

  -- what is of a type takes types of the kinds that it asks, and is then of another type
  pub data TypesTaken (ks : List Kind) : NTy → List NTy → NTy → Type 0 where
    no_types_taken : {t : NTy} → TypesTaken ks t [] t
    one_type_taken : {k : Kind} {r u w : NTy} {us : List NTy} → HasKind ms ks u k → TypesTaken ks (instantiated u r) us w → TypesTaken ks (NTForall k r) (u ∷ us) w

  -- the parameters of a constructor take types of their kinds; what is left are the constructor's own binders
  params_taken : (ks : List Kind) (ps : List NParam) (bs : List NBinder) (s : ℕ → NTy) (r w : NTy) (us : List NTy) → AreOfKinds ms ks (param_kinds ps) us
      → at_types (substituted_type s (over_binders (map NBType (param_kinds ps) ++ bs) r)) us ≡ Some w
      → TypesTaken ks (substituted_type s (over_binders (map NBType (param_kinds ps) ++ bs) r)) us w × ((z : ℕ → NTy) × (w ≡ substituted_type z (over_binders bs r)))
  params_taken ks [] bs s r w [] none_of_kinds h =
      let e : substituted_type s (over_binders bs r) ≡ w = some_some h in
      (subst (λ x. TypesTaken ks (substituted_type s (over_binders bs r)) [] x) e no_types_taken, (s, sym e))
  params_taken ks [] bs s r w (u ∷ us) kinds h = elim kinds [ ]
  params_taken ks (NParamOf k o ∷ ps) bs s r w [] kinds h = elim kinds [ ]
  params_taken ks (NParamOf k o ∷ ps) bs s r w (u ∷ us) (one_of_kinds p more) h =
      let x = over_binders (map NBType (param_kinds ps) ++ bs) r in
      let e = instantiated_before u s x in
      let ih = params_taken ks ps bs (type_before u s) r w us more (subst (λ y. at_types y us ≡ Some w) e h) in
      (one_type_taken p (subst (λ y. TypesTaken ks y us w) (sym e) ih.0), ih.1)

  value_taken : (ks : List Kind) {t w : NTy} {us : List NTy} → TypesTaken ks t us w → IsValueType ms ks t → IsValueType ms ks w
  value_taken ks no_types_taken v = v
  value_taken ks (one_type_taken {k = k} {r = r} {u = u} p rest) v = value_taken ks rest (value_instance ms ks k u r p v)

  -- binders of what is of a kind are kinded as those of a parameter
  binders_of_kinded : (ks : List Kind) (bs : List NBinder) (r : NTy) → IsValueType ms ks (over_binders bs r) → BindersAreKinded ms true ks bs
  binders_of_kinded ks [] r v = no_binders
  binders_of_kinded ks (NBValue t ∷ bs) r (k, kind_function i j p q x y, v) = one_binder (value_binder i p x) (binders_of_kinded ks bs r (j, q, y))
  binders_of_kinded ks (NBType l ∷ bs) r (k, kind_forall lifted p, v) = one_binder (type_binder lifted) (binders_of_kinded (l ∷ ks) bs r (KStar, p, refl))
  binders_of_kinded ks (NBCo o t u ∷ bs) r (k, kind_coforall i j p q x y, v) =
      one_binder (coercion_binder i i p q (same_kind_refl i)) (binders_of_kinded ks bs r (j, x, y))

-- LENGTHS

abbrev function_of : NTy → NTy → NTy
function_of t u = NTFun t u

function_parts : {s t u v : NTy} → function_of s t ≡ function_of u v → t ≡ v
function_parts h = cc

abbrev forall_of : Kind → NTy → NTy
forall_of k t = NTForall k t

pub forall_body : {j k : Kind} {t u : NTy} → forall_of j t ≡ forall_of k u → t ≡ u
forall_body h = cc

abbrev equality_of : Role → NTy → NTy → NTy → NTy
equality_of r s t u = NTCoForall r s t u

equality_body : {q r : Role} {s t u v w x : NTy} → equality_of q s t u ≡ equality_of r v w x → u ≡ x
equality_body h = cc

-- two types over binders that are the same, where each ends in a data type, have as many binders
as_many : (d : Name) (bs cs : List NBinder) (t u : NTy) → over_binders bs t ≡ over_binders cs u → is_con_type (type_head t) d ≡ true → is_con_type (type_head u) d ≡ true
    → length bs ≡ length cs
as_many d [] [] t u h p q = refl
as_many d [] (NBValue x ∷ cs) t u h p q = false_true (subst (λ y. is_con_type (type_head y) d ≡ true) h p)
as_many d [] (NBType k ∷ cs) t u h p q = false_true (subst (λ y. is_con_type (type_head y) d ≡ true) h p)
as_many d [] (NBCo r x y ∷ cs) t u h p q = false_true (subst (λ y. is_con_type (type_head y) d ≡ true) h p)
as_many d (NBValue x ∷ bs) [] t u h p q = false_true (subst (λ y. is_con_type (type_head y) d ≡ true) (sym h) q)
as_many d (NBType k ∷ bs) [] t u h p q = false_true (subst (λ y. is_con_type (type_head y) d ≡ true) (sym h) q)
as_many d (NBCo r x y ∷ bs) [] t u h p q = false_true (subst (λ y. is_con_type (type_head y) d ≡ true) (sym h) q)
as_many d (NBValue x ∷ bs) (NBValue y ∷ cs) t u h p q = ap suc (as_many d bs cs t u (function_parts h) p q)
as_many d (NBType k ∷ bs) (NBType l ∷ cs) t u h p q = ap suc (as_many d bs cs t u (forall_body h) p q)
as_many d (NBCo r x y ∷ bs) (NBCo s v w ∷ cs) t u h p q = ap suc (as_many d bs cs t u (equality_body h) p q)
as_many d (NBValue x ∷ bs) (NBType l ∷ cs) t u h p q = absurd cc
as_many d (NBValue x ∷ bs) (NBCo s v w ∷ cs) t u h p q = absurd cc
as_many d (NBType k ∷ bs) (NBValue y ∷ cs) t u h p q = absurd cc
as_many d (NBType k ∷ bs) (NBCo s v w ∷ cs) t u h p q = absurd cc
as_many d (NBCo r x y ∷ bs) (NBValue z ∷ cs) t u h p q = absurd cc
as_many d (NBCo r x y ∷ bs) (NBType l ∷ cs) t u h p q = absurd cc

-- the heads of types past others, and of a declared type at variables
renamed_head : (r : ℕ → ℕ) (d : Name) (t : NTy) → is_con_type (type_head t) d ≡ true → is_con_type (type_head (renamed_type r t)) d ≡ true
renamed_head r d (NTVar i) h = false_true h
renamed_head r d (NTCon c) h = h
renamed_head r d NTInt h = false_true h
renamed_head r d (NTApp t u) h = renamed_head r d t h
renamed_head r d (NTFun t u) h = false_true h
renamed_head r d (NTForall k t) h = false_true h
renamed_head r d (NTCoForall o t u v) h = false_true h

applied_head : (d : Name) (t : NTy) (m c : ℕ) → is_con_type (type_head t) d ≡ true → is_con_type (type_head (applied_to_variables t m c)) d ≡ true
applied_head d t zero c h = h
applied_head d t (suc m) c h = applied_head d (NTApp t (NTVar (m + c))) m c h

-- ALTERNATIVES

-- the types of the scrutinee, taken by the constructor, and the binders of the alternative
pub record Opened (ms : Modules) (ks : List Kind) (s : NTy) (n : Name) (k : Constructor) (bs : List NBinder) : Type 0 where
  pub taken : TypesTaken ms ks (constructor_type n k) (type_arguments s) (binders_to bs s)
  pub kinded : BindersAreKinded ms true ks bs
  pub long : length (type_arguments s) + length bs ≡ length (constructor_binders k)

append_length : {X : Type 0} (xs ys : List X) → length (xs ++ ys) ≡ length xs + length ys
append_length [] ys = omega arith
append_length (x ∷ xs) ys = omega (arith, append_length xs ys)

mapped_length : {X Y : Type 0} (f : X → Y) (xs : List X) → length (map f xs) ≡ length xs
mapped_length f [] = refl
mapped_length f (x ∷ xs) = ap suc (mapped_length f xs)

params_length : (ps : List NParam) → length (param_kinds ps) ≡ length ps
params_length [] = refl
params_length (NParamOf k r ∷ ps) = ap suc (params_length ps)

pub opened : (ms : Modules) → AreDeclaredKinded ms → (ks : List Kind) (s : NTy) (j : Kind) → HasKind ms ks s j → (n : Name) (k : Constructor) → constructor ms n ≡ Some k
    → is_data_of s n k ≡ true → (bs : List NBinder) → binders_fit n k s bs ≡ true → Opened ms ks s n k bs
opened ms declared ks s j kind n k found is bs fits =
    let d = data_name n k.data_word in
    let p = and_parts (is_con_type (type_head s) d) _ is in
    let many = nat_eq_eq (length (type_arguments s)) (length k.params) p.1 in
    let applied = applied_kinds ms ks 0 s j kind d p.0 in
    let same : arrows applied.0 j ≡ arrows (param_kinds k.params) KStar = ok_ok (sym applied.1 ∙ declared.data_types n k found (0 + length (type_arguments s))) in
    let counted : length applied.0 ≡ length (param_kinds k.params) = omega (arith, kinds_count applied.2, many, params_length k.params) in
    let kinds = subst (λ js. AreOfKinds ms ks js (type_arguments s)) (arrows_same applied.0 (param_kinds k.params) j KStar same counted) applied.2 in
    let own = k.binders ++ map NBValue k.fields in
    let e = variables_for_themselves (constructor_type n k) in
    let reached = same_as_inv (at_types (constructor_type n k) (type_arguments s)) (binders_to bs s) fits in
    let t = params_taken ms ks k.params own NTVar (constructed_type n k) (binders_to bs s) (type_arguments s) kinds
    (subst (λ x. at_types x (type_arguments s) ≡ Some (binders_to bs s)) (sym e) reached) in
    let taken = subst (λ x. TypesTaken ms ks x (type_arguments s) (binders_to bs s)) e t.0 in
    let value = value_taken ms ks taken (KStar, kinded_anywhere ms ks (constructor_type n k) KStar (declared.constructors n k found), refl) in
    let z = t.1.0 in
    let heads = applied_head d (NTCon d) (length k.params) (type_count k.binders) (con_itself d) in
    let alike = as_many d bs (replaced_binders z own) (raised_type (type_count bs) s) (substituted_type (types_behind_all own z) (constructed_type n k))
    (t.1.1 ∙ over_binders_kept own z (constructed_type n k)) (renamed_head (λ i. i + type_count bs) d s p.0) (head_kept (types_behind_all own z) d (constructed_type n k) heads) in
    record {
      taken = taken;
      kinded = binders_of_kinded ms ks bs (raised_type (type_count bs) s) value;
      long = omega (arith, alike, binder_length_kept z own, many, append_length (map NBType (param_kinds k.params)) own, mapped_length NBType (param_kinds k.params), params_length k.params);
    }
  where
    con_itself : (d : Name) → is_con_type (NTCon d) d ≡ true
    con_itself d = same_name_refl d

arrows_end : (js ls : List Kind) (k l : Kind) → arrows js k ≡ arrows ls l → length js ≡ length ls → k ≡ l
arrows_end [] [] k l h n = h
arrows_end [] (i ∷ ls) k l h n = absurd (omega (arith, n))
arrows_end (i ∷ js) [] k l h n = absurd (omega (arith, n))
arrows_end (i ∷ js) (j ∷ ls) k l h n = arrows_end js ls k l (arrow_parts h).1 (omega (arith, n))

read_head : (ps : List NParam) (args : NArgs) (d : Name) (t u : NTy) → applied_to_types t ps args ≡ Some u → is_con_type (type_head t) d ≡ true → is_con_type (type_head u) d ≡ true
read_head [] args d t u h i = subst (λ x. is_con_type (type_head x) d ≡ true) (some_some h) i
read_head (p ∷ ps) NoNArgs d t u h i = none_some h
read_head (p ∷ ps) (MoreNArgs (NAType x) rest) d t u h i = read_head ps rest d (NTApp t x) u h i
read_head (p ∷ ps) (MoreNArgs (NATerm e) rest) d t u h i = none_some h
read_head (p ∷ ps) (MoreNArgs (NACo g) rest) d t u h i = none_some h

first_count : (ps : List NParam) (args : NArgs) (t u : NTy) → applied_to_types t ps args ≡ Some u → length (first_types ps args) ≡ length ps
first_count [] args t u h = refl
first_count (p ∷ ps) NoNArgs t u h = none_some h
first_count (p ∷ ps) (MoreNArgs (NAType x) rest) t u h = ap suc (first_count ps rest (NTApp t x) u h)
first_count (p ∷ ps) (MoreNArgs (NATerm e) rest) t u h = none_some h
first_count (p ∷ ps) (MoreNArgs (NACo g) rest) t u h = none_some h

-- what a constructor constructs is of kind `*`
pub constructed_star : (ms : Modules) → AreDeclaredKinded ms → (ks : List Kind) (t : NTy) (j : Kind) → HasKind ms ks t j → (n : Name) (k : Constructor) → constructor ms n ≡ Some k
    → {c : Context} {args : NArgs} {gs : List Given} → ArgsAreGiven ms c args gs → length gs ≡ length (constructor_binders k) → Takes (constructor_type n k) gs t → HasKind ms ks t KStar
constructed_star ms declared ks t j kind n k found {args = args} given long takes =
    let d = data_name n k.data_word in
    let read = constructed_is_read ms n k takes given long in
    let applied = applied_kinds ms ks 0 t j kind d (read_head k.params args d (NTCon d) t read (same_name_refl d)) in
    let types = constructed_arguments ms n k t takes given long in
    let same : arrows applied.0 j ≡ arrows (param_kinds k.params) KStar = ok_ok (sym applied.1 ∙ declared.data_types n k found (0 + length (type_arguments t))) in
    let counted : length applied.0 ≡ length (param_kinds k.params) =
    kinds_count applied.2 ∙ ap length types.0 ∙ first_count k.params args (NTCon d) t read ∙ sym (params_length k.params) in
    subst (HasKind ms ks t) (arrows_end applied.0 (param_kinds k.params) j KStar same counted) kind
