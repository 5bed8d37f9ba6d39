-- How many binders an alternative has: as many as its constructor, but for those of the data type's parameters.
use Rattle.std.proofs.Common.{◌≡◌, ℕ, zero, suc, ◌+◌, Bool, true, false, nat_eq, List, [], ◌∷◌, length, Option, Some, None, refl, sym, ap, ◌∙◌, subst, arith}
use Rattle.std.proofs.lemmas.Bool.{and_parts}
use Rattle.fc_syntax.specs.declared.ty.Name.{Name}
use Rattle.fc_model.specs.Calling.{Constructor, applied_to_variables, at_types, binders_fit, binders_to, constructed_type, constructor_binders, constructor_type, data_name}
use Rattle.fc_model.specs.Calling.{is_con_type, is_data_of, over_binders, same_as, type_arguments, type_count, type_head}
use Rattle.fc_model.specs.Nameless.{NTy, NTVar, NTCon, NTInt, NTApp, NTFun, NTForall, NTCoForall, NBinder, NBValue, NBType, NBCo}
use Rattle.fc_model.specs.Substituting.{instantiated, raised_type, substituted_type, type_for_innermost, types_below}
use Rattle.fc_model.proofs.CallsKept.{head_kept}
use Rattle.fc_model.proofs.Sameness.{false_true, nat_eq_eq, same_type_eq, same_type_refl}
use Rattle.fc_model.proofs.Substitutions.{renamed_is_substituted}

-- for a name d
module _ (d : Name) where
  -- so many functions and `forall`s, of types or of coercions, stand before a type whose head is d
  abbrev leads : ℕ → NTy → Bool
  leads zero t = is_con_type (type_head t) d
  leads (suc m) (NTVar i) = false
  leads (suc m) (NTCon n) = false
  leads (suc m) NTInt = false
  leads (suc m) (NTApp t u) = false
  leads (suc m) (NTFun t u) = leads m u
  leads (suc m) (NTForall k t) = leads m t
  leads (suc m) (NTCoForall r t u v) = leads m v

  -- it is so of one number only
  one_number : (t : NTy) (m n : ℕ) → leads m t ≡ true → leads n t ≡ true → m ≡ n
  one_number (NTFun t u) (suc m) (suc n) p q = ap suc (one_number u m n p q)
  one_number (NTForall k t) (suc m) (suc n) p q = ap suc (one_number t m n p q)
  one_number (NTCoForall r t u v) (suc m) (suc n) p q = ap suc (one_number v m n p q)
  one_number t zero zero p q = refl
  one_number t m n p q = absurd cc

  -- types in place of variables keep the number
  number_kept : (s : ℕ → NTy) (m : ℕ) (t : NTy) → leads m t ≡ true → leads m (substituted_type s t) ≡ true
  number_kept s zero t p = head_kept s d t p
  number_kept s (suc m) (NTFun t u) p = number_kept s m u p
  number_kept s (suc m) (NTForall k t) p = number_kept (types_below s) m t p
  number_kept s (suc m) (NTCoForall r t u v) p = number_kept s m v p
  number_kept s (suc m) t p = false_true p

  -- at types, so many are gone
  number_at_types : (us : List NTy) (t v : NTy) (m n : ℕ) → at_types t us ≡ Some v → leads m t ≡ true → leads n v ≡ true → m ≡ length us + n
  number_at_types [] t v m n e p q = one_number t m n p (subst (λ x. leads n x ≡ true) (sym cc) q) ∙ omega arith
  number_at_types (u ∷ us) (NTForall k t) v (suc m) n e p q =
      let rest = number_at_types us (instantiated u t) v m n e (number_kept (type_for_innermost u) m t p) q in
      omega (arith, rest)
  number_at_types (u ∷ us) t v m n e p q = absurd cc

  -- before a type whose head is d, each binder counts
  number_over : (bs : List NBinder) (t : NTy) → leads (length bs) (over_binders bs t) ≡ is_con_type (type_head t) d
  number_over [] t = refl
  number_over (NBValue s ∷ bs) t = number_over bs t
  number_over (NBType k ∷ bs) t = number_over bs t
  number_over (NBCo r u v ∷ bs) t = number_over bs t

  -- past binders, the head is the same
  head_raised : (m : ℕ) (t : NTy) → is_con_type (type_head t) d ≡ true → is_con_type (type_head (raised_type m t)) d ≡ true
  head_raised m t p = rw (renamed_is_substituted (λ i. i + m) t) (head_kept (λ i. NTVar (i + m)) d t p)

-- applied to variables, the head is the same
head_applied : (t : NTy) (m i : ℕ) → type_head (applied_to_variables t m i) ≡ type_head t
head_applied t zero i = refl
head_applied t (suc m) i = head_applied (NTApp t (NTVar (m + i))) m i

same_as_inv : (o : Option NTy) (t : NTy) → same_as o t ≡ true → o ≡ Some t
same_as_inv (Some u) t h = ap (λ x. Some x) (same_type_eq u t h)
same_as_inv None t h = false_true h

-- binders that fit are as many as the constructor's, with those of the parameters
pub number_of_fit : (n : Name) (k : Constructor) (s : NTy) (bs : List NBinder) → is_data_of s n k ≡ true → binders_fit n k s bs ≡ true
    → length bs + length k.params ≡ length (constructor_binders k)
number_of_fit n k s bs is fit =
    let d = data_name n k.data_word in
    let of_data = and_parts (is_con_type (type_head s) d) (nat_eq (length (type_arguments s)) (length k.params)) is in
    let whole : is_con_type (type_head (constructed_type n k)) d ≡ true = rw (head_applied (NTCon d) (length k.params) (type_count k.binders)) (same_type_refl (NTCon d)) in
    let number = number_at_types d (type_arguments s) (constructor_type n k) (binders_to bs s) (length (constructor_binders k)) (length bs)
    (same_as_inv (at_types (constructor_type n k) (type_arguments s)) (binders_to bs s) fit)
    (number_over d (constructor_binders k) (constructed_type n k) ∙ whole)
    (number_over d bs (raised_type (type_count bs) s) ∙ head_raised d (type_count bs) s of_data.0) in
    omega (arith, number, nat_eq_eq (length (type_arguments s)) (length k.params) of_data.1)

never : (b : Bool) → (b ≡ true → ⊥) → b ≡ false
never true h = absurd (h refl)
never false h = refl

-- so binders of another number do not fit
pub other_number : (n : Name) (k : Constructor) (s : NTy) (bs : List NBinder) → is_data_of s n k ≡ true → (length bs + length k.params ≡ length (constructor_binders k) → ⊥)
    → binders_fit n k s bs ≡ false
other_number n k s bs is apart = never (binders_fit n k s bs) (λ fit. apart (number_of_fit n k s bs is fit))
