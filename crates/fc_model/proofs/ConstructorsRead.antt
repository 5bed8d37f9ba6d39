-- What takes arguments for binders: types in place of the variables of the binders. A constructor's first arguments are the types that
-- its data type is at.
use Rattle.std.proofs.Common.{◌≡◌, ℕ, zero, suc, ◌+◌, List, [], ◌∷◌, ◌++◌, length, map, Some, refl, sym, ap, ap₂, ◌∙◌, subst, arith}
use Rattle.fc_syntax.specs.declared.ty.Name.{Name}
use Rattle.fc_model.specs.Calling.{Constructor, Given, GivenTerm, GivenType, GivenCoercion, Takes, takes_nothing, takes_term, takes_type, takes_coercion}
use Rattle.fc_model.specs.Calling.{applied_to_variables, constructed_type, constructor_binders, constructor_type, data_name, over_binders, type_count}
use Rattle.fc_model.specs.Kinding.{Modules, param_kinds}
use Rattle.fc_model.specs.Nameless.{NTy, NTVar, NTCon, NTApp, NParam, NParamOf, NBinder, NBValue, NBType, NBCo, NArgs}
use Rattle.fc_model.specs.Substituting.{instantiated, substituted_type, type_for_innermost, types_below}
use Rattle.fc_model.specs.Typing.{Context, applied_to_types, constructed_at}
use Rattle.fc_model.specs.TypingRules.{ArgsAreGiven, one_arg, given_type}
use Rattle.fc_model.proofs.Called.{takes_none}
use Rattle.fc_model.proofs.Substitutions.{equal_types, shifted_is_kept, substitutions_compose, variables_for_themselves}

-- TYPES PUT IN

-- a type for the innermost variable, and these for the others
abbrev with_innermost : NTy → (ℕ → NTy) → ℕ → NTy
with_innermost u s zero = u
with_innermost u s (suc i) = s i

-- the types among arguments, each for the variable of its binder
abbrev pub put : List Given → (ℕ → NTy) → ℕ → NTy
put [] s = s
put (GivenTerm t atom ∷ gs) s = put gs s
put (GivenType u k ∷ gs) s = put gs (with_innermost u s)
put (GivenCoercion o a b ∷ gs) s = put gs s

-- how many types are among arguments
abbrev pub types_among : List Given → ℕ
types_among [] = 0
types_among (GivenTerm t atom ∷ gs) = types_among gs
types_among (GivenType u k ∷ gs) = suc (types_among gs)
types_among (GivenCoercion o a b ∷ gs) = types_among gs

-- a variable that stands outside of all binders keeps its type
pub put_past : (gs : List Given) (s : ℕ → NTy) (i j : ℕ) → j ≡ i + types_among gs → put gs s j ≡ s i
put_past [] s i j e = ap s (omega (arith, e))
put_past (GivenTerm t atom ∷ gs) s i j e = put_past gs s i j e
put_past (GivenType u k ∷ gs) s i j e = put_past gs (with_innermost u s) (suc i) j (omega (arith, e))
put_past (GivenCoercion o a b ∷ gs) s i j e = put_past gs s i j e

-- below a binder and then a type for its variable
innermost_put : (u : NTy) (s : ℕ → NTy) (i : ℕ) → instantiated u (types_below s i) ≡ with_innermost u s i
innermost_put u s zero = refl
innermost_put u s (suc i) = shifted_is_kept u (s i)

instantiated_is_put : (u : NTy) (s : ℕ → NTy) (t : NTy) → instantiated u (substituted_type (types_below s) t) ≡ substituted_type (with_innermost u s) t
instantiated_is_put u s t = substitutions_compose (types_below s) (type_for_innermost u) t ∙ equal_types (innermost_put u s) t

-- WHAT IS TAKEN

-- what takes an argument for each of its binders is what stands behind them, with the types in place of their variables
pub taken_is : (bs : List NBinder) (gs : List Given) (s : ℕ → NTy) (r w : NTy) → Takes (substituted_type s (over_binders bs r)) gs w → length gs ≡ length bs
    → (substituted_type (put gs s) r ≡ w) × (types_among gs ≡ type_count bs)
taken_is [] [] s r w h l = (takes_none h, refl)
taken_is [] (g ∷ gs) s r w h l = absurd (omega (arith, l))
taken_is (b ∷ bs) [] s r w h l = absurd (omega (arith, l))
taken_is (NBValue t ∷ bs) (g ∷ gs) s r w (takes_term fits rest) l = taken_is bs gs s r w rest (omega (arith, l))
taken_is (NBType k ∷ bs) (g ∷ gs) s r w (takes_type {u = u} rest) l =
    let p = taken_is bs gs (with_innermost u s) r w (subst (λ x. Takes x gs w) (instantiated_is_put u s (over_binders bs r)) rest) (omega (arith, l)) in
    (p.0, omega (arith, p.1))
taken_is (NBCo o t u ∷ bs) (g ∷ gs) s r w (takes_coercion rest) l = taken_is bs gs s r w rest (omega (arith, l))

-- COUNTS OF TYPES

-- parameters are all types
pub params_count : (ps : List NParam) (bs : List NBinder) → type_count (map NBType (param_kinds ps) ++ bs) ≡ length ps + type_count bs
params_count [] bs = omega arith
params_count (NParamOf k o ∷ ps) bs = omega (arith, params_count ps bs)

-- fields are none
fields_count : (ts : List NTy) → type_count (map NBValue ts) ≡ 0
fields_count [] = refl
fields_count (t ∷ ts) = fields_count ts

pub behind_fields : (bs : List NBinder) (ts : List NTy) → type_count (bs ++ map NBValue ts) ≡ type_count bs
behind_fields [] ts = fields_count ts
behind_fields (NBValue t ∷ bs) ts = behind_fields bs ts
behind_fields (NBType k ∷ bs) ts = ap (λ n. suc n) (behind_fields bs ts)
behind_fields (NBCo o t u ∷ bs) ts = behind_fields bs ts

-- CONSTRUCTORS

module _ (ms : Modules) where
  -- a type applied to variables of parameters, with the types that are given in their place, is applied to the first arguments
  applied_is_read : (ps : List NParam) (bs : List NBinder) (d : ℕ) (s : ℕ → NTy) (t head r w : NTy) {gs : List Given} {c : Context} {args : NArgs}
      → Takes (substituted_type s (over_binders (map NBType (param_kinds ps) ++ bs) r)) gs w → ArgsAreGiven ms c args gs
      → length gs ≡ length (map NBType (param_kinds ps) ++ bs) → type_count bs ≡ d → t ≡ substituted_type (put gs s) head
      → applied_to_types t ps args ≡ Some (substituted_type (put gs s) (applied_to_variables head (length ps) d))
  applied_is_read [] bs d s t head r w h args l n e = ap (λ x. Some x) e
  applied_is_read (NParamOf k o ∷ ps) bs d s t head r w takes_nothing args l n e = absurd (omega (arith, l))
  applied_is_read (NParamOf j o ∷ ps) bs d s t head r w {gs = GivenType u k ∷ gs} (takes_type rest) (one_arg (given_type kind) args) l n e =
      let i = length ps + d in
      let below = subst (λ x. Takes x gs w) (instantiated_is_put u s (over_binders (map NBType (param_kinds ps) ++ bs) r)) rest in
      let shorter : length gs ≡ length (map NBType (param_kinds ps) ++ bs) = omega (arith, l) in
      let p = taken_is (map NBType (param_kinds ps) ++ bs) gs (with_innermost u s) r w below shorter in
      let outside = put_past gs (with_innermost u s) 0 i (omega (arith, p.1, params_count ps bs, n)) in
      applied_is_read ps bs d (with_innermost u s) (NTApp t u) (NTApp head (NTVar i)) r w below args shorter n (ap₂ NTApp e (sym outside))

  -- what a constructor constructs is its data type at the first arguments
  pub constructed_is_read : (n : Name) (k : Constructor) {gs : List Given} {t : NTy} {c : Context} {args : NArgs} → Takes (constructor_type n k) gs t → ArgsAreGiven ms c args gs
      → length gs ≡ length (constructor_binders k) → constructed_at n args k ≡ Some t
  constructed_is_read n k {gs = gs} {t = t} h args l =
      let bs = k.binders ++ map NBValue k.fields in
      let taken = subst (λ x. Takes x gs t) (sym (variables_for_themselves (constructor_type n k))) h in
      let p = taken_is (constructor_binders k) gs NTVar (constructed_type n k) t taken l in
      applied_is_read k.params bs (type_count k.binders) NTVar _ (NTCon (data_name n k.data_word)) (constructed_type n k) t taken args l (behind_fields k.binders k.fields) refl
      ∙ ap (λ x. Some x) p.0
