-- The arguments of a constructor: types for the parameters of its data type, and what stands for the binders of its alternative.
use Rattle.std.proofs.Common.{◌≡◌, ℕ, true, false, List, [], ◌∷◌, ◌++◌, length, map, Some, refl, sym, ap, ◌∙◌, subst, arith}
use Rattle.fc_syntax.specs.declared.ty.Name.{Name}
use Rattle.fc_syntax.specs.Tree.{Kind}
use Rattle.fc_model.specs.Calling.{Constructor, Given, GivenType, Takes, takes_nothing, takes_term, takes_type, takes_coercion, at_types, binders_fit, binders_to, constructor_binders, constructor_type}
use Rattle.fc_model.specs.Calling.{constructed_type, data_name, is_unlifted, over_binders, type_arguments}
use Rattle.fc_model.specs.Kinding.{Modules, param_kinds}
use Rattle.fc_model.specs.Nameless.{NTy, NTVar, NTCon, NTApp, NTForall, NParam, NParamOf, NBinder, NBValue, NBType, NATerm, NAType, NACo, NArgs, NoNArgs, MoreNArgs}
use Rattle.fc_model.specs.Substituting.{instantiated, substituted_type, type_before, types_below}
use Rattle.fc_model.specs.Typing.{Context, applied_to_types}
use Rattle.fc_model.specs.TypingRules.{ArgsAreGiven, no_args, one_arg, given_type}
use Rattle.fc_model.proofs.ArgumentsFit.{instantiated_before}
use Rattle.fc_model.proofs.CallsKept.{same_as_inv}
use Rattle.fc_model.proofs.ConstructorsRead.{constructed_is_read}
use Rattle.fc_model.proofs.Substitutions.{variables_for_themselves}
use Rattle.fc_rows.specs.Shrinking.{without_first}
use Rattle.fc_row_types.proofs.Made.{none_some, some_some}

-- the types that stand for parameters
abbrev pub first_types : List NParam → NArgs → List NTy
first_types [] args = []
first_types (p ∷ ps) NoNArgs = []
first_types (p ∷ ps) (MoreNArgs (NAType t) rest) = t ∷ first_types ps rest
first_types (p ∷ ps) (MoreNArgs (NATerm e) rest) = first_types ps rest
first_types (p ∷ ps) (MoreNArgs (NACo g) rest) = first_types ps rest

-- what is left of arguments behind those for parameters
pub record Parts (ms : Modules) (c : Context) (ps : List NParam) (bs : List NBinder) (t u : NTy) (args : NArgs) : Type 0 where
  pub given : List Given
  pub type : NTy
  pub reached : at_types t (first_types ps args) ≡ Some type
  pub takes : Takes type given u
  pub are_given : ArgsAreGiven ms c (without_first ps args) given
  pub long : length given ≡ length bs

-- the type that a data type at types is at those types
arguments_read : (ps : List NParam) (args : NArgs) (t u : NTy) → applied_to_types t ps args ≡ Some u → type_arguments u ≡ type_arguments t ++ first_types ps args
arguments_read [] args t u h = ap type_arguments (sym (some_some h)) ∙ no_more (type_arguments t)
  where
    no_more : (xs : List NTy) → xs ≡ xs ++ []
    no_more [] = refl
    no_more (x ∷ xs) = ap (λ ys. x ∷ ys) (no_more xs)
arguments_read (p ∷ ps) NoNArgs t u h = none_some h
arguments_read (p ∷ ps) (MoreNArgs (NAType x) rest) t u h = arguments_read ps rest (NTApp t x) u h ∙ joined (type_arguments t)
  where
    joined : (xs : List NTy) → (xs ++ x ∷ []) ++ first_types ps rest ≡ xs ++ x ∷ first_types ps rest
    joined [] = refl
    joined (y ∷ ys) = ap (λ zs. y ∷ zs) (joined ys)
arguments_read (p ∷ ps) (MoreNArgs (NATerm e) rest) t u h = none_some h
arguments_read (p ∷ ps) (MoreNArgs (NACo g) rest) t u h = none_some h

-- such a type is not unlifted
lifted_read : (ps : List NParam) (args : NArgs) (t u : NTy) → applied_to_types t ps args ≡ Some u → is_unlifted t ≡ false → is_unlifted u ≡ false
lifted_read [] args t u h i = ap is_unlifted (sym (some_some h)) ∙ i
lifted_read (p ∷ ps) NoNArgs t u h i = none_some h
lifted_read (p ∷ ps) (MoreNArgs (NAType x) rest) t u h i = lifted_read ps rest (NTApp t x) u h refl
lifted_read (p ∷ ps) (MoreNArgs (NATerm e) rest) t u h i = none_some h
lifted_read (p ∷ ps) (MoreNArgs (NACo g) rest) t u h i = none_some h

abbrev forall_of : Kind → NTy → NTy
forall_of k t = NTForall k t

forall_body : {j k : Kind} {t u : NTy} → forall_of j t ≡ forall_of k u → t ≡ u
forall_body h = cc

module _ (ms : Modules) where
  split : (ps : List NParam) (bs : List NBinder) (s : ℕ → NTy) (r t u : NTy) {gs : List Given} {c : Context} {args : NArgs}
      → t ≡ substituted_type s (over_binders (map NBType (param_kinds ps) ++ bs) r) → Takes t gs u → ArgsAreGiven ms c args gs
      → length gs ≡ length (map NBType (param_kinds ps) ++ bs) → Parts ms c ps bs t u args
  split [] bs s r t u {gs = gs} e takes given long = record { given = gs; type = t; reached = refl; takes = takes; are_given = given; long = long }
  split (NParamOf k o ∷ ps) bs s r t u e takes_nothing no_args long = absurd (omega (arith, long))
  split (NParamOf j o ∷ ps) bs s r t u {gs = GivenType x k ∷ gs} e (takes_type {r = q} rest) (one_arg {rest = others} (given_type kind) args) long =
      let below = over_binders (map NBType (param_kinds ps) ++ bs) r in
      let same : q ≡ substituted_type (types_below s) below = forall_body e in
      let there = ap (instantiated x) same ∙ instantiated_before x s below in
      let shorter : length gs ≡ length (map NBType (param_kinds ps) ++ bs) = omega (arith, long) in
      let p = split ps bs (type_before x s) r (instantiated x q) u there rest args shorter in
      record { given = p.given; type = p.type; reached = p.reached; takes = p.takes; are_given = p.are_given; long = p.long }
  split (NParamOf j o ∷ ps) bs s r t u e (takes_term fits rest) given long = absurd cc
  split (NParamOf j o ∷ ps) bs s r t u e (takes_coercion rest) given long = absurd cc

  -- the arguments of a constructor: what stands for the binders of its alternative, and the types that the whole is at
  pub constructor_parts : (n : Name) (k : Constructor) {gs : List Given} {c : Context} {args : NArgs} (u : NTy) → Takes (constructor_type n k) gs u → ArgsAreGiven ms c args gs
      → length gs ≡ length (constructor_binders k) → Parts ms c k.params (k.binders ++ map NBValue k.fields) (constructor_type n k) u args
  constructor_parts n k u takes given long =
      split k.params (k.binders ++ map NBValue k.fields) NTVar (constructed_type n k) (constructor_type n k) u (sym (variables_for_themselves (constructor_type n k))) takes given long

  pub constructed_arguments : (n : Name) (k : Constructor) {gs : List Given} {c : Context} {args : NArgs} (u : NTy) → Takes (constructor_type n k) gs u → ArgsAreGiven ms c args gs
      → length gs ≡ length (constructor_binders k) → (type_arguments u ≡ first_types k.params args) × (is_unlifted u ≡ false)
  constructed_arguments n k {args = args} u takes given long =
      let read = constructed_is_read ms n k takes given long in
      (arguments_read k.params args (NTCon (data_name n k.data_word)) u read, lifted_read k.params args (NTCon (data_name n k.data_word)) u read refl)

  -- where the binders of an alternative fit the whole, what stands behind the types is taken for them
  pub taken_for_binders : (n : Name) (k l : Constructor) {gs : List Given} {c : Context} {args : NArgs} (u : NTy) (bs : List NBinder) (takes : Takes (constructor_type n k) gs u)
      (given : ArgsAreGiven ms c args gs) (long : length gs ≡ length (constructor_binders k)) → l ≡ k → binders_fit n l u bs ≡ true
      → Takes (binders_to bs u) (constructor_parts n k u takes given long).given u
  taken_for_binders n k l u bs takes given long same fits =
      let p = constructor_parts n k u takes given long in
      let there : at_types (constructor_type n k) (type_arguments u) ≡ Some (binders_to bs u) =
      subst (λ m. at_types (constructor_type n m) (type_arguments u) ≡ Some (binders_to bs u)) same (same_as_inv (at_types (constructor_type n l) (type_arguments u)) (binders_to bs u) fits) in
      let reached : at_types (constructor_type n k) (type_arguments u) ≡ Some p.type = ap (at_types (constructor_type n k)) (constructed_arguments n k u takes given long).0 ∙ p.reached in
      subst (λ t. Takes t p.given u) (some_some (sym reached ∙ there)) p.takes
