-- A type applied to arguments, one after the other.
use Rattle.std.proofs.Common.{◌≡◌, ℕ, zero, suc, ◌+◌, ◌-◌, ◌<◌, List, [], ◌∷◌, drop, length, refl, sym, ap, ◌∙◌, Option, Some, None, add-one, arith}
use Rattle.std.proofs.lemmas.List.{length-map}
use Rattle.std.specs.Prelude.{slice_get}
use Rattle.std.specs.Option.{option_map}
use Rattle.fc_syntax.specs.View.{param_of, params_of}
use Rattle.fc_syntax.specs.declared.expr.Arg.{Arg}
use Rattle.fc_syntax.specs.declared.expr.Arg.TheVariants as args
use Rattle.fc_syntax.specs.declared.module.Param as RustParam
use Rattle.fc_syntax.specs.declared.ty.Ref.{Ref}
use Rattle.fc_syntax.specs.declared.ty.Ty.{Ty}
use Rattle.fc_model.specs.Calling.{from_some}
use Rattle.fc_model.specs.Nameless.{NTy, NTApp, NParam, NArgs, NoNArgs, MoreNArgs, NATerm, NAType, NACo}
use Rattle.fc_model.specs.NamelessView.{nargs_of, nparams_of, nty_of}
use Rattle.fc_model.specs.Typing.{applied_to_types}
use Rattle.fc_model.specs.Worded.{bare_param}
use Rattle.fc_type_reading.specs.Readings.{applied_to_first, type_of_argument}

-- as many as there are parameters
pub applied-is : (ps : List NParam) (t : NTy) (xs : NArgs) → applied_to_types t ps xs ≡ applied_to_first (length ps) t xs
applied-is [] t xs = refl
applied-is (p ∷ ps) t NoNArgs = refl
applied-is (p ∷ ps) t (MoreNArgs (NATerm e) rest) = refl
applied-is (p ∷ ps) t (MoreNArgs (NAType u) rest) = applied-is ps (NTApp t u) rest
applied-is (p ∷ ps) t (MoreNArgs (NACo g) rest) = refl

length-params : (ps : List RustParam.Param) → length (nparams_of ps) ≡ length ps
length-params ps = length-map (params_of ps) bare_param ∙ length-map ps param_of

pub applied-to-params : (ps : List RustParam.Param) (t : NTy) (xs : NArgs) → applied_to_types t (nparams_of ps) xs ≡ applied_to_first (length ps) t xs
applied-to-params ps t xs = applied-is (nparams_of ps) t xs ∙ ap (λ n. applied_to_first n t xs) (length-params ps)

pub ruleset data_rules = (applied-to-params)

-- ---- the argument at a place

module _ (t : NTy) where
  first-is : (xs : List (Arg ℕ Ref)) (i : ℕ) → applied_to_first 1 t (nargs_of (drop i xs)) ≡ option_map (λ u. NTApp t (nty_of u)) (type_of_argument (slice_get xs i))
  first-is [] zero = refl
  first-is [] (suc i) = refl
  first-is (args.Term e ∷ xs) zero = refl
  first-is (args.OfType u ∷ xs) zero = refl
  first-is (args.OfCo g ∷ xs) zero = refl
  first-is (x ∷ xs) (suc i) = first-is xs i

  pub first-none : (xs : List (Arg ℕ Ref)) (i : ℕ) → None ≡ type_of_argument (slice_get xs i) → None ≡ applied_to_first 1 t (nargs_of (drop i xs))
  first-none xs i h = ap (option_map (λ u. NTApp t (nty_of u))) h ∙ sym (first-is xs i)

  pub first-some : (xs : List (Arg ℕ Ref)) (i : ℕ) (u : Ty ℕ) → Some u ≡ type_of_argument (slice_get xs i) → Some (NTApp t (nty_of u)) ≡ applied_to_first 1 t (nargs_of (drop i xs))
  first-some xs i u h = ap (option_map (λ u. NTApp t (nty_of u))) h ∙ sym (first-is xs i)

-- ---- one turn of the loop

one-turn : (n : ℕ) (t : NTy) (xs : List (Arg ℕ Ref)) (i : ℕ) → applied_to_first (suc n) t (nargs_of (drop i xs)) ≡ from_some (λ u. applied_to_first n u (nargs_of (drop (suc i) xs))) (applied_to_first 1 t (nargs_of (drop i xs)))
one-turn n t [] zero = refl
one-turn n t [] (suc i) = refl
one-turn n t (args.Term e ∷ xs) zero = refl
one-turn n t (args.OfType u ∷ xs) zero = refl
one-turn n t (args.OfCo g ∷ xs) zero = refl
one-turn n t (x ∷ xs) (suc i) = one-turn n t xs i

-- so many are left behind a place
pub turn-at : (whole : Option NTy) (count i : ℕ) (t : NTy) (xs : List (Arg ℕ Ref)) (o : Option NTy) → i < count → whole ≡ applied_to_first (count - i) t (nargs_of (drop i xs)) → o ≡ applied_to_first 1 t (nargs_of (drop i xs))
    → whole ≡ from_some (λ u. applied_to_first (count - (i + 1)) u (nargs_of (drop (i + 1) xs))) o
turn-at whole count i t xs o low so_far e =
    let left : ℕ = count - (i + 1) in
    let one_less : count - i ≡ suc left = omega arith in
    so_far ∙ ap (λ m. applied_to_first m t (nargs_of (drop i xs))) one_less ∙ one-turn left t xs i
    ∙ ap (λ j. from_some (λ u. applied_to_first left u (nargs_of (drop j xs))) (applied_to_first 1 t (nargs_of (drop i xs)))) (sym (add-one i))
    ∙ ap (from_some (λ u. applied_to_first left u (nargs_of (drop (i + 1) xs)))) (sym e)

pub ruleset step_rules = (first-none, first-some)
