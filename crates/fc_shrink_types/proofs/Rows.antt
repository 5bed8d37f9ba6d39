-- The rows over the parts that code finds.
use Rattle.std.proofs.Common.{◌≡◌, ℕ, zero, suc, Option, Some, None, Result, refl, sym, ap, ◌∙◌}
use Rattle.std.proofs.lemmas.Option.{none-some}
use Rattle.fc_model.specs.Calling.{from_some, function_ends}
use Rattle.fc_model.specs.Coercing.{Ends, ends_or_fault}
use Rattle.fc_model.specs.Faulting.{F}
use Rattle.fc_model.specs.Kinding.{Modules}
use Rattle.fc_model.specs.Nameless.{NTy, NTFun, NCo, NBinder, NBValue, NArg, NATerm, NAType, NExpr, NApp, NLam}
use Rattle.fc_model.specs.Replacing.{renamed, replaced, type_alone, unchanged, with_argument}
use Rattle.fc_model.specs.Typing.{type_read_off, with_value}
use Rattle.fc_rows.specs.Changing.{made}
use Rattle.fc_rows.specs.Shrinking.{beta, cast_refl, if_equal, let_of}
use Rattle.fc_rows.specs.Surroundings.{Surroundings}
use Rattle.fc_subst.proofs.Delayed.{renaming_is_put}
use Rattle.fc_forms.specs.Forms.{application_parts, cast_parts, lambda_parts}
use Rattle.fc_forms.proofs.Parts.{application_form, cast_form, lambda_form}

-- LAMBDAS

module _ (ms : Modules) (s : Surroundings) where
  no_lambda : (h : NExpr) (a : NArg) → None ≡ lambda_parts h → beta ms s (NApp h a) ≡ None
  no_lambda (NLam b e) a none = cc
  no_lambda h a none = refl

  pub not_applied_lambda : (e : NExpr) (p : NExpr × NArg) → Some p ≡ application_parts e → None ≡ lambda_parts p.0 → None ≡ beta ms s e
  not_applied_lambda e p is none = sym (ap (beta ms s) (application_form e p is) ∙ no_lambda p.0 p.1 none)

  -- an applied lambda, as it is made of its parts
  pub applied_lambda : (e : NExpr) (p : NExpr × NArg) (q : NBinder × NExpr) → Some p ≡ application_parts e → Some q ≡ lambda_parts p.0 → e ≡ NApp (NLam q.0 q.1) p.1
  applied_lambda e p q is lam = application_form e p is ∙ ap (λ h. NApp h p.1) (lambda_form p.0 q lam)

  -- a lambda over a value that has a type has one of functions from the type of its binder
  read_off : (t : NTy) (b a : NExpr) (o : Option NTy) (f : NTy) → from_some (λ u. Some (NTFun t u)) o ≡ Some f
      → from_some (λ g. made (λ p. let_of p.0 a b) (function_ends g)) (from_some (λ u. Some (NTFun t u)) o) ≡ Some (let_of t a b)
  read_off t b a None f is = absurd (none-some f is)
  read_off t b a (Some u) f is = refl

  pub value_made : (t : NTy) (b a : NExpr) (f : NTy) → type_read_off ms s.context (NLam (NBValue t) b) ≡ Some f → beta ms s (NApp (NLam (NBValue t) b) (NATerm a)) ≡ Some (let_of t a b)
  value_made t b a f is = read_off t b a (type_read_off ms (with_value t s.context) b) f is

  pub value_not_made : (t : NTy) (b a : NExpr) → type_read_off ms s.context (NLam (NBValue t) b) ≡ None → beta ms s (NApp (NLam (NBValue t) b) (NATerm a)) ≡ None
  value_not_made t b a none = ap (from_some (λ f. made (λ p. let_of p.0 a b) (function_ends f))) none

-- A TYPE FOR THE INNERMOST VARIABLE

pub type_is_put : (u : NTy) (e : NExpr) → renamed (type_alone u) e ≡ replaced (with_argument (NAType u) unchanged) e
type_is_put u = renaming_is_put (type_alone u) (with_argument (NAType u) unchanged) (record { types = here; coercions = λ i. refl; values = λ i. refl; joins = λ i. refl })
  where
    here : (i : ℕ) → (with_argument (NAType u) unchanged).types i ≡ (type_alone u).types i
    here zero = refl
    here (suc i) = refl

-- CASTS

module _ (ms : Modules) (s : Surroundings) where
  pub cast_made : (e : NExpr) (p : NExpr × NCo) (r : Result Ends F) → Some p ≡ cast_parts e → ends_or_fault ms s.context.kinds s.context.coercions p.1 ≡ r → cast_refl ms s e ≡ if_equal p.0 r
  cast_made e p r is ends = ap (cast_refl ms s) (cast_form e p is) ∙ ap (if_equal p.0) ends
