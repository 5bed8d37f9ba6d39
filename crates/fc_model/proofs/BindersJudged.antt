-- Binders are judged just where the relation says, and what is owed behind them is what is asked of binders of parameters alone.
use Rattle.std.proofs.Common.{◌≡◌, ℕ, ◌+◌, Bool, true, false, if◌then◌else◌, List, [], ◌∷◌, Option, Some, None, Result, Ok, Err, refl, sym, ap, ◌∙◌, subst}
use Rattle.fc_syntax.specs.declared.fault.FaultKind.{FaultKind}
use Rattle.fc_syntax.specs.declared.fault.FaultKind.TheVariants.{UnliftedVariable}
use Rattle.fc_syntax.specs.Tree.{Kind, KStar}
use Rattle.fc_model.specs.Faulting.{F}
use Rattle.fc_model.specs.Kinding.{Modules, HasKind, is_lifted, is_value_kind, kind_or_fault, same_kind}
use Rattle.fc_model.specs.Nameless.{NTy, NBinder, NBValue, NBType, NBCo}
use Rattle.fc_model.specs.Typing.{binder_judged, binders_judged, body_fits, coercion_owes, first_fault, is_star_found, kinds_behind, paid, value_owes}
use Rattle.fc_model.specs.TypingRules.{BinderIsKinded, value_binder, type_binder, coercion_binder, BindersAreKinded, no_binders, one_binder}
use Rattle.fc_model.specs.TypingRules.{BodyFits, below_value, below_type, below_coercion}
use Rattle.fc_model.proofs.KindedIs.{given_kind_is, is_star_inv, kind_is_given}
use Rattle.fc_model.proofs.Parts.{answer, err_ok, need_inv, ok_ok, part}
use Rattle.fc_model.proofs.Sameness.{false_true}

-- WHAT IS OWED

-- where types of values are asked for, nothing is owed
abbrev pub Unowed : Bool → Option FaultKind → Type 0
Unowed owes o = owes ≡ true → o ≡ None

-- a test owes nothing where it holds, or where it is not asked
test_is_unowed : (owes b : Bool) (f : FaultKind) → (if owes then b else true) ≡ true → Unowed owes (if b then None else Some f)
test_is_unowed true b f h e = rw h refl
test_is_unowed false b f h e = false_true e

test_owes_inv : (b : Bool) (f : FaultKind) → (if b then None else Some f) ≡ None → b ≡ true
test_owes_inv true f h = refl
test_owes_inv false f h = absurd cc

unowed_test_is : (owes b : Bool) (f : FaultKind) → Unowed owes (if b then None else Some f) → (if owes then b else true) ≡ true
unowed_test_is true b f h = test_owes_inv b f (h refl)
unowed_test_is false b f h = refl

-- the first of two owes nothing just where both do
first_is_unowed : (owes : Bool) (o p : Option FaultKind) → Unowed owes o → Unowed owes p → Unowed owes (first_fault o p)
first_is_unowed owes (Some f) p h g e = h e
first_is_unowed owes None p h g e = g e

first_fault_inv : (o p : Option FaultKind) → first_fault o p ≡ None → (o ≡ None) × (p ≡ None)
first_fault_inv (Some f) p h = absurd cc
first_fault_inv None p h = (refl, h)

-- what owes nothing gives the answer
pub paid_inv : {X : Type 0} (o : Option FaultKind) (r : Result X F) (x : X) → paid o r ≡ Ok x → (o ≡ None) × (r ≡ Ok x)
paid_inv (Some f) r x h = err_ok h
paid_inv None r x h = (refl, h)

-- what is asked of a binder of a parameter is owed nowhere else
pub unowed : {o : Option FaultKind} → o ≡ None → Unowed true o
unowed h e = h

pub not_asked : (o : Option FaultKind) → Unowed false o
not_asked o e = false_true e

module _ (ms : Modules) where
  -- BINDERS

  -- a binder that is kinded by cases is judged
  binder_is_judged : {owes : Bool} {ks : List Kind} {b : NBinder} → BinderIsKinded ms owes ks b → (o : Option FaultKind) × (binder_judged ms ks b ≡ Ok o) × Unowed owes o
  binder_is_judged {owes = owes} (value_binder k t v) = (value_owes k, rw (kind_is_given ms t) refl, test_is_unowed owes (is_value_kind k) _ v)
  binder_is_judged (type_binder l) = (None, rw l refl, λ e. refl)
  binder_is_judged {owes = owes} (coercion_binder j k t u v) =
      (coercion_owes j k, rw (kind_is_given ms t, kind_is_given ms u) refl, test_is_unowed owes (same_kind j k) _ v)

  judged_binder_is : (owes : Bool) (ks : List Kind) (b : NBinder) (o : Option FaultKind) → binder_judged ms ks b ≡ Ok o → Unowed owes o → BinderIsKinded ms owes ks b
  judged_binder_is owes ks (NBValue t) o h u =
      let p = part 0 (kind_or_fault ms ks t) _ o h in
      value_binder p.0 (given_kind_is ms ks 0 t p.0 p.1) (unowed_test_is owes (is_value_kind p.0) _ (subst (λ x. Unowed owes x) (sym (ok_ok p.2)) u))
  judged_binder_is owes ks (NBType k) o h u = let p = need_inv (is_lifted k) UnliftedVariable (answer None) o h in type_binder p.0
  judged_binder_is owes ks (NBCo r t v) o h u =
      let p = part 0 (kind_or_fault ms ks t) _ o h in
      let q = part 1 (kind_or_fault ms ks v) _ o p.2 in
      coercion_binder p.0 q.0 (given_kind_is ms ks 0 t p.0 p.1) (given_kind_is ms ks 0 v q.0 q.1)
      (unowed_test_is owes (same_kind p.0 q.0) _ (subst (λ x. Unowed owes x) (sym (ok_ok q.2)) u))

  pub binders_are_judged : {owes : Bool} {ks : List Kind} {bs : List NBinder} (i : ℕ) (owed : Option FaultKind) → BindersAreKinded ms owes ks bs → Unowed owes owed
      → (o : Option FaultKind) × (binders_judged ms ks i owed bs ≡ Ok o) × Unowed owes o
  binders_are_judged i owed no_binders u = (owed, refl, u)
  binders_are_judged {owes = owes} i owed (one_binder b rest) u =
      let p = binder_is_judged b in
      let q = binders_are_judged (i + 1) (first_fault owed p.0) rest (first_is_unowed owes owed p.0 u p.2) in
      (q.0, rw p.1 q.1, q.2)

  pub judged_binders_are : (owes : Bool) (ks : List Kind) (i : ℕ) (owed : Option FaultKind) (bs : List NBinder) (o : Option FaultKind) → binders_judged ms ks i owed bs ≡ Ok o
      → Unowed owes o → BindersAreKinded ms owes ks bs × Unowed owes owed
  judged_binders_are owes ks i owed [] o h u = (no_binders, subst (λ x. Unowed owes x) (sym (ok_ok h)) u)
  judged_binders_are owes ks i owed (b ∷ bs) o h u =
      let p = part i (binder_judged ms ks b) _ o h in
      let q = judged_binders_are owes (kinds_behind b ks) (i + 1) (first_fault owed p.0) bs o p.2 u in
      let first : Unowed owes owed = λ e. (first_fault_inv owed p.0 (q.1 e)).0 in
      let second : Unowed owes p.0 = λ e. (first_fault_inv owed p.0 (q.1 e)).1 in
      (one_binder (judged_binder_is owes ks b p.0 p.1 second) q.0, first)

  -- THE BODY OF A LAMBDA

  -- a binder of a parameter owes nothing
  pub parameter_is_judged : {ks : List Kind} {b : NBinder} → BinderIsKinded ms true ks b → binder_judged ms ks b ≡ Ok None
  parameter_is_judged b = let p = binder_is_judged b in p.1 ∙ ap answer (p.2 refl)

  pub judged_parameter_is : (ks : List Kind) (b : NBinder) → binder_judged ms ks b ≡ Ok None → BinderIsKinded ms true ks b
  judged_parameter_is ks b h = judged_binder_is true ks b None h (λ e. refl)

  pub body_is_fit : {ks : List Kind} {b : NBinder} {u : NTy} → BodyFits ms ks b u → body_fits ms ks b u ≡ true
  body_is_fit below_value = refl
  body_is_fit (below_type h) = rw (kind_is_given ms h) refl
  body_is_fit below_coercion = refl

  star_found_inv : (ks : List Kind) (t : NTy) (r : Result Kind F) → kind_or_fault ms ks t ≡ r → is_star_found r ≡ true → HasKind ms ks t KStar
  star_found_inv ks t (Ok k) e h = given_kind_is ms ks 0 t KStar (e ∙ ap answer (is_star_inv k h))
  star_found_inv ks t (Err f) e h = false_true h

  -- what stands below a binder fits it
  pub fit_body_is : (ks : List Kind) (b : NBinder) (u : NTy) → body_fits ms ks b u ≡ true → BodyFits ms ks b u
  fit_body_is ks (NBValue t) u h = below_value
  fit_body_is ks (NBType k) u h = below_type (star_found_inv (k ∷ ks) u (kind_or_fault ms (k ∷ ks) u) refl h)
  fit_body_is ks (NBCo r s t) u h = below_coercion
