-- The function gives a kind just where the relation does.
use Rattle.std.proofs.Common.{◌≡◌, ◌↔◌, ℕ, suc, true, ◌&&◌, List, ◌∷◌, Ok, refl, sym, ap, ◌∙◌, subst}
use Rattle.std.proofs.lemmas.Bool.{and_parts}
use Rattle.fc_syntax.specs.Tree.{Kind, KStar, KHash, KArrow}
use Rattle.fc_model.specs.Kinding.{Modules, HasHeadKind, kind_variable, kind_declared, kind_int, kind_application, kind_function, kind_forall, kind_coforall}
use Rattle.fc_model.specs.Kinding.{applied_kind, head_kind_or_fault, is_lifted, is_star, is_value_kind, same_kind}
use Rattle.fc_model.specs.Nameless.{NTy, NTVar, NTCon, NTInt, NTApp, NTFun, NTForall, NTCoForall}
use Rattle.fc_model.proofs.Parts.{err_ok, ok_ok, need_inv, part}
use Rattle.fc_model.proofs.Sameness.{false_true, same_kind_eq, same_kind_refl}

-- a head that is applied has a kind with an arrow from that of what it is applied to
pub applied_kind_inv : (f j k : Kind) → applied_kind f j ≡ Ok k → f ≡ KArrow j k
applied_kind_inv (KArrow a b) j k h =
    let p = need_inv (same_kind a j) _ _ k h in
    ap (λ x. KArrow x b) (same_kind_eq a j p.0) ∙ ap (λ x. KArrow j x) (ok_ok p.1)
applied_kind_inv KStar j k h = err_ok h
applied_kind_inv KHash j k h = err_ok h

pub is_star_inv : (k : Kind) → is_star k ≡ true → k ≡ KStar
is_star_inv KStar h = refl
is_star_inv KHash h = false_true h
is_star_inv (KArrow a b) h = false_true h

module _ (ms : Modules) where
  -- what has a kind by cases is given it
  pub kind_is_given : {ks : List Kind} {args : ℕ} {t : NTy} {k : Kind} → HasHeadKind ms ks args t k → head_kind_or_fault ms ks args t ≡ Ok k
  kind_is_given (kind_variable p) = p
  kind_is_given (kind_declared p) = p
  kind_is_given kind_int = refl
  kind_is_given (kind_application {j = j} t u) = rw (kind_is_given t, kind_is_given u, same_kind_refl j) refl
  kind_is_given (kind_function j k t u a b) = rw (kind_is_given t, kind_is_given u, a, b) refl
  kind_is_given (kind_forall l t) = rw (kind_is_given t, l) refl
  kind_is_given (kind_coforall j k t u v l) = rw (kind_is_given t, kind_is_given u, kind_is_given v, same_kind_refl j, l) refl

  -- what is given a kind has it by cases
  pub given_kind_is : (ks : List Kind) (args : ℕ) (t : NTy) (k : Kind) → head_kind_or_fault ms ks args t ≡ Ok k → HasHeadKind ms ks args t k
  given_kind_is ks args (NTVar i) k h = kind_variable h
  given_kind_is ks args (NTCon n) k h = kind_declared h
  given_kind_is ks args NTInt k h = subst (λ x. HasHeadKind ms ks args NTInt x) (ok_ok h) kind_int
  given_kind_is ks args (NTApp t u) k h =
      let p = part 0 (head_kind_or_fault ms ks (suc args) t) _ k h in
      let q = part 1 (head_kind_or_fault ms ks 0 u) _ k p.2 in
      kind_application (subst (λ x. HasHeadKind ms ks (suc args) t x) (applied_kind_inv p.0 q.0 k q.2) (given_kind_is ks (suc args) t p.0 p.1))
      (given_kind_is ks 0 u q.0 q.1)
  given_kind_is ks args (NTFun t u) k h =
      let p = part 0 (head_kind_or_fault ms ks 0 t) _ k h in
      let q = part 1 (head_kind_or_fault ms ks 0 u) _ k p.2 in
      let v = need_inv (is_value_kind p.0 && is_value_kind q.0) _ _ k q.2 in
      let w = and_parts (is_value_kind p.0) (is_value_kind q.0) v.0 in
      subst (λ x. HasHeadKind ms ks args (NTFun t u) x) (ok_ok v.1)
      (kind_function p.0 q.0 (given_kind_is ks 0 t p.0 p.1) (given_kind_is ks 0 u q.0 q.1) w.0 w.1)
  given_kind_is ks args (NTForall j t) k h =
      let p = part 0 (head_kind_or_fault ms (j ∷ ks) 0 t) _ k h in
      let q = need_inv (is_lifted j) _ _ k p.2 in
      let v = need_inv (is_star p.0) _ _ k q.1 in
      subst (λ x. HasHeadKind ms ks args (NTForall j t) x) (ok_ok v.1)
      (kind_forall q.0 (subst (λ x. HasHeadKind ms (j ∷ ks) 0 t x) (is_star_inv p.0 v.0) (given_kind_is (j ∷ ks) 0 t p.0 p.1)))
  given_kind_is ks args (NTCoForall r t u v) k h =
      let p = part 0 (head_kind_or_fault ms ks 0 t) _ k h in
      let q = part 1 (head_kind_or_fault ms ks 0 u) _ k p.2 in
      let w = part 2 (head_kind_or_fault ms ks 0 v) _ k q.2 in
      let x = need_inv (same_kind p.0 q.0) _ _ k w.2 in
      let y = need_inv (is_value_kind w.0) _ _ k x.1 in
      subst (λ x. HasHeadKind ms ks args (NTCoForall r t u v) x) (ok_ok y.1)
      (kind_coforall p.0 w.0 (given_kind_is ks 0 t p.0 p.1)
      (subst (λ x. HasHeadKind ms ks 0 u x) (sym (same_kind_eq p.0 q.0 x.0)) (given_kind_is ks 0 u q.0 q.1)) (given_kind_is ks 0 v w.0 w.1) y.0)

  -- the function gives a kind just where the relation does
  pub kind_is : (ks : List Kind) (args : ℕ) (t : NTy) (k : Kind) → (head_kind_or_fault ms ks args t ≡ Ok k) ↔ HasHeadKind ms ks args t k
  kind_is ks args t k = (given_kind_is ks args t k, λ h. kind_is_given h)

  -- a type has at most one kind
  pub kind_is_one : (ks : List Kind) (args : ℕ) (t : NTy) (j k : Kind) → HasHeadKind ms ks args t j → HasHeadKind ms ks args t k → j ≡ k
  kind_is_one ks args t j k g h = ok_ok (sym (kind_is_given g) ∙ kind_is_given h)
