-- What the premises of coercions say, as tests and by cases.
use Rattle.std.proofs.Common.{◌≡◌, ◌∙◌, ℕ, suc, ◌+◌, Bool, true, false, not, ◌&&◌, List, [], ◌∷◌, length, Option, Some, None, Result, Ok, Err, nat_eq}
use Rattle.std.proofs.Common.{refl, sym, ap, subst, arith}
use Rattle.std.proofs.lemmas.Bool.{and_parts}
use Rattle.fc_syntax.specs.declared.ty.Name.{Name}
use Rattle.fc_syntax.specs.declared.ty.Role.{Role}
use Rattle.fc_syntax.specs.declared.ty.Role.TheVariants.{N, R}
use Rattle.fc_syntax.specs.Tree.{Kind, KStar, KArrow}
use Rattle.fc_model.specs.Calling.{application_ends}
use Rattle.fc_model.specs.Coercing.{Axiom, Ends, applied_to, are_at_roles, are_injective_applications, are_kinded, are_of_kinds, at_parameters, axiom_ends, ends}
use Rattle.fc_model.specs.Coercing.{both_found, coforall_kinded, declared_ends, forall_parts, have_one_kind, have_one_value_kind, instantiated_ends, is_any_found}
use Rattle.fc_model.specs.Coercing.{is_found, is_of_kind, is_value_found, is_value_type, lefts, nth_ends, part_of_one_kind, rights, same_value_kind, side_ends}
use Rattle.fc_model.specs.Coercing.{split_ends, then_ends}
use Rattle.fc_model.specs.CoercingRules.{AreAtRoles, no_role, one_role, AreOfKinds, no_kind, one_kind}
use Rattle.fc_model.specs.CoercionLaws.{HaveOneKind}
use Rattle.fc_model.specs.Faulting.{F, at_distance}
use Rattle.fc_model.specs.Kinding.{Modules, HasHeadKind, HasKind, kind_application, is_family_applied, is_value_kind, kind_or_fault, name_kind, same_kind, same_role}
use Rattle.fc_model.specs.Nameless.{NTy, NTCon, NTApp, NTForall}
use Rattle.fc_model.specs.Needs.{later_roles, next_role, role_within}
use Rattle.fc_model.specs.Substituting.{instantiated}
use Rattle.fc_model.proofs.KindedIs.{given_kind_is, kind_is_given}
use Rattle.fc_model.proofs.Parts.{answer, err_ok, need_inv, ok_ok}
use Rattle.fc_model.proofs.Sameness.{false_true, nat_eq_eq, same_kind_eq, same_kind_refl, same_role_eq, same_role_refl}

-- TESTS

pub not_inv : (b : Bool) → not b ≡ true → b ≡ false
not_inv true h = false_true h
not_inv false h = refl

both_found_inv : (f : Kind → Kind → Bool) (q r : Result Kind F) → both_found f q r ≡ true → (j : Kind) × (k : Kind) × (q ≡ Ok j) × (r ≡ Ok k) × (f j k ≡ true)
both_found_inv f (Ok j) (Ok k) h = (j, k, refl, refl, h)
both_found_inv f (Ok j) (Err g) h = false_true h
both_found_inv f (Err g) r h = false_true h

is_found_inv : (k : Kind) (r : Result Kind F) → is_found k r ≡ true → r ≡ Ok k
is_found_inv k (Ok j) h = ap answer (sym (same_kind_eq k j h))
is_found_inv k (Err f) h = false_true h

is_value_found_inv : (r : Result Kind F) → is_value_found r ≡ true → (k : Kind) × (r ≡ Ok k) × (is_value_kind k ≡ true)
is_value_found_inv (Ok k) h = (k, refl, h)
is_value_found_inv (Err f) h = false_true h

is_any_found_inv : (r : Result Kind F) → is_any_found r ≡ true → (k : Kind) × (r ≡ Ok k)
is_any_found_inv (Ok k) h = (k, refl)
is_any_found_inv (Err f) h = false_true h

pub forall_parts_inv : (t : NTy) (p : Kind × NTy) → forall_parts t ≡ Some p → t ≡ NTForall p.0 p.1
forall_parts_inv (NTForall k t) p h = cc
forall_parts_inv t p h = absurd cc

application_ends_inv : (t : NTy) (p : NTy × NTy) → application_ends t ≡ Some p → t ≡ NTApp p.0 p.1
application_ends_inv (NTApp t u) p h = cc
application_ends_inv t p h = absurd cc

-- ROLES AND LISTS

pub roles_are_given : {r : Role} {rs : List Role} {es : List Ends} → AreAtRoles r rs es → are_at_roles r rs es ≡ true
roles_are_given no_role = refl
roles_are_given {r = r} (one_role {rs = rs} rest) = rw (same_role_refl (role_within r (next_role rs)), roles_are_given rest) refl

pub given_roles_are : (r : Role) (rs : List Role) (es : List Ends) → are_at_roles r rs es ≡ true → AreAtRoles r rs es
given_roles_are r rs [] h = no_role
given_roles_are r rs (e ∷ es) h =
    let p = and_parts (same_role e.role (role_within r (next_role rs))) (are_at_roles r (later_roles rs) es) h in
    subst (λ o. AreAtRoles r rs (ends o e.left e.right ∷ es)) (sym (same_role_eq e.role _ p.0)) (one_role (given_roles_are r (later_roles rs) es p.1))

-- the roles of the ends and of the body of what takes a coercion
pub three_roles : (r o : Role) (d e f : Ends) → are_at_roles r (o ∷ o ∷ R ∷ []) (d ∷ e ∷ f ∷ []) ≡ true
    → (d.role ≡ role_within r o) × (e.role ≡ role_within r o) × (f.role ≡ role_within r R)
three_roles r o d e f h =
    let p = and_parts (same_role d.role (role_within r o)) (same_role e.role (role_within r o) && (same_role f.role (role_within r R) && true)) h in
    let q = and_parts (same_role e.role (role_within r o)) (same_role f.role (role_within r R) && true) p.1 in
    let u = and_parts (same_role f.role (role_within r R)) true q.1 in
    (same_role_eq d.role _ p.0, same_role_eq e.role _ q.0, same_role_eq f.role _ u.0)

pub then_ends_inv : (e : Ends) (r : Result (List Ends) F) (es : List Ends) → then_ends e r ≡ Ok es → (rest : List Ends) × (r ≡ Ok rest) × (e ∷ rest ≡ es)
then_ends_inv e (Ok rest) es h = (rest, refl, ok_ok h)
then_ends_inv e (Err f) es h = err_ok h

module _ (ms : Modules) where
  -- KINDS

  pub one_kind_is : {ks : List Kind} {t u : NTy} {k : Kind} → HasKind ms ks t k → HasKind ms ks u k → have_one_kind ms ks t u ≡ true
  one_kind_is {k = k} h g = rw (kind_is_given ms h, kind_is_given ms g) (same_kind_refl k)

  one_kind_inv : (ks : List Kind) (t u : NTy) → have_one_kind ms ks t u ≡ true → HaveOneKind ms ks t u
  one_kind_inv ks t u h =
      let p = both_found_inv same_kind (kind_or_fault ms ks t) (kind_or_fault ms ks u) h in
      (p.1, given_kind_is ms ks 0 t p.1 (p.2 ∙ ap answer (same_kind_eq p.0 p.1 p.4)), given_kind_is ms ks 0 u p.1 p.3)

  pub one_value_kind_is : {ks : List Kind} {t u : NTy} {k : Kind} → HasKind ms ks t k → HasKind ms ks u k → is_value_kind k ≡ true → have_one_value_kind ms ks t u ≡ true
  one_value_kind_is {k = k} h g v = rw (kind_is_given ms h, kind_is_given ms g, v) (same_kind_refl k)

  pub one_value_kind_inv : (ks : List Kind) (t u : NTy) → have_one_value_kind ms ks t u ≡ true → (k : Kind) × HasKind ms ks t k × HasKind ms ks u k × (is_value_kind k ≡ true)
  one_value_kind_inv ks t u h =
      let p = both_found_inv same_value_kind (kind_or_fault ms ks t) (kind_or_fault ms ks u) h in
      let q = and_parts (is_value_kind p.0) (same_kind p.0 p.1) p.4 in
      (p.0, given_kind_is ms ks 0 t p.0 p.2, given_kind_is ms ks 0 u p.0 (p.3 ∙ ap answer (sym (same_kind_eq p.0 p.1 q.1))), q.0)

  pub of_kind_is : {ks : List Kind} {t : NTy} {k : Kind} → HasKind ms ks t k → is_of_kind ms ks k t ≡ true
  of_kind_is {k = k} h = rw (kind_is_given ms h) (same_kind_refl k)

  of_kind_inv : (ks : List Kind) (k : Kind) (t : NTy) → is_of_kind ms ks k t ≡ true → HasKind ms ks t k
  of_kind_inv ks k t h = given_kind_is ms ks 0 t k (is_found_inv k (kind_or_fault ms ks t) h)

  pub both_of_kind_inv : (ks : List Kind) (k : Kind) (t u : NTy) → (is_of_kind ms ks k t && is_of_kind ms ks k u) ≡ true → HasKind ms ks t k × HasKind ms ks u k
  both_of_kind_inv ks k t u h = let p = and_parts (is_of_kind ms ks k t) (is_of_kind ms ks k u) h in (of_kind_inv ks k t p.0, of_kind_inv ks k u p.1)

  pub are_kinded_inv : (ks : List Kind) (t u : NTy) → are_kinded ms ks t u ≡ true → (j : Kind) × (k : Kind) × HasKind ms ks t j × HasKind ms ks u k
  are_kinded_inv ks t u h =
      let p = and_parts (is_any_found (kind_or_fault ms ks t)) (is_any_found (kind_or_fault ms ks u)) h in
      let q = is_any_found_inv (kind_or_fault ms ks t) p.0 in
      let v = is_any_found_inv (kind_or_fault ms ks u) p.1 in
      (q.0, v.0, given_kind_is ms ks 0 t q.0 q.1, given_kind_is ms ks 0 u v.0 v.1)

  pub kinds_are_given : {ks js : List Kind} {es : List Ends} → AreOfKinds ms ks js es → are_of_kinds ms ks js es ≡ true
  kinds_are_given no_kind = refl
  kinds_are_given (one_kind h g rest) = rw (of_kind_is h, of_kind_is g, kinds_are_given rest) refl

  given_kinds_are : (ks js : List Kind) (es : List Ends) → length es ≡ length js → are_of_kinds ms ks js es ≡ true → AreOfKinds ms ks js es
  given_kinds_are ks [] [] l h = no_kind
  given_kinds_are ks [] (e ∷ es) l h = absurd cc
  given_kinds_are ks (j ∷ js) [] l h = absurd cc
  given_kinds_are ks (j ∷ js) (e ∷ es) l h =
      let p = and_parts (is_of_kind ms ks j e.left && is_of_kind ms ks j e.right) (are_of_kinds ms ks js es) h in
      let q = both_of_kind_inv ks j e.left e.right p.0 in
      one_kind q.0 q.1 (given_kinds_are ks js es (cc) p.1)

  -- as many as there are kinds
  pub kinds_length : {ks js : List Kind} {es : List Ends} → AreOfKinds ms ks js es → length es ≡ length js
  kinds_length no_kind = refl
  kinds_length (one_kind h g rest) = ap suc (kinds_length rest)

  -- DECLARED TYPES

  pub application_kinded : {ks : List Kind} {args : ℕ} {t u : NTy} {k : Kind} → HasHeadKind ms ks args (NTApp t u) k → (j : Kind) × HasHeadKind ms ks (suc args) t (KArrow j k)
  application_kinded (kind_application {j = j} f a) = (j, f)

  -- the head of a type that is applied to others has a kind as the head of as many more
  head_kinded : (ks : List Kind) (args : ℕ) (t : NTy) (es : List Ends) (k : Kind) → HasHeadKind ms ks args (applied_to t (lefts es)) k
      → (j : Kind) × HasHeadKind ms ks (length es + args) t j
  head_kinded ks args t [] k h = let here : args ≡ 0 + args = omega arith in (k, subst (λ n. HasHeadKind ms ks n t k) here h)
  head_kinded ks args t (e ∷ es) k h =
      let p = head_kinded ks args (NTApp t e.left) es k h in
      let q = application_kinded p.1 in
      let here : suc (length es + args) ≡ length (e ∷ es) + args = omega arith in
      (KArrow q.0 p.0, subst (λ n. HasHeadKind ms ks n t (KArrow q.0 p.0)) here q.1)

  pub name_kinded : (ks : List Kind) (n : Name) (es : List Ends) (k : Kind) → HasKind ms ks (applied_to (NTCon n) (lefts es)) k → (j : Kind) × (name_kind ms n (length es) ≡ Ok j)
  name_kinded ks n es k h =
      let p = head_kinded ks 0 (NTCon n) es k h in
      let here : length es + 0 ≡ length es = omega arith in
      (p.0, subst (λ m. name_kind ms n m ≡ Ok p.0) here (kind_is_given ms p.1))

  pub declared_ends_inv : (ks : List Kind) (r : Result Kind F) (d e : Ends) → declared_ends ms ks r d ≡ Ok e
      → (j : Kind) × (k : Kind) × HasKind ms ks d.left j × HasKind ms ks d.right k × (d ≡ e)
  declared_ends_inv ks (Ok l) d e h =
      let p = need_inv (are_kinded ms ks d.left d.right) _ _ e h in
      let q = are_kinded_inv ks d.left d.right p.0 in
      (q.0, q.1, q.2, q.3, ok_ok p.1)
  declared_ends_inv ks (Err f) d e h = err_ok h

  -- TYPES THAT TAKE COERCIONS, AND `forall`S

  pub coforall_is : {ks : List Kind} {t u v : NTy} {j k : Kind} → HasKind ms ks t j → HasKind ms ks u j → HasKind ms ks v k → is_value_kind k ≡ true
      → coforall_kinded ms ks t u v ≡ Ok KStar
  coforall_is h g f v = rw (one_kind_is h g, kind_is_given ms f, v) refl

  pub coforall_inv : (ks : List Kind) (t u v : NTy) (l : Kind) → coforall_kinded ms ks t u v ≡ Ok l
      → (j : Kind) × (k : Kind) × HasKind ms ks t j × HasKind ms ks u j × HasKind ms ks v k × (is_value_kind k ≡ true)
  coforall_inv ks t u v l h =
      let p = need_inv (have_one_kind ms ks t u) _ _ l h in
      let q = need_inv (is_value_type ms ks v) _ _ l p.1 in
      let a = one_kind_inv ks t u p.0 in
      let b = is_value_found_inv (kind_or_fault ms ks v) q.0 in
      (a.0, b.0, a.1, a.2, given_kind_is ms ks 0 v b.0 b.1, b.2)

  pub instance_inv : (ks : List Kind) (r : Role) (o q : Option (Kind × NTy)) (d e : Ends) → instantiated_ends ms ks r o q d ≡ Ok e
      → (k : Kind) × (t : NTy) × (u : NTy) × (o ≡ Some (k, t)) × (q ≡ Some (k, u)) × (d.role ≡ N) × HasKind ms ks d.left k × HasKind ms ks d.right k
      × (ends r (instantiated d.left t) (instantiated d.right u) ≡ e)
  instance_inv ks r (Some (j, t)) (Some (k, u)) d e h =
      let p = need_inv (same_kind j k) _ _ e h in
      let q = need_inv (same_role d.role N) _ _ e p.1 in
      let v = need_inv (is_of_kind ms ks j d.left && is_of_kind ms ks j d.right) _ _ e q.1 in
      let w = both_of_kind_inv ks j d.left d.right v.0 in
      (j, t, u, refl, ap (λ x. Some (x, u)) (sym (same_kind_eq j k p.0)), same_role_eq d.role N q.0, w.0, w.1, ok_ok v.1)
  instance_inv ks r (Some p) None d e h = err_ok h
  instance_inv ks r None q d e h = err_ok h

  -- PARTS

  one_kind_part_inv : (ks : List Kind) (r : Result Ends F) (e : Ends) → part_of_one_kind ms ks r ≡ Ok e → (r ≡ Ok e) × HaveOneKind ms ks e.left e.right
  one_kind_part_inv ks (Ok d) e h =
      let p = need_inv (have_one_kind ms ks d.left d.right) _ _ e h in
      (p.1, subst (λ x. HaveOneKind ms ks x.left x.right) (ok_ok p.1) (one_kind_inv ks d.left d.right p.0))
  one_kind_part_inv ks (Err f) e h = err_ok h

  pub nth_inv : (ks : List Kind) (i : ℕ) (o : Option (List Ends)) (e : Ends) → nth_ends ms ks i o ≡ Ok e
      → (es : List Ends) × (o ≡ Some es) × (at_distance es i ≡ Ok e) × HaveOneKind ms ks e.left e.right
  nth_inv ks i (Some es) e h = let p = one_kind_part_inv ks (at_distance es i) e h in (es, refl, p.0, p.1)
  nth_inv ks i None e h = err_ok h

  split_inv : (ks : List Kind) (side : NTy × NTy → NTy) (apart : Bool) (o q : Option (NTy × NTy)) (e : Ends) → split_ends ms ks side apart o q ≡ Ok e
      → (p : NTy × NTy) × (w : NTy × NTy) × (o ≡ Some p) × (q ≡ Some w) × (apart ≡ true) × HaveOneKind ms ks (side p) (side w) × (ends N (side p) (side w) ≡ e)
  split_inv ks side apart (Some p) (Some w) e h =
      let u = need_inv apart _ _ e h in
      let v = need_inv (have_one_kind ms ks (side p) (side w)) _ _ e u.1 in
      (p, w, refl, refl, u.0, one_kind_inv ks (side p) (side w) v.0, ok_ok v.1)
  split_inv ks side apart (Some p) None e h = err_ok h
  split_inv ks side apart None q e h = err_ok h

  -- two applications that make no family, and the sides of both
  pub side_inv : (ks : List Kind) (side : NTy × NTy → NTy) (d e : Ends) → side_ends ms ks side d ≡ Ok e
      → (p : NTy × NTy) × (w : NTy × NTy) × (d ≡ ends N (NTApp p.0 p.1) (NTApp w.0 w.1)) × (is_family_applied ms 0 (NTApp p.0 p.1) ≡ false)
      × (is_family_applied ms 0 (NTApp w.0 w.1) ≡ false) × HaveOneKind ms ks (side p) (side w) × (ends N (side p) (side w) ≡ e)
  side_inv ks side d e h =
      let p = need_inv (same_role d.role N) _ _ e h in
      let q = split_inv ks side (are_injective_applications ms d.left d.right) (application_ends d.left) (application_ends d.right) e p.1 in
      let v = and_parts (not (is_family_applied ms 0 d.left)) (not (is_family_applied ms 0 d.right)) q.4 in
      let l = application_ends_inv d.left q.0 q.2 in
      let r = application_ends_inv d.right q.1 q.3 in (
        q.0,
        q.1,
        ap (λ x. ends x d.left d.right) (same_role_eq d.role N p.0) ∙ ap (λ x. ends N x d.right) l ∙ ap (λ x. ends N (NTApp q.0.0 q.0.1) x) r,
        subst (λ x. is_family_applied ms 0 x ≡ false) l (not_inv _ v.0),
        subst (λ x. is_family_applied ms 0 x ≡ false) r (not_inv _ v.1),
        q.5,
        q.6,
      )

  -- AXIOMS

  pub axiom_inv : (ks : List Kind) (o : Option Axiom) (es : List Ends) (e : Ends) → axiom_ends ms ks o es ≡ Ok e
      → (a : Axiom) × (o ≡ Some a) × AreAtRoles a.ends.role a.roles es × AreOfKinds ms ks a.params es
      × (ends a.ends.role (at_parameters (lefts es) a.ends.left) (at_parameters (rights es) a.ends.right) ≡ e)
  axiom_inv ks (Some a) es e h =
      let p = need_inv (nat_eq (length es) (length a.params)) _ _ e h in
      let q = need_inv (are_at_roles a.ends.role a.roles es) _ _ e p.1 in
      let v = need_inv (are_of_kinds ms ks a.params es) _ _ e q.1 in
      (a, refl, given_roles_are a.ends.role a.roles es q.0, given_kinds_are ks a.params es (nat_eq_eq (length es) (length a.params) p.0) v.0, ok_ok v.1)
  axiom_inv ks None es e h = err_ok h
