-- The function gives what a coercion proves just where the rules do.
use Rattle.std.proofs.Common.{◌≡◌, ◌∙◌, ℕ, ◌+◌, not, ◌&&◌, List, [], ◌∷◌, length, map, Ok, refl, sym, ap, subst}
use Rattle.std.proofs.lemmas.Bool.{and_parts}
use Rattle.fc_syntax.specs.declared.ty.Role.{Role}
use Rattle.fc_syntax.specs.declared.ty.Role.TheVariants.{N, R, P}
use Rattle.fc_syntax.specs.Tree.{Kind, KStar}
use Rattle.fc_model.specs.Coercing.{Ends, all_ends_or_fault, applied_to, are_at_roles, are_kinded, axiom_named, coforall_kinded, ends, ends_or_fault, forall_parts}
use Rattle.fc_model.specs.Coercing.{have_one_value_kind, is_of_kind, lefts, parts_of, rights, shape_of, shifted_ends}
use Rattle.fc_model.specs.CoercingRules.{ProveAll, no_coercions, one_coercion}
use Rattle.fc_model.specs.CoercingRules.{Proves, proves_variable, proves_refl, proves_sym, proves_trans, proves_declared, proves_application, proves_function}
use Rattle.fc_model.specs.CoercingRules.{proves_forall, proves_coforall, proves_instance, proves_part, proves_left, proves_right, proves_sub, proves_axiom, proves_universally}
use Rattle.fc_model.specs.CoercionLaws.{EndsAreByCases, EndsAreUnique}
use Rattle.fc_model.specs.Kinding.{Modules, HasKind, is_lifted, kind_or_fault, name_kind, same_kind, same_role, same_type}
use Rattle.fc_model.specs.Nameless.{NTy, NTCon, NTApp, NTForall, NCos, NoNCos, MoreNCos}
use Rattle.fc_model.specs.Nameless.{NCo, NGVar, NGRefl, NGSym, NGTrans, NGTc, NGCapp, NGFun, NGAll, NGCoAll, NGInst, NGNth, NGLeft, NGRight, NGSub, NGAx, NGUniv}
use Rattle.fc_model.specs.Needs.{name_roles, role_within}
use Rattle.fc_model.proofs.EndsJudged.{are_kinded_inv, axiom_inv, both_of_kind_inv, coforall_inv, coforall_is, declared_ends_inv, forall_parts_inv, given_roles_are}
use Rattle.fc_model.proofs.EndsJudged.{instance_inv, kinds_are_given, kinds_length, name_kinded, not_inv, nth_inv, of_kind_is, one_kind_is, one_value_kind_inv}
use Rattle.fc_model.proofs.EndsJudged.{one_value_kind_is, roles_are_given, side_inv, then_ends_inv, three_roles}
use Rattle.fc_model.proofs.KindedIs.{given_kind_is, kind_is_given}
use Rattle.fc_model.proofs.Parts.{and_then_inv, need_inv, ok_ok, part}
use Rattle.fc_model.proofs.Sameness.{nat_eq_refl, same_kind_eq, same_kind_refl, same_role_eq, same_role_refl, same_type_eq, same_type_refl}

module _ (ms : Modules) where
  mutual
    -- what a coercion proves by the rules it is given
    pub ends_are_given : {ks : List Kind} {cs : List Ends} {g : NCo} {r : Role} {s t : NTy} → Proves ms ks cs g r s t → ends_or_fault ms ks cs g ≡ Ok (ends r s t)
    ends_are_given (proves_variable h) = h
    ends_are_given (proves_refl k h) = rw (kind_is_given ms h) refl
    ends_are_given (proves_sym g) = rw (ends_are_given g) refl
    ends_are_given (proves_trans {r = r} {t = t} g h) = rw (ends_are_given g, ends_are_given h, same_role_refl r, same_type_refl t) refl
    ends_are_given (proves_declared {ks = ks} {n = n} es j k gs roles h g) =
        let p = name_kinded ms ks n es j h in rw (all_ends_are_given 0 gs, roles_are_given roles, p.1, kind_is_given ms h, kind_is_given ms g) refl
    ends_are_given (proves_application j k g h p a b) = rw (ends_are_given g, ends_are_given h, p, kind_is_given ms a, kind_is_given ms b) refl
    ends_are_given (proves_function {r = r} j k g h p a b v c d w) =
        rw (ends_are_given g, ends_are_given h, same_role_refl r, p, one_value_kind_is ms a b v, one_value_kind_is ms c d w) refl
    ends_are_given (proves_forall g l a b) = rw (ends_are_given g, l, of_kind_is ms a, of_kind_is ms b) refl
    ends_are_given (proves_coforall {r = r} {o = o} i j k l f g h a b c v d e x w) =
        let at = same_role_refl (role_within r o) in
        let behind = same_role_refl (role_within r R) in
        rw (ends_are_given f, ends_are_given g, ends_are_given h, at, behind, coforall_is ms a b c v, coforall_is ms d e x w) refl
    ends_are_given (proves_instance {k = k} g h a b) = rw (ends_are_given g, ends_are_given h, same_kind_refl k, of_kind_is ms a, of_kind_is ms b) refl
    ends_are_given (proves_part es k g p parts at a b) = rw (ends_are_given g, p, parts, at, one_kind_is ms a b) refl
    ends_are_given (proves_left k g p q a b) = rw (ends_are_given g, p, q, one_kind_is ms a b) refl
    ends_are_given (proves_right k g p q a b) = rw (ends_are_given g, p, q, one_kind_is ms a b) refl
    ends_are_given (proves_sub g) = rw (ends_are_given g) refl
    ends_are_given (proves_axiom a es is gs roles kinds) =
        rw (all_ends_are_given 0 gs, is, kinds_length ms kinds, nat_eq_refl (length a.params), roles_are_given roles, kinds_are_given ms kinds) refl
    ends_are_given (proves_universally k a b) = rw (kind_is_given ms a, kind_is_given ms b, same_kind_refl k) refl

    pub all_ends_are_given : {ks : List Kind} {cs : List Ends} {gs : NCos} {es : List Ends} (i : ℕ) → ProveAll ms ks cs gs es → all_ends_or_fault ms ks cs i gs ≡ Ok es
    all_ends_are_given i no_coercions = refl
    all_ends_are_given i (one_coercion g rest) = rw (ends_are_given g, all_ends_are_given (i + 1) rest) refl

  -- what proves equal ends proves the same
  proves_equal : {ks : List Kind} {cs : List Ends} {g : NCo} {d e : Ends} → d ≡ e → Proves ms ks cs g d.role d.left d.right → Proves ms ks cs g e.role e.left e.right
  proves_equal {ks = ks} {cs = cs} {g = g} same h = subst (λ x. Proves ms ks cs g x.role x.left x.right) same h

  mutual
    -- what a coercion is given it proves by the rules
    pub given_ends_are : (ks : List Kind) (cs : List Ends) (g : NCo) (e : Ends) → ends_or_fault ms ks cs g ≡ Ok e → Proves ms ks cs g e.role e.left e.right
    given_ends_are ks cs (NGVar i) e h = proves_variable h
    given_ends_are ks cs (NGRefl r t) e h =
        let p = part 0 (kind_or_fault ms ks t) _ e h in proves_equal (ok_ok p.2) (proves_refl p.0 (given_kind_is ms ks 0 t p.0 p.1))
    given_ends_are ks cs (NGSym g) e h =
        let p = part 0 (ends_or_fault ms ks cs g) _ e h in proves_equal (ok_ok p.2) (proves_sym (given_ends_are ks cs g p.0 p.1))
    given_ends_are ks cs (NGTrans f g) e h =
        let p = part 0 (ends_or_fault ms ks cs f) _ e h in
        let q = part 1 (ends_or_fault ms ks cs g) _ e p.2 in
        let u = need_inv (same_role p.0.role q.0.role) _ _ e q.2 in
        let v = need_inv (same_type p.0.right q.0.left) _ _ e u.1 in
        let second = given_ends_are ks cs g q.0 q.1 in
        proves_equal (ok_ok v.1) (proves_trans (given_ends_are ks cs f p.0 p.1)
        (subst (λ x. Proves ms ks cs g x p.0.right q.0.right) (sym (same_role_eq p.0.role q.0.role u.0))
        (subst (λ x. Proves ms ks cs g q.0.role x q.0.right) (sym (same_type_eq p.0.right q.0.left v.0)) second)))
    given_ends_are ks cs (NGTc r n gs) e h =
        let p = and_then_inv (all_ends_or_fault ms ks cs 0 gs) _ e h in
        let u = need_inv (are_at_roles r (name_roles ms n) p.0) _ _ e p.2 in
        let v = declared_ends_inv ms ks (name_kind ms n (length p.0)) (ends r (applied_to (NTCon n) (lefts p.0)) (applied_to (NTCon n) (rights p.0))) e u.1 in
        proves_equal v.4 (proves_declared p.0 v.0 v.1 (given_all_ends_are ks cs 0 gs p.0 p.1) (given_roles_are r (name_roles ms n) p.0 u.0) v.2 v.3)
    given_ends_are ks cs (NGCapp f g) e h =
        let p = part 0 (ends_or_fault ms ks cs f) _ e h in
        let q = part 1 (ends_or_fault ms ks cs g) _ e p.2 in
        let u = need_inv (not (same_role p.0.role P) && same_role q.0.role N) _ _ e q.2 in
        let v = need_inv (are_kinded ms ks (NTApp p.0.left q.0.left) (NTApp p.0.right q.0.right)) _ _ e u.1 in
        let w = and_parts (not (same_role p.0.role P)) (same_role q.0.role N) u.0 in
        let k = are_kinded_inv ms ks (NTApp p.0.left q.0.left) (NTApp p.0.right q.0.right) v.0 in
        proves_equal (ok_ok v.1) (proves_application k.0 k.1 (given_ends_are ks cs f p.0 p.1)
        (subst (λ x. Proves ms ks cs g x q.0.left q.0.right) (same_role_eq q.0.role N w.1) (given_ends_are ks cs g q.0 q.1)) (not_inv _ w.0) k.2 k.3)
    given_ends_are ks cs (NGFun f g) e h =
        let p = part 0 (ends_or_fault ms ks cs f) _ e h in
        let q = part 1 (ends_or_fault ms ks cs g) _ e p.2 in
        let u = need_inv (same_role p.0.role q.0.role && not (same_role p.0.role P)) _ _ e q.2 in
        let v = need_inv (have_one_value_kind ms ks p.0.left p.0.right && have_one_value_kind ms ks q.0.left q.0.right) _ _ e u.1 in
        let w = and_parts (same_role p.0.role q.0.role) (not (same_role p.0.role P)) u.0 in
        let x = and_parts (have_one_value_kind ms ks p.0.left p.0.right) (have_one_value_kind ms ks q.0.left q.0.right) v.0 in
        let j = one_value_kind_inv ms ks p.0.left p.0.right x.0 in
        let k = one_value_kind_inv ms ks q.0.left q.0.right x.1 in
        proves_equal (ok_ok v.1) (proves_function j.0 k.0 (given_ends_are ks cs f p.0 p.1)
        (subst (λ x. Proves ms ks cs g x q.0.left q.0.right) (sym (same_role_eq p.0.role q.0.role w.0)) (given_ends_are ks cs g q.0 q.1)) (not_inv _ w.1) j.1 j.2 j.3 k.1 k.2 k.3)
    given_ends_are ks cs (NGAll k g) e h =
        let p = part 0 (ends_or_fault ms (k ∷ ks) (map shifted_ends cs) g) _ e h in
        let u = need_inv (is_lifted k) _ _ e p.2 in
        let v = need_inv (is_of_kind ms (k ∷ ks) KStar p.0.left && is_of_kind ms (k ∷ ks) KStar p.0.right) _ _ e u.1 in
        let w = both_of_kind_inv ms (k ∷ ks) KStar p.0.left p.0.right v.0 in
        proves_equal (ok_ok v.1) (proves_forall (given_ends_are (k ∷ ks) (map shifted_ends cs) g p.0 p.1) u.0 w.0 w.1)
    given_ends_are ks cs (NGCoAll r o f g i) e h =
        let p = part 0 (ends_or_fault ms ks cs f) _ e h in
        let q = part 1 (ends_or_fault ms ks cs g) _ e p.2 in
        let b = part 2 (ends_or_fault ms ks cs i) _ e q.2 in
        let u = need_inv (are_at_roles r (o ∷ o ∷ R ∷ []) (p.0 ∷ q.0 ∷ b.0 ∷ [])) _ _ e b.2 in
        let v = and_then_inv (coforall_kinded ms ks p.0.left q.0.left b.0.left) _ e u.1 in
        let w = and_then_inv (coforall_kinded ms ks p.0.right q.0.right b.0.right) _ e v.2 in
        let j = coforall_inv ms ks p.0.left q.0.left b.0.left v.0 v.1 in
        let k = coforall_inv ms ks p.0.right q.0.right b.0.right w.0 w.1 in
        let x = three_roles r o p.0 q.0 b.0 u.0 in
        proves_equal (ok_ok w.2) (proves_coforall j.0 k.0 j.1 k.1
        (subst (λ z. Proves ms ks cs f z p.0.left p.0.right) x.0 (given_ends_are ks cs f p.0 p.1))
        (subst (λ z. Proves ms ks cs g z q.0.left q.0.right) x.1 (given_ends_are ks cs g q.0 q.1))
        (subst (λ z. Proves ms ks cs i z b.0.left b.0.right) x.2 (given_ends_are ks cs i b.0 b.1)) j.2 j.3 j.4 j.5 k.2 k.3 k.4 k.5)
    given_ends_are ks cs (NGInst f g) e h =
        let p = part 0 (ends_or_fault ms ks cs f) _ e h in
        let q = part 1 (ends_or_fault ms ks cs g) _ e p.2 in
        let v = instance_inv ms ks p.0.role (forall_parts p.0.left) (forall_parts p.0.right) q.0 e q.2 in
        proves_equal v.8 (proves_instance
        (subst (λ x. Proves ms ks cs f p.0.role (NTForall v.0 v.1) x) (forall_parts_inv p.0.right (v.0, v.2) v.4)
        (subst (λ x. Proves ms ks cs f p.0.role x p.0.right) (forall_parts_inv p.0.left (v.0, v.1) v.3) (given_ends_are ks cs f p.0 p.1)))
        (subst (λ x. Proves ms ks cs g x q.0.left q.0.right) v.5 (given_ends_are ks cs g q.0 q.1)) v.6 v.7)
    given_ends_are ks cs (NGNth i g) e h =
        let p = part 0 (ends_or_fault ms ks cs g) _ e h in
        let u = need_inv (not (same_role p.0.role P)) _ _ e p.2 in
        let v = nth_inv ms ks i (parts_of ms p.0.role (shape_of p.0.left) (shape_of p.0.right)) e u.1 in
        proves_part v.0 v.3.0 (given_ends_are ks cs g p.0 p.1) (not_inv _ u.0) v.1 v.2 v.3.1 v.3.2
    given_ends_are ks cs (NGLeft g) e h =
        let p = part 0 (ends_or_fault ms ks cs g) _ e h in
        let v = side_inv ms ks (λ x. x.0) p.0 e p.2 in
        proves_equal v.6 (proves_left v.5.0 (proves_equal v.2 (given_ends_are ks cs g p.0 p.1)) v.3 v.4 v.5.1 v.5.2)
    given_ends_are ks cs (NGRight g) e h =
        let p = part 0 (ends_or_fault ms ks cs g) _ e h in
        let v = side_inv ms ks (λ x. x.1) p.0 e p.2 in
        proves_equal v.6 (proves_right v.5.0 (proves_equal v.2 (given_ends_are ks cs g p.0 p.1)) v.3 v.4 v.5.1 v.5.2)
    given_ends_are ks cs (NGSub g) e h =
        let p = part 0 (ends_or_fault ms ks cs g) _ e h in
        let u = need_inv (same_role p.0.role N) _ _ e p.2 in
        proves_equal (ok_ok u.1) (proves_sub (subst (λ x. Proves ms ks cs g x p.0.left p.0.right) (same_role_eq p.0.role N u.0) (given_ends_are ks cs g p.0 p.1)))
    given_ends_are ks cs (NGAx n gs) e h =
        let p = and_then_inv (all_ends_or_fault ms ks cs 0 gs) _ e h in
        let v = axiom_inv ms ks (axiom_named ms n) p.0 e p.2 in
        proves_equal v.4 (proves_axiom v.0 p.0 v.1 (given_all_ends_are ks cs 0 gs p.0 p.1) v.2 v.3)
    given_ends_are ks cs (NGUniv t u) e h =
        let p = part 0 (kind_or_fault ms ks t) _ e h in
        let q = part 1 (kind_or_fault ms ks u) _ e p.2 in
        let v = need_inv (same_kind p.0 q.0) _ _ e q.2 in
        proves_equal (ok_ok v.1) (proves_universally p.0 (given_kind_is ms ks 0 t p.0 p.1)
        (subst (λ x. HasKind ms ks u x) (sym (same_kind_eq p.0 q.0 v.0)) (given_kind_is ms ks 0 u q.0 q.1)))

    pub given_all_ends_are : (ks : List Kind) (cs : List Ends) (i : ℕ) (gs : NCos) (es : List Ends) → all_ends_or_fault ms ks cs i gs ≡ Ok es → ProveAll ms ks cs gs es
    given_all_ends_are ks cs i NoNCos es h = subst (λ x. ProveAll ms ks cs NoNCos x) (ok_ok h) no_coercions
    given_all_ends_are ks cs i (MoreNCos g rest) es h =
        let p = part i (ends_or_fault ms ks cs g) _ es h in
        let q = then_ends_inv p.0 (all_ends_or_fault ms ks cs (i + 1) rest) es p.2 in
        subst (λ x. ProveAll ms ks cs (MoreNCos g rest) x) q.2 (one_coercion (given_ends_are ks cs g p.0 p.1) (given_all_ends_are ks cs (i + 1) rest q.0 q.1))

-- the function gives ends exactly where the rules do
pub ends_are : EndsAreByCases
ends_are ms ks cs g e = (given_ends_are ms ks cs g e, λ h. ends_are_given ms h)

-- a coercion proves one thing at most
pub ends_are_one : EndsAreUnique
ends_are_one ms ks cs g q r s t u v a b =
    let same : ends q s t ≡ ends r u v = ok_ok (sym (ends_are_given ms a) ∙ ends_are_given ms b) in
    (ap (λ x. x.role) same, ap (λ x. x.left) same, ap (λ x. x.right) same)
