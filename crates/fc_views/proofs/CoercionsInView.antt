-- Kinds and coercions against modules that agree in view: what holds against the one holds against the other, and what a coercion in view proves is in view.
use Rattle.std.proofs.Common.{◌≡◌, ◌∙◌, ℕ, suc, Bool, true, false, if◌then◌else◌, List, [], ◌∷◌, ◌++◌, Some, None, refl, sym, ap, subst}
use Rattle.std.specs.List.{All, AllByRecursion as Each}
use Rattle.std.proofs.lemmas.List.Elements.{All-weaker, recursion_from_All}
use Rattle.fc_syntax.specs.declared.ty.Name.{Name}
use Rattle.fc_syntax.specs.declared.ty.Role.{Role}
use Rattle.fc_syntax.specs.Tree.{Word, Kind}
use Rattle.fc_model.specs.Coercing.{Ends, Shape, Named, Function, Equality, NoShape, applied_shape, paired, parts_of, shape_of, lefts, rights}
use Rattle.fc_model.specs.CoercingRules.{AreAtRoles, AreOfKinds, no_kind, one_kind, Proves, ProveAll, no_coercions, one_coercion, proves_variable, proves_refl, proves_sym, proves_trans, proves_declared}
use Rattle.fc_model.specs.CoercingRules.{proves_application, proves_function, proves_forall, proves_coforall, proves_instance, proves_part, proves_left, proves_right, proves_sub, proves_axiom, proves_universally}
use Rattle.fc_model.specs.Kinding.{Modules, HasHeadKind, decl_kind, is_family_applied, is_family_of, name_kind}
use Rattle.fc_model.specs.Kinding.{kind_variable, kind_declared, kind_int, kind_application, kind_function, kind_forall, kind_coforall}
use Rattle.fc_model.specs.Mentioning.{in_name}
use Rattle.fc_model.specs.Nameless.{NTy, NTApp, NTForall, NCo, NCos}
use Rattle.fc_model.specs.Needs.{declared_roles, later_roles, name_roles}
use Rattle.fc_model.specs.Substituting.{instantiated}
use Rattle.fc_headers.specs.NamelessHeaders.{modules_in_coercion, modules_in_coercions}
use Rattle.fc_views.specs.Views.{AgreeInView, AreEndsInView, AreInView, CoercionsSeeTheView, IsClosedView, IsNameInView, KindsSeeTheView, View}
use Rattle.fc_views.proofs.TypesInView.{each_at, each_in_both, words_apart, IsTypeIn, variable_in, declared_in, int_in, application_in, function_in, forall_in, coforall_in}
use Rattle.fc_views.proofs.TypesInView.{applied_in, instantiated_in, lefts_in, modules_of_two, parameters_in, rights_in, shifted_ends_in, two_types_in, type_in, AreEndsIn}

-- PARTS OF TYPES

module _ (view : View) where
  of_application : {t u : NTy} → IsTypeIn view (NTApp t u) → IsTypeIn view t × IsTypeIn view u
  of_application (application_in p q) = (p, q)

  at_instance : {k : Kind} {t u : NTy} → IsTypeIn view u → IsTypeIn view (NTForall k t) → IsTypeIn view (instantiated u t)
  at_instance p (forall_in q) = instantiated_in view p q

  abbrev IsShapeIn : Shape → Type 0
  IsShapeIn (Named n ts) = IsNameInView view n × Each (IsTypeIn view) ts
  IsShapeIn (Function t u) = IsTypeIn view t × IsTypeIn view u
  IsShapeIn (Equality r t u v) = IsTypeIn view t × IsTypeIn view u × IsTypeIn view v
  IsShapeIn NoShape = Unit {0}

  applied_shape_in : (a : Shape) (u : NTy) → IsShapeIn a → IsTypeIn view u → IsShapeIn (applied_shape a u)
  applied_shape_in (Named n ts) u h p = (h.0, each_in_both (IsTypeIn view) ts (u ∷ []) h.1 (p, tt))
  applied_shape_in (Function s t) u h p = tt
  applied_shape_in (Equality r s t v) u h p = tt
  applied_shape_in NoShape u h p = tt

  shape_in : {t : NTy} → IsTypeIn view t → IsShapeIn (shape_of t)
  shape_in variable_in = tt
  shape_in (declared_in h) = (h, tt)
  shape_in int_in = tt
  shape_in (application_in {t = t} {u = u} p q) = applied_shape_in (shape_of t) u (shape_in p) q
  shape_in (function_in p q) = (p, q)
  shape_in (forall_in p) = tt
  shape_in (coforall_in p q r) = (p, q, r)

  paired_in : (r : Role) (rs : List Role) (ts us : List NTy) → Each (IsTypeIn view) ts → Each (IsTypeIn view) us → Each (AreEndsIn view) (paired r rs ts us)
  paired_in r rs [] us p q = tt
  paired_in r rs (t ∷ ts) [] p q = tt
  paired_in r rs (t ∷ ts) (u ∷ us) p q = ((p.0, q.0), paired_in r (later_roles rs) ts us p.1 q.1)

  chosen_in : (b : Bool) (x es : List Ends) → (if b then Some x else None) ≡ Some es → Each (AreEndsIn view) x → Each (AreEndsIn view) es
  chosen_in true x es h p = let e : x ≡ es = cc in rw (← e) p
  chosen_in false x es h p = absurd (cc)

  parts_in : (ms : Modules) (r : Role) (a b : Shape) (es : List Ends) → parts_of ms r a b ≡ Some es → IsShapeIn a → IsShapeIn b → Each (AreEndsIn view) es
  parts_in ms r (Named n ts) (Named m us) es h p q = chosen_in _ (paired r (name_roles ms n) ts us) es h (paired_in r (name_roles ms n) ts us p.1 q.1)
  parts_in ms r (Named n ts) (Function t u) es h p q = absurd (cc)
  parts_in ms r (Named n ts) (Equality o t u v) es h p q = absurd (cc)
  parts_in ms r (Named n ts) NoShape es h p q = absurd (cc)
  parts_in ms r (Function t u) (Function v w) es h p q = chosen_in true _ es h ((p.0, q.0), ((p.1, q.1), tt))
  parts_in ms r (Function t u) (Named n ts) es h p q = absurd (cc)
  parts_in ms r (Function t u) (Equality o v w x) es h p q = absurd (cc)
  parts_in ms r (Function t u) NoShape es h p q = absurd (cc)
  parts_in ms r (Equality o t u v) (Equality s w x y) es h p q = chosen_in _ _ es h ((p.0, q.0), ((p.1, q.1), ((p.2, q.2), tt)))
  parts_in ms r (Equality o t u v) (Named n ts) es h p q = absurd (cc)
  parts_in ms r (Equality o t u v) (Function w x) es h p q = absurd (cc)
  parts_in ms r (Equality o t u v) NoShape es h p q = absurd (cc)
  parts_in ms r NoShape b es h p q = absurd (cc)

-- KINDS

module _ (view : View) (ms ns : Modules) (agree : AgreeInView view ms ns) where
  kinds_agree : (n : Name) (args : ℕ) → IsNameInView view n → name_kind ms n args ≡ name_kind ns n args
  kinds_agree n args h = ap (λ d. decl_kind d args) (agree.types n.module n.text h)

  pub roles_agree : (n : Name) → IsNameInView view n → name_roles ms n ≡ name_roles ns n
  roles_agree n h = ap declared_roles (agree.types n.module n.text h)

  pub families_agree : (args : ℕ) {t : NTy} → IsTypeIn view t → is_family_applied ms args t ≡ is_family_applied ns args t
  families_agree args variable_in = refl
  families_agree args (declared_in {n = n} h) = ap (λ d. is_family_of d args) (agree.types n.module n.text h)
  families_agree args int_in = refl
  families_agree args (application_in p q) = families_agree (suc args) p
  families_agree args (function_in p q) = refl
  families_agree args (forall_in p) = refl
  families_agree args (coforall_in p q r) = refl

  parts_agree : (r : Role) (a b : Shape) → IsShapeIn view a → parts_of ms r a b ≡ parts_of ns r a b
  parts_agree r (Named n ts) (Named m us) h = rw (agree.types n.module n.text h.0) refl
  parts_agree r (Named n ts) (Function t u) h = refl
  parts_agree r (Named n ts) (Equality o t u v) h = refl
  parts_agree r (Named n ts) NoShape h = refl
  parts_agree r (Function t u) b h = refl
  parts_agree r (Equality o t u v) b h = refl
  parts_agree r NoShape b h = refl

  pub kind_seen : {ks : List Kind} {args : ℕ} {t : NTy} {k : Kind} → HasHeadKind ms ks args t k → IsTypeIn view t → HasHeadKind ns ks args t k
  kind_seen (kind_variable h) v = kind_variable h
  kind_seen (kind_declared {args = args} {n = n} h) (declared_in v) = kind_declared (sym (kinds_agree n args v) ∙ h)
  kind_seen kind_int v = kind_int
  kind_seen (kind_application p q) (application_in v w) = kind_application (kind_seen p v) (kind_seen q w)
  kind_seen (kind_function j k p q a b) (function_in v w) = kind_function j k (kind_seen p v) (kind_seen q w) a b
  kind_seen (kind_forall l p) (forall_in v) = kind_forall l (kind_seen p v)
  kind_seen (kind_coforall j k p q r a) (coforall_in u v w) = kind_coforall j k (kind_seen p u) (kind_seen q v) (kind_seen r w) a

  of_kinds_seen : {ks js : List Kind} {es : List Ends} → AreOfKinds ms ks js es → Each (AreEndsIn view) es → AreOfKinds ns ks js es
  of_kinds_seen no_kind h = no_kind
  of_kinds_seen (one_kind p q more) h = one_kind (kind_seen p h.0.0) (kind_seen q h.0.1) (of_kinds_seen more h.1)

-- COERCIONS

module _ (view : View) (ms ns : Modules) (agree : AgreeInView view ms ns) (closed : IsClosedView view ms) where
  kind : {ks : List Kind} {args : ℕ} {t : NTy} {k : Kind} → HasHeadKind ms ks args t k → IsTypeIn view t → HasHeadKind ns ks args t k
  kind p v = kind_seen view ms ns agree p v

  parts : (xs ys : List Word) → AreInView view (xs ++ ys) → AreInView view xs × AreInView view ys
  parts xs ys h = words_apart view xs ys h

  not_family : {t : NTy} (b : Bool) → IsTypeIn view t → is_family_applied ms 0 t ≡ b → is_family_applied ns 0 t ≡ b
  not_family b v h = sym (families_agree view ms ns agree 0 v) ∙ h

  mutual
    pub proves_seen : {ks : List Kind} {cs : List Ends} {g : NCo} {r : Role} {s t : NTy} → Proves ms ks cs g r s t → Each (AreEndsIn view) cs
        → AreInView view (modules_in_coercion g) → Proves ns ks cs g r s t × IsTypeIn view s × IsTypeIn view t
    proves_seen (proves_variable {cs = cs} {i = i} h) c v = let p = each_at (AreEndsIn view) cs i c h in (proves_variable h, p.0, p.1)
    proves_seen (proves_refl {t = t} k p) c v = let w = type_in view t v in (proves_refl k (kind p w), w, w)
    proves_seen (proves_sym p) c v = let q = proves_seen p c v in (proves_sym q.0, q.2, q.1)
    proves_seen (proves_trans {g = g} {h = h} p q) c v =
        let w = parts (modules_in_coercion g) (modules_in_coercion h) v in
        let a = proves_seen p c w.0 in
        let b = proves_seen q c w.1 in
        (proves_trans a.0 b.0, a.1, b.2)
    proves_seen (proves_declared {r = r} {n = n} {gs = gs} es j k p roles a b) c v =
        let w = parts (in_name n.module) (modules_in_coercions gs) v in
        let q = all_seen p c w.1 in
        let l = applied_in view (lefts es) (declared_in {n = n} w.0) (lefts_in view es q.1) in
        let m = applied_in view (rights es) (declared_in {n = n} w.0) (rights_in view es q.1) in
        (proves_declared es j k q.0 (subst (λ rs. AreAtRoles r rs es) (roles_agree view ms ns agree n w.0) roles) (kind a l) (kind b m), l, m)
    proves_seen (proves_application {g = g} {h = h} j k p q role a b) c v =
        let w = parts (modules_in_coercion g) (modules_in_coercion h) v in
        let f = proves_seen p c w.0 in
        let u = proves_seen q c w.1 in
        let l = application_in f.1 u.1 in
        let m = application_in f.2 u.2 in
        (proves_application j k f.0 u.0 role (kind a l) (kind b m), l, m)
    proves_seen (proves_function {g = g} {h = h} j k p q role a b x d e y) c v =
        let w = parts (modules_in_coercion g) (modules_in_coercion h) v in
        let f = proves_seen p c w.0 in
        let u = proves_seen q c w.1 in
        (proves_function j k f.0 u.0 role (kind a f.1) (kind b f.2) x (kind d u.1) (kind e u.2) y, function_in f.1 u.1, function_in f.2 u.2)
    proves_seen (proves_forall {cs = cs} p l a b) c v =
        let q = proves_seen p (shifted_ends_in view cs c) v in
        (proves_forall q.0 l (kind a q.1) (kind b q.2), forall_in q.1, forall_in q.2)
    proves_seen (proves_coforall {f = f} {g = g} {h = h} i j k l p q r a b d x e m n y) c v =
        let w = parts (modules_in_coercion f) (modules_in_coercion g ++ modules_in_coercion h) v in
        let z = parts (modules_in_coercion g) (modules_in_coercion h) w.1 in
        let s = proves_seen p c w.0 in
        let t = proves_seen q c z.0 in
        let u = proves_seen r c z.1 in
        (proves_coforall i j k l s.0 t.0 u.0 (kind a s.1) (kind b t.1) (kind d u.1) x (kind e s.2) (kind m t.2) (kind n u.2) y, coforall_in s.1 t.1 u.1, coforall_in s.2 t.2 u.2)
    proves_seen (proves_instance {g = g} {h = h} p q a b) c v =
        let w = parts (modules_in_coercion g) (modules_in_coercion h) v in
        let f = proves_seen p c w.0 in
        let u = proves_seen q c w.1 in
        (proves_instance f.0 u.0 (kind a u.1) (kind b u.2), at_instance view u.1 f.1, at_instance view u.2 f.2)
    proves_seen (proves_part {i = i} {r = r} {s = s} {t = t} es k p role split at a b) c v =
        let q = proves_seen p c v in
        let x = shape_in view q.1 in
        let e = each_at (AreEndsIn view) es i (parts_in view ms r (shape_of s) (shape_of t) es split x (shape_in view q.2)) at in
        (proves_part es k q.0 role (sym (parts_agree view ms ns agree r (shape_of s) (shape_of t) x) ∙ split) at (kind a e.0) (kind b e.1), e.0, e.1)
    proves_seen (proves_left k p x y a b) c v =
        let q = proves_seen p c v in
        let l = of_application view q.1 in
        let m = of_application view q.2 in
        (proves_left k q.0 (not_family false q.1 x) (not_family false q.2 y) (kind a l.0) (kind b m.0), l.0, m.0)
    proves_seen (proves_right k p x y a b) c v =
        let q = proves_seen p c v in
        let l = of_application view q.1 in
        let m = of_application view q.2 in
        (proves_right k q.0 (not_family false q.1 x) (not_family false q.2 y) (kind a l.1) (kind b m.1), l.1, m.1)
    proves_seen (proves_sub p) c v = let q = proves_seen p c v in (proves_sub q.0, q.1, q.2)
    proves_seen (proves_axiom {n = n} {gs = gs} a es found p roles kinds) c v =
        let w = parts (in_name n.module) (modules_in_coercions gs) v in
        let q = all_seen p c w.1 in
        let sides = two_types_in view a.ends.left a.ends.right (closed.axioms n a w.0 found) in (
          proves_axiom a es (sym (agree.axioms n.module n.text w.0) ∙ found) q.0 roles (of_kinds_seen view ms ns agree kinds q.1),
          parameters_in view (lefts es) (lefts_in view es q.1) sides.0,
          parameters_in view (rights es) (rights_in view es q.1) sides.1,
        )
    proves_seen (proves_universally {t = t} {u = u} k a b) c v =
        let w = two_types_in view t u v in
        (proves_universally k (kind a w.0) (kind b w.1), w.0, w.1)

    all_seen : {ks : List Kind} {cs : List Ends} {gs : NCos} {es : List Ends} → ProveAll ms ks cs gs es → Each (AreEndsIn view) cs
        → AreInView view (modules_in_coercions gs) → ProveAll ns ks cs gs es × Each (AreEndsIn view) es
    all_seen no_coercions c v = (no_coercions, tt)
    all_seen (one_coercion {g = g} {rest = rest} p more) c v =
        let w = parts (modules_in_coercion g) (modules_in_coercions rest) v in
        let q = proves_seen p c w.0 in
        let qs = all_seen more c w.1 in
        (one_coercion q.0 qs.0, ((q.1, q.2), qs.1))

-- THE LAWS

pub kinds_see_the_view : KindsSeeTheView
kinds_see_the_view view ms ns agree ks t k v h = kind_seen view ms ns agree h (type_in view t v)

-- from lists of modules, ends by ends
pub ends_in : (view : View) (es : List Ends) → All (AreEndsInView view) es → Each (AreEndsIn view) es
ends_in view es h = recursion_from_All (AreEndsIn view) es (All-weaker (AreEndsInView view) (AreEndsIn view) (λ e p. two_types_in view e.left e.right p) es h)

pub coercions_see_the_view : CoercionsSeeTheView
coercions_see_the_view view ms ns agree closed ks cs g r s t c v h =
    let q = proves_seen view ms ns agree closed h (ends_in view cs c) v in
    (q.0, modules_of_two view q.1 q.2)
