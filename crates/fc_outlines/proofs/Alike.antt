-- Modules that declare the same types, constructors and axioms: what holds against the one holds against the other, where the definitions
-- that it mentions have the same types in both.
use Rattle.std.proofs.Common.{◌≡◌, ℕ, suc, Bool, List, [], ◌∷◌, ◌++◌, Ok, refl, sym, ap, ◌∙◌, subst}
use Rattle.fc_syntax.specs.declared.ty.Name.{Name}
use Rattle.fc_syntax.specs.declared.ty.Role.{Role}
use Rattle.fc_syntax.specs.Tree.{Kind}
use Rattle.fc_model.specs.Calling.{Given}
use Rattle.fc_model.specs.Coercing.{Ends, Shape, Named, Function, Equality, NoShape, parts_of, shape_of}
use Rattle.fc_model.specs.CoercingRules.{AreAtRoles, AreOfKinds, no_kind, one_kind, Proves, ProveAll, no_coercions, one_coercion, proves_variable, proves_refl, proves_sym, proves_trans, proves_declared}
use Rattle.fc_model.specs.CoercingRules.{proves_application, proves_function, proves_forall, proves_coforall, proves_instance, proves_part, proves_left, proves_right, proves_sub, proves_axiom, proves_universally}
use Rattle.fc_model.specs.Kinding.{Modules, HasHeadKind, decl_kind, is_family_applied, is_family_of, name_kind}
use Rattle.fc_model.specs.Kinding.{kind_variable, kind_declared, kind_int, kind_application, kind_function, kind_forall, kind_coforall}
use Rattle.fc_model.specs.Nameless.{NTy, NTVar, NTCon, NTInt, NTApp, NTFun, NTForall, NTCoForall, NCo, NCos, NBinder, NArg, NExpr, NArgs, NBinds, NJoins, NAlts}
use Rattle.fc_model.specs.Needs.{declared_roles, name_roles}
use Rattle.fc_model.specs.Typing.{Before, Context, value_type}
use Rattle.fc_model.specs.TypingRules.{BinderIsKinded, value_binder, type_binder, coercion_binder, BindersAreKinded, no_binders, one_binder, BodyFits, below_value, below_type, below_coercion}
use Rattle.fc_model.specs.TypingRules.{HasType, typed_local, typed_declared, typed_literal, typed_application, typed_lambda, typed_let, typed_case, typed_cast, typed_con}
use Rattle.fc_model.specs.TypingRules.{typed_prim, typed_fail, typed_join, typed_jump, ArgIsGiven, given_term, given_type, given_coercion, ArgsAreGiven, no_args, one_arg}
use Rattle.fc_model.specs.TypingRules.{BindsHaveTypes, no_binds, one_bind, JoinsHaveType, no_joins, one_join, AltsFit, no_alts, default_alt, literal_alt, con_alt}
use Rattle.fc_reaching.specs.Reaching.{names_in, names_in_alts, names_in_arg, names_in_args, names_in_binds, names_in_joins}
use Rattle.fc_outlines.specs.Headers.{DeclareAlike}

-- AMONG NAMES

pub data Among (n : Name) : List Name → Type 0 where
  first_among : {ns : List Name} → Among n (n ∷ ns)
  later_among : {m : Name} {ns : List Name} → Among n ns → Among n (m ∷ ns)

pub in_first : {n : Name} (ms ns : List Name) → Among n ms → Among n (ms ++ ns)
in_first [] ns a = elim a [ ]
in_first (m ∷ ms) ns first_among = first_among
in_first (m ∷ ms) ns (later_among a) = later_among (in_first ms ns a)

pub in_second : {n : Name} (ms ns : List Name) → Among n ns → Among n (ms ++ ns)
in_second [] ns a = a
in_second (m ∷ ms) ns a = later_among (in_second ms ns a)

-- JUDGEMENTS

module _ (ms ns : Modules) (alike : DeclareAlike ms ns) where
  -- WHAT IS DECLARED

  pub kinds_alike : (n : Name) (args : ℕ) → name_kind ms n args ≡ name_kind ns n args
  kinds_alike n args = ap (λ d. decl_kind d args) (alike.types n.module n.text)

  pub roles_alike : (n : Name) → name_roles ms n ≡ name_roles ns n
  roles_alike n = ap declared_roles (alike.types n.module n.text)

  pub families_alike : (args : ℕ) (t : NTy) → is_family_applied ms args t ≡ is_family_applied ns args t
  families_alike args (NTVar i) = refl
  families_alike args (NTCon n) = ap (λ d. is_family_of d args) (alike.types n.module n.text)
  families_alike args NTInt = refl
  families_alike args (NTApp t u) = families_alike (suc args) t
  families_alike args (NTFun t u) = refl
  families_alike args (NTForall k t) = refl
  families_alike args (NTCoForall r t u v) = refl

  pub parts_alike : (r : Role) (a b : Shape) → parts_of ms r a b ≡ parts_of ns r a b
  parts_alike r (Named n ts) (Named m us) = rw (alike.types n.module n.text) refl
  parts_alike r (Named n ts) (Function t u) = refl
  parts_alike r (Named n ts) (Equality o t u v) = refl
  parts_alike r (Named n ts) NoShape = refl
  parts_alike r (Function t u) b = refl
  parts_alike r (Equality o t u v) b = refl
  parts_alike r NoShape b = refl

  -- KINDS AND COERCIONS

  pub kind_alike : {ks : List Kind} {args : ℕ} {t : NTy} {k : Kind} → HasHeadKind ms ks args t k → HasHeadKind ns ks args t k
  kind_alike (kind_variable h) = kind_variable h
  kind_alike (kind_declared {args = args} {n = n} h) = kind_declared (sym (kinds_alike n args) ∙ h)
  kind_alike kind_int = kind_int
  kind_alike (kind_application p q) = kind_application (kind_alike p) (kind_alike q)
  kind_alike (kind_function j k p q v w) = kind_function j k (kind_alike p) (kind_alike q) v w
  kind_alike (kind_forall l p) = kind_forall l (kind_alike p)
  kind_alike (kind_coforall j k p q r v) = kind_coforall j k (kind_alike p) (kind_alike q) (kind_alike r) v

  of_kinds_alike : {ks js : List Kind} {es : List Ends} → AreOfKinds ms ks js es → AreOfKinds ns ks js es
  of_kinds_alike no_kind = no_kind
  of_kinds_alike (one_kind p q more) = one_kind (kind_alike p) (kind_alike q) (of_kinds_alike more)

  mutual
    pub proves_alike : {ks : List Kind} {cs : List Ends} {g : NCo} {r : Role} {s t : NTy} → Proves ms ks cs g r s t → Proves ns ks cs g r s t
    proves_alike (proves_variable h) = proves_variable h
    proves_alike (proves_refl k p) = proves_refl k (kind_alike p)
    proves_alike (proves_sym p) = proves_sym (proves_alike p)
    proves_alike (proves_trans p q) = proves_trans (proves_alike p) (proves_alike q)
    proves_alike (proves_declared {r = r} {n = n} es j k p roles a b) =
        proves_declared es j k (all_alike p) (subst (λ rs. AreAtRoles r rs es) (roles_alike n) roles) (kind_alike a) (kind_alike b)
    proves_alike (proves_application j k p q role a b) = proves_application j k (proves_alike p) (proves_alike q) role (kind_alike a) (kind_alike b)
    proves_alike (proves_function j k p q role a b v c d w) =
        proves_function j k (proves_alike p) (proves_alike q) role (kind_alike a) (kind_alike b) v (kind_alike c) (kind_alike d) w
    proves_alike (proves_forall p l a b) = proves_forall (proves_alike p) l (kind_alike a) (kind_alike b)
    proves_alike (proves_coforall i j k l p q r a b c v d e f w) =
        proves_coforall i j k l (proves_alike p) (proves_alike q) (proves_alike r) (kind_alike a) (kind_alike b) (kind_alike c) v (kind_alike d) (kind_alike e) (kind_alike f) w
    proves_alike (proves_instance p q a b) = proves_instance (proves_alike p) (proves_alike q) (kind_alike a) (kind_alike b)
    proves_alike (proves_part {r = r} {s = s} {t = t} es k p role parts at a b) =
        proves_part es k (proves_alike p) role (sym (parts_alike r (shape_of s) (shape_of t)) ∙ parts) at (kind_alike a) (kind_alike b)
    proves_alike (proves_left {s = s} {t = t} {u = u} {v = v} k p x y a b) =
        proves_left k (proves_alike p) (sym (families_alike 0 (NTApp s u)) ∙ x) (sym (families_alike 0 (NTApp t v)) ∙ y) (kind_alike a) (kind_alike b)
    proves_alike (proves_right {s = s} {t = t} {u = u} {v = v} k p x y a b) =
        proves_right k (proves_alike p) (sym (families_alike 0 (NTApp s u)) ∙ x) (sym (families_alike 0 (NTApp t v)) ∙ y) (kind_alike a) (kind_alike b)
    proves_alike (proves_sub p) = proves_sub (proves_alike p)
    proves_alike (proves_axiom {n = n} a es found p roles kinds) =
        proves_axiom a es (sym (alike.axioms n.module n.text) ∙ found) (all_alike p) roles (of_kinds_alike kinds)
    proves_alike (proves_universally k a b) = proves_universally k (kind_alike a) (kind_alike b)

    all_alike : {ks : List Kind} {cs : List Ends} {gs : NCos} {es : List Ends} → ProveAll ms ks cs gs es → ProveAll ns ks cs gs es
    all_alike no_coercions = no_coercions
    all_alike (one_coercion p more) = one_coercion (proves_alike p) (all_alike more)

  -- EXPRESSIONS

  binder_alike : {owes : Bool} {ks : List Kind} {b : NBinder} → BinderIsKinded ms owes ks b → BinderIsKinded ns owes ks b
  binder_alike (value_binder k p v) = value_binder k (kind_alike p) v
  binder_alike (type_binder l) = type_binder l
  binder_alike (coercion_binder j k p q same) = coercion_binder j k (kind_alike p) (kind_alike q) same

  binders_alike : {owes : Bool} {ks : List Kind} {bs : List NBinder} → BindersAreKinded ms owes ks bs → BindersAreKinded ns owes ks bs
  binders_alike no_binders = no_binders
  binders_alike (one_binder p more) = one_binder (binder_alike p) (binders_alike more)

  body_alike : {ks : List Kind} {b : NBinder} {u : NTy} → BodyFits ms ks b u → BodyFits ns ks b u
  body_alike below_value = below_value
  body_alike (below_type p) = below_type (kind_alike p)
  body_alike below_coercion = below_coercion

  -- the definitions among names have the same types
  abbrev pub HaveTypes : List Name → Type 0
  HaveTypes names = (n : Name) → Among n names → (t : NTy) → value_type ms n ≡ Ok t → value_type ns n ≡ Ok t

  here : (xs ys : List Name) → HaveTypes (xs ++ ys) → HaveTypes xs
  here xs ys h n a = h n (in_first xs ys a)

  there : (xs ys : List Name) → HaveTypes (xs ++ ys) → HaveTypes ys
  there xs ys h n a = h n (in_second xs ys a)

  mutual
    pub type_alike : {c : Context} {e : NExpr} {t : NTy} → HasType ms c e t → HaveTypes (names_in e) → HasType ns c e t
    type_alike (typed_local a) h = typed_local a
    type_alike (typed_declared {n = n} {t = t} v) h = typed_declared (h n first_among t v)
    type_alike typed_literal h = typed_literal
    type_alike (typed_application {f = f} {a = a} s g p q takes) h =
        typed_application s g (type_alike p (here (names_in f) (names_in_arg a) h)) (arg_alike q (there (names_in f) (names_in_arg a) h)) takes
    type_alike (typed_lambda k p fits) h = typed_lambda (binder_alike k) (type_alike p h) (body_alike fits)
    type_alike (typed_let {bs = bs} {e = e} p q) h = typed_let (binds_alike p (here (names_in_binds bs) (names_in e) h)) (type_alike q (there (names_in_binds bs) (names_in e) h))
    type_alike (typed_case {e = e} {alts = alts} j k p sk rk fit v) h =
        typed_case j k (type_alike p (here (names_in e) (names_in_alts alts) h)) (kind_alike sk) (kind_alike rk) (alts_alike fit (there (names_in e) (names_in_alts alts) h)) v
    type_alike (typed_cast p q) h = typed_cast (type_alike p h) (proves_alike q)
    type_alike (typed_con {n = n} k gs found p long takes) h = typed_con k gs (sym (alike.constructors n.module n.text) ∙ found) (args_alike p h) long takes
    type_alike (typed_prim {a = a} {b = b} p x q y) h =
        typed_prim (type_alike p (here (names_in a) (names_in b ++ []) h)) x (type_alike q (here (names_in b) [] (there (names_in a) (names_in b ++ []) h))) y
    type_alike (typed_fail k p v) h = typed_fail k (kind_alike p) v
    type_alike (typed_join {js = js} {e = e} k p q s v) h =
        typed_join k (kind_alike p) (joins_alike q (here (names_in_joins js) (names_in e) h)) (type_alike s (there (names_in_joins js) (names_in e) h)) v
    type_alike (typed_jump j gs t at p long takes) h = typed_jump j gs t at (args_alike p h) long takes

    arg_alike : {c : Context} {a : NArg} {g : Given} → ArgIsGiven ms c a g → HaveTypes (names_in_arg a) → ArgIsGiven ns c a g
    arg_alike (given_term p) h = given_term (type_alike p h)
    arg_alike (given_type p) h = given_type (kind_alike p)
    arg_alike (given_coercion p) h = given_coercion (proves_alike p)

    args_alike : {c : Context} {args : NArgs} {gs : List Given} → ArgsAreGiven ms c args gs → HaveTypes (names_in_args args) → ArgsAreGiven ns c args gs
    args_alike no_args h = no_args
    args_alike (one_arg {a = a} {rest = rest} p more) h =
        one_arg (arg_alike p (here (names_in_arg a) (names_in_args rest) h)) (args_alike more (there (names_in_arg a) (names_in_args rest) h))

    binds_alike : {c : Context} {r : Bool} {bs : NBinds} → BindsHaveTypes ms c r bs → HaveTypes (names_in_binds bs) → BindsHaveTypes ns c r bs
    binds_alike no_binds h = no_binds
    binds_alike (one_bind {e = e} {rest = rest} k p v q fits more) h =
        one_bind k (kind_alike p) v (type_alike q (here (names_in e) (names_in_binds rest) h)) fits (binds_alike more (there (names_in e) (names_in_binds rest) h))

    joins_alike : {c : Context} {t : NTy} {js : NJoins} → JoinsHaveType ms c t js → HaveTypes (names_in_joins js) → JoinsHaveType ns c t js
    joins_alike no_joins h = no_joins
    joins_alike (one_join {e = e} {rest = rest} k p more) h =
        one_join (binders_alike k) (type_alike p (here (names_in e) (names_in_joins rest) h)) (joins_alike more (there (names_in e) (names_in_joins rest) h))

    alts_alike : {c : Context} {s rt : NTy} {b : Before} {alts : NAlts} → AltsFit ms c s rt b alts → HaveTypes (names_in_alts alts) → AltsFit ns c s rt b alts
    alts_alike no_alts h = no_alts
    alts_alike (default_alt {e = e} {rest = rest} k p order more) h =
        default_alt (binders_alike k) (type_alike p (here (names_in e) (names_in_alts rest) h)) order (alts_alike more (there (names_in e) (names_in_alts rest) h))
    alts_alike (literal_alt {e = e} {rest = rest} k p int order more) h =
        literal_alt (binders_alike k) (type_alike p (here (names_in e) (names_in_alts rest) h)) int order (alts_alike more (there (names_in e) (names_in_alts rest) h))
    alts_alike (con_alt {n = n} {e = e} {rest = rest} k kinds p found is order fits more) h =
        con_alt k (binders_alike kinds) (type_alike p (here (names_in e) (names_in_alts rest) h)) (sym (alike.constructors n.module n.text) ∙ found) is order fits
        (alts_alike more (there (names_in e) (names_in_alts rest) h))
