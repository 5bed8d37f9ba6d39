-- Types of expressions against modules that agree in view: what has a type against the one has it against the other, and the type is in view.
use Rattle.std.proofs.Common.{◌∙◌, Bool, List, [], ◌++◌, sym}
use Rattle.std.specs.List.{AllByRecursion as Each}
use Rattle.std.proofs.lemmas.List.Elements.{recursion_from_All}
use Rattle.fc_syntax.specs.declared.ty.Name.{Name}
use Rattle.fc_syntax.specs.Tree.{Word, Kind}
use Rattle.fc_model.specs.Calling.{Given}
use Rattle.fc_model.specs.Kinding.{Modules, HasHeadKind}
use Rattle.fc_model.specs.Mentioning.{in_name}
use Rattle.fc_model.specs.Nameless.{NTy, NBinder, NArg, NExpr, NArgs, NBinds, NJoins, NAlts}
use Rattle.fc_model.specs.Typing.{Before, Context}
use Rattle.fc_model.specs.TypingRules.{BinderIsKinded, value_binder, type_binder, coercion_binder, BindersAreKinded, no_binders, one_binder, BodyFits, below_value, below_type, below_coercion}
use Rattle.fc_model.specs.TypingRules.{HasType, typed_local, typed_declared, typed_literal, typed_application, typed_lambda, typed_let, typed_case, typed_cast, typed_con}
use Rattle.fc_model.specs.TypingRules.{typed_prim, typed_fail, typed_join, typed_jump, ArgIsGiven, given_term, given_type, given_coercion, ArgsAreGiven, no_args, one_arg}
use Rattle.fc_model.specs.TypingRules.{BindsHaveTypes, no_binds, one_bind, JoinsHaveType, no_joins, one_join, AltsFit, no_alts, default_alt, literal_alt, con_alt}
use Rattle.fc_headers.specs.NamelessHeaders.{modules_in_alts, modules_in_arg, modules_in_args, modules_in_binder, modules_in_binders, modules_in_binds, modules_in_coercion, modules_in_expr, modules_in_joins, modules_in_type}
use Rattle.fc_reaching.specs.Reaching.{names_in, names_in_alts, names_in_arg, names_in_args, names_in_binds, names_in_joins}
use Rattle.fc_views.specs.Views.{AgreeInView, AreInView, ExpressionsSeeTheView, IsClosedView, KeepsItsType, View}
use Rattle.fc_views.proofs.CoercionsInView.{kind_seen, proves_seen}
use Rattle.fc_views.proofs.Contexts.{IsContextIn, IsJoinIn, context_in, either_in, with_binder_in, with_binders_in, with_binds_in, with_joins_in, with_value_in, without_joins_in}
use Rattle.fc_views.proofs.TypesInView.{each_apart, each_at, words_apart, IsBinderIn, IsGivenIn, IsTypeIn, binder_in, binders_in, constructor_in, int_in, modules_of_type, over_binder_in, taken_in, type_in}

module _ (view : View) (ms ns : Modules) (agree : AgreeInView view ms ns) (closed : IsClosedView view ms) where
  kind : {ks : List Kind} {t : NTy} {k : Kind} → HasHeadKind ms ks 0 t k → IsTypeIn view t → HasHeadKind ns ks 0 t k
  kind p v = kind_seen view ms ns agree p v

  -- BINDERS

  binder_seen : {owes : Bool} {ks : List Kind} {b : NBinder} → BinderIsKinded ms owes ks b → IsBinderIn view b → BinderIsKinded ns owes ks b
  binder_seen (value_binder k p v) h = value_binder k (kind p h) v
  binder_seen (type_binder l) h = type_binder l
  binder_seen (coercion_binder j k p q same) h = coercion_binder j k (kind p h.0) (kind q h.1) same

  binders_seen : {owes : Bool} {ks : List Kind} {bs : List NBinder} → BindersAreKinded ms owes ks bs → Each (IsBinderIn view) bs → BindersAreKinded ns owes ks bs
  binders_seen no_binders h = no_binders
  binders_seen (one_binder p more) h = one_binder (binder_seen p h.0) (binders_seen more h.1)

  body_seen : {ks : List Kind} {b : NBinder} {u : NTy} → BodyFits ms ks b u → IsTypeIn view u → BodyFits ns ks b u
  body_seen below_value h = below_value
  body_seen (below_type p) h = below_type (kind p h)
  body_seen below_coercion h = below_coercion

  -- EXPRESSIONS

  parts : (xs ys : List Word) → AreInView view (xs ++ ys) → AreInView view xs × AreInView view ys
  parts xs ys h = words_apart view xs ys h

  abbrev AreTyped : List Name → Type 0
  AreTyped names = Each (KeepsItsType ms ns) names

  names : (xs ys : List Name) → AreTyped (xs ++ ys) → AreTyped xs × AreTyped ys
  names xs ys h = each_apart (KeepsItsType ms ns) xs ys h

  mutual
    pub type_seen : {c : Context} {e : NExpr} {t : NTy} → HasType ms c e t → IsContextIn view c → AreInView view (modules_in_expr e) → AreTyped (names_in e)
        → HasType ns c e t × IsTypeIn view t
    type_seen (typed_local {c = c} {i = i} a) x v h = (typed_local a, each_at (IsTypeIn view) c.values i x.values a)
    type_seen (typed_declared {n = n} {t = t} a) x v h = (typed_declared (h.0 t a), type_in view t (closed.values n t v a))
    type_seen typed_literal x v h = (typed_literal, int_in)
    type_seen (typed_application {f = f} {a = a} s g p q takes) x v h =
        let w = parts (modules_in_expr f) (modules_in_arg a) v in
        let m = names (names_in f) (names_in_arg a) h in
        let l = type_seen p (without_joins_in view x) w.0 m.0 in
        let r = arg_seen q (without_joins_in view x) w.1 m.1 in
        (typed_application s g l.0 r.0 takes, taken_in view takes l.1 (r.1, tt))
    type_seen (typed_lambda {b = b} {e = e} k p fits) x v h =
        let w = parts (modules_in_binder b) (modules_in_expr e) v in
        let i = binder_in view b w.0 in
        let q = type_seen p (with_binder_in view b i (without_joins_in view x)) w.1 h in
        (typed_lambda (binder_seen k i) q.0 (body_seen fits q.1), over_binder_in view b i q.1)
    type_seen (typed_let {c = c} {r = r} {bs = bs} {e = e} p q) x v h =
        let w = parts (modules_in_binds bs) (modules_in_expr e) v in
        let m = names (names_in_binds bs) (names_in e) h in
        let y = with_binds_in view bs w.0 x in
        let b = binds_seen p (without_joins_in view (either_in view r y x)) w.0 m.0 in
        let s = type_seen q y w.1 m.1 in
        (typed_let b s.0, s.1)
    type_seen (typed_case {e = e} {s = s} {rt = rt} {alts = alts} j k p sk rk fit a) x v h =
        let w = parts (modules_in_expr e) (modules_in_type s ++ (modules_in_type rt ++ modules_in_alts alts)) v in
        let y = parts (modules_in_type s) (modules_in_type rt ++ modules_in_alts alts) w.1 in
        let z = parts (modules_in_type rt) (modules_in_alts alts) y.1 in
        let m = names (names_in e) (names_in_alts alts) h in
        let q = type_seen p (without_joins_in view x) w.0 m.0 in
        let i = type_in view rt z.0 in
        (typed_case j k q.0 (kind sk q.1) (kind rk i) (alts_seen fit (with_value_in view q.1 x) z.1 m.1) a, i)
    type_seen (typed_cast {e = e} {g = g} p q) x v h =
        let w = parts (modules_in_expr e) (modules_in_coercion g) v in
        let l = type_seen p (without_joins_in view x) w.0 h in
        let r = proves_seen view ms ns agree closed q x.coercions w.1 in
        (typed_cast l.0 r.0, r.2)
    type_seen (typed_con {n = n} {args = args} k gs found p long takes) x v h =
        let w = parts (in_name n.module) (modules_in_args args) v in
        let q = args_seen p (without_joins_in view x) w.1 h in (
          typed_con k gs (sym (agree.constructors n.module n.text w.0) ∙ found) q.0 long takes,
          taken_in view takes (constructor_in view n k w.0 (closed.constructors n k w.0 found)) q.1,
        )
    type_seen (typed_prim {a = a} {b = b} p i q j) x v h =
        let w = parts (modules_in_expr a) (modules_in_expr b ++ []) v in
        let y = parts (modules_in_expr b) [] w.1 in
        let m = names (names_in a) (names_in b ++ []) h in
        let l = names (names_in b) [] m.1 in
        let s = type_seen p (without_joins_in view x) w.0 m.0 in
        let t = type_seen q (without_joins_in view x) y.0 l.0 in
        (typed_prim s.0 i t.0 j, int_in)
    type_seen (typed_fail {t = t} k p a) x v h = let i = type_in view t v in (typed_fail k (kind p i) a, i)
    type_seen (typed_join {r = r} {t = t} {js = js} {e = e} k p q s a) x v h =
        let w = parts (modules_in_type t) (modules_in_joins js ++ modules_in_expr e) v in
        let y = parts (modules_in_joins js) (modules_in_expr e) w.1 in
        let m = names (names_in_joins js) (names_in e) h in
        let i = type_in view t w.0 in
        let z = with_joins_in view t js i y.0 x in
        let b = type_seen s z y.1 m.1 in
        (typed_join k (kind p i) (joins_seen q (either_in view r z x) y.0 m.0) b.0 a, i)
    type_seen (typed_jump {c = c} {i = i} j gs t at p long takes) x v h =
        let q = args_seen p (without_joins_in view x) v h in
        let w = each_at (IsJoinIn view) c.joins i x.joins at in
        (typed_jump j gs t at q.0 long takes, w.1)

    arg_seen : {c : Context} {a : NArg} {g : Given} → ArgIsGiven ms c a g → IsContextIn view c → AreInView view (modules_in_arg a) → AreTyped (names_in_arg a)
        → ArgIsGiven ns c a g × IsGivenIn view g
    arg_seen (given_term p) x v h = let q = type_seen p x v h in (given_term q.0, tt)
    arg_seen (given_type {t = t} p) x v h = let i = type_in view t v in (given_type (kind p i), i)
    arg_seen (given_coercion p) x v h = let q = proves_seen view ms ns agree closed p x.coercions v in (given_coercion q.0, tt)

    args_seen : {c : Context} {args : NArgs} {gs : List Given} → ArgsAreGiven ms c args gs → IsContextIn view c → AreInView view (modules_in_args args)
        → AreTyped (names_in_args args) → ArgsAreGiven ns c args gs × Each (IsGivenIn view) gs
    args_seen no_args x v h = (no_args, tt)
    args_seen (one_arg {a = a} {rest = rest} p more) x v h =
        let w = parts (modules_in_arg a) (modules_in_args rest) v in
        let m = names (names_in_arg a) (names_in_args rest) h in
        let q = arg_seen p x w.0 m.0 in
        let qs = args_seen more x w.1 m.1 in
        (one_arg q.0 qs.0, (q.1, qs.1))

    binds_seen : {c : Context} {r : Bool} {bs : NBinds} → BindsHaveTypes ms c r bs → IsContextIn view c → AreInView view (modules_in_binds bs)
        → AreTyped (names_in_binds bs) → BindsHaveTypes ns c r bs
    binds_seen no_binds x v h = no_binds
    binds_seen (one_bind {t = t} {e = e} {rest = rest} k p a q fits more) x v h =
        let w = parts (modules_in_type t) (modules_in_expr e ++ modules_in_binds rest) v in
        let y = parts (modules_in_expr e) (modules_in_binds rest) w.1 in
        let m = names (names_in e) (names_in_binds rest) h in
        let s = type_seen q x y.0 m.0 in
        one_bind k (kind p (type_in view t w.0)) a s.0 fits (binds_seen more x y.1 m.1)

    joins_seen : {c : Context} {t : NTy} {js : NJoins} → JoinsHaveType ms c t js → IsContextIn view c → AreInView view (modules_in_joins js)
        → AreTyped (names_in_joins js) → JoinsHaveType ns c t js
    joins_seen no_joins x v h = no_joins
    joins_seen (one_join {ps = ps} {e = e} {rest = rest} k p more) x v h =
        let w = parts (modules_in_binders ps) (modules_in_expr e ++ modules_in_joins rest) v in
        let y = parts (modules_in_expr e) (modules_in_joins rest) w.1 in
        let m = names (names_in e) (names_in_joins rest) h in
        let i = binders_in view ps w.0 in
        let s = type_seen p (with_binders_in view ps i x) y.0 m.0 in
        one_join (binders_seen k i) s.0 (joins_seen more x y.1 m.1)

    alts_seen : {c : Context} {s rt : NTy} {b : Before} {alts : NAlts} → AltsFit ms c s rt b alts → IsContextIn view c → AreInView view (modules_in_alts alts)
        → AreTyped (names_in_alts alts) → AltsFit ns c s rt b alts
    alts_seen no_alts x v h = no_alts
    alts_seen (default_alt {bs = bs} {e = e} {rest = rest} k p order more) x v h =
        let w = parts (modules_in_binders bs) (modules_in_expr e ++ modules_in_alts rest) v in
        let y = parts (modules_in_expr e) (modules_in_alts rest) w.1 in
        let m = names (names_in e) (names_in_alts rest) h in
        let i = binders_in view bs w.0 in
        let q = type_seen p (with_binders_in view bs i x) y.0 m.0 in
        default_alt (binders_seen k i) q.0 order (alts_seen more x y.1 m.1)
    alts_seen (literal_alt {bs = bs} {e = e} {rest = rest} k p int order more) x v h =
        let w = parts (modules_in_binders bs) (modules_in_expr e ++ modules_in_alts rest) v in
        let y = parts (modules_in_expr e) (modules_in_alts rest) w.1 in
        let m = names (names_in e) (names_in_alts rest) h in
        let i = binders_in view bs w.0 in
        let q = type_seen p (with_binders_in view bs i x) y.0 m.0 in
        literal_alt (binders_seen k i) q.0 int order (alts_seen more x y.1 m.1)
    alts_seen (con_alt {bs = bs} {n = n} {e = e} {rest = rest} k kinds p found is order fits more) x v h =
        let u = parts (in_name n.module) (modules_in_binders bs ++ (modules_in_expr e ++ modules_in_alts rest)) v in
        let w = parts (modules_in_binders bs) (modules_in_expr e ++ modules_in_alts rest) u.1 in
        let y = parts (modules_in_expr e) (modules_in_alts rest) w.1 in
        let m = names (names_in e) (names_in_alts rest) h in
        let i = binders_in view bs w.0 in
        let q = type_seen p (with_binders_in view bs i x) y.0 m.0 in
        con_alt k (binders_seen kinds i) q.0 (sym (agree.constructors n.module n.text u.0) ∙ found) is order fits (alts_seen more x y.1 m.1)

-- THE LAW

pub expressions_see_the_view : ExpressionsSeeTheView
expressions_see_the_view view ms ns agree closed c e t x v h typed =
    let q = type_seen view ms ns agree closed typed (context_in view c x) v (recursion_from_All (KeepsItsType ms ns) (names_in e) h) in
    (q.0, modules_of_type view q.1)
