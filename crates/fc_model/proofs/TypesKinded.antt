-- What has a type has one of kind `*` or `#`.
use Rattle.std.proofs.Common.{◌≡◌, ℕ, zero, suc, Bool, true, false, if◌then◌else◌, List, [], ◌∷◌, map, Ok, refl, sym, subst}
use Rattle.fc_syntax.specs.declared.ty.Role.{Role}
use Rattle.fc_syntax.specs.declared.ty.Role.TheVariants.{R}
use Rattle.fc_syntax.specs.Tree.{Kind, KStar, KHash}
use Rattle.fc_model.specs.Calling.{Given, GivenTerm, GivenType, GivenCoercion, Takes, takes_nothing, takes_term, takes_type, takes_coercion, over_binder}
use Rattle.fc_model.specs.Coercing.{Ends, ends, shifted_ends}
use Rattle.fc_model.specs.CoercionLaws.{AreEndsKinded, HaveOneKind}
use Rattle.fc_model.specs.Faulting.{at_distance}
use Rattle.fc_model.specs.Kinding.{Modules, HasKind, is_value_kind, kind_coforall, kind_forall, kind_function, kind_int}
use Rattle.fc_model.specs.Nameless.{NTy, NTVar, NTFun, NTForall, NTCoForall}
use Rattle.fc_model.specs.Nameless.{NExpr, NBinder, NBinds, NoNBinds, MoreNBinds, NBound, NJoins, NoNJoins, MoreNJoins, NJoined, NArg, NArgs}
use Rattle.fc_model.specs.Substituting.{instantiated, shifted_type}
use Rattle.fc_model.specs.Typing.{Context, JoinPoint, join_point, shifted_join, with_binder, with_binds, with_coercion, with_join, with_joins, with_type, with_value, without_joins}
use Rattle.fc_model.specs.TypingLaws.{IsContextKinded, AreDeclaredKinded, IsValueType, TypesHaveKinds}
use Rattle.fc_model.specs.TypingRules.{BinderIsKinded, value_binder, type_binder, coercion_binder, BodyFits, below_type}
use Rattle.fc_model.specs.TypingRules.{HasType, typed_local, typed_declared, typed_literal, typed_application, typed_lambda, typed_let, typed_case, typed_cast}
use Rattle.fc_model.specs.TypingRules.{typed_con, typed_prim, typed_fail, typed_join, typed_jump}
use Rattle.fc_model.specs.TypingRules.{ArgIsGiven, given_term, given_type, given_coercion, ArgsAreGiven, no_args, one_arg, BindsHaveTypes, no_binds, one_bind}
use Rattle.fc_model.proofs.EndsKept.{mapped_inv}
use Rattle.fc_model.proofs.EndsKinded.{ends_have_one_kind}
use Rattle.fc_model.proofs.KindedIs.{kind_is_one}
use Rattle.fc_model.proofs.KindsKept.{instantiating_keeps_kinds, shifting_keeps_kinds, substitution_keeps_kinds}
use Rattle.fc_model.proofs.Parts.{err_ok, ok_ok}
use Rattle.fc_model.proofs.Sameness.{same_kind_eq}
use Rattle.fc_model.proofs.Substitutions.{variables_for_themselves}

module _ (ms : Modules) where
  -- what has a kind outside of all binders has it below any
  pub kinded_anywhere : (ks : List Kind) (t : NTy) (k : Kind) → HasKind ms [] t k → HasKind ms ks t k
  kinded_anywhere ks t k h =
      subst (λ x. HasKind ms ks x k) (variables_for_themselves t) (substitution_keeps_kinds ms [] ks NTVar (λ i j e. err_ok e) 0 t k h)

  -- CALLS

  -- an argument that is a type has the kind that it is given with
  pub data AreGivenKinded (ks : List Kind) : List Given → Type 0 where
    none_kinded : AreGivenKinded ks []
    term_kinded : {t : NTy} {atom : Bool} {gs : List Given} → AreGivenKinded ks gs → AreGivenKinded ks (GivenTerm t atom ∷ gs)
    type_kinded : {t : NTy} {k : Kind} {gs : List Given} → HasKind ms ks t k → AreGivenKinded ks gs → AreGivenKinded ks (GivenType t k ∷ gs)
    coercion_kinded : {r : Role} {t u : NTy} {gs : List Given} → AreGivenKinded ks gs → AreGivenKinded ks (GivenCoercion r t u ∷ gs)

  pub given_kinded : {c : Context} {a : NArg} {g : Given} {gs : List Given} → ArgIsGiven ms c a g → AreGivenKinded c.kinds gs → AreGivenKinded c.kinds (g ∷ gs)
  given_kinded (given_term p) rest = term_kinded rest
  given_kinded (given_type p) rest = type_kinded p rest
  given_kinded (given_coercion p) rest = coercion_kinded rest

  pub all_given_kinded : {c : Context} {args : NArgs} {gs : List Given} → ArgsAreGiven ms c args gs → AreGivenKinded c.kinds gs
  all_given_kinded no_args = none_kinded
  all_given_kinded (one_arg p rest) = given_kinded p (all_given_kinded rest)

  pub value_result : (ks : List Kind) (s r : NTy) → IsValueType ms ks (NTFun s r) → IsValueType ms ks r
  value_result ks s r (k, kind_function i j p q v w, x) = (j, q, w)

  pub value_instance : (ks : List Kind) (k : Kind) (u r : NTy) → HasKind ms ks u k → IsValueType ms ks (NTForall k r) → IsValueType ms ks (instantiated u r)
  value_instance ks k u r h (j, kind_forall l p, x) = (KStar, instantiating_keeps_kinds ms ks k KStar u r h p, refl)

  pub value_behind : (ks : List Kind) (o : Role) (s t r : NTy) → IsValueType ms ks (NTCoForall o s t r) → IsValueType ms ks r
  value_behind ks o s t r (k, kind_coforall i j p q v w, x) = (j, v, w)

  -- what takes arguments is of the type of a value at last, if it was one at first
  pub called_kinded : (ks : List Kind) {t u : NTy} {gs : List Given} → Takes t gs u → AreGivenKinded ks gs → IsValueType ms ks t → IsValueType ms ks u
  called_kinded ks takes_nothing none_kinded v = v
  called_kinded ks (takes_term {s = s} {r = r} fits rest) (term_kinded hs) v = called_kinded ks rest hs (value_result ks s r v)
  called_kinded ks (takes_type {u = u} {r = r} {k = k} rest) (type_kinded h hs) v = called_kinded ks rest hs (value_instance ks k u r h v)
  called_kinded ks (takes_coercion {o = o} {a = a} {b = b} {r = r} rest) (coercion_kinded hs) v = called_kinded ks rest hs (value_behind ks o a b r v)

  -- CONTEXTS

  pub without_joins_kinded : (c : Context) → IsContextKinded ms c → IsContextKinded ms (without_joins c)
  without_joins_kinded c f = record { coercions = f.coercions; values = f.values; joins = λ i j h. err_ok h }

  pub value_kinded : (c : Context) (t : NTy) → IsContextKinded ms c → IsValueType ms c.kinds t → IsContextKinded ms (with_value t c)
  value_kinded c t f v = record { coercions = f.coercions; values = here; joins = f.joins }
    where
      here : (i : ℕ) (u : NTy) → at_distance (t ∷ c.values) i ≡ Ok u → IsValueType ms c.kinds u
      here zero u h = subst (IsValueType ms c.kinds) (ok_ok h) v
      here (suc i) u h = f.values i u h

  pub coercion_kinded_behind : (c : Context) (p : Ends) → IsContextKinded ms c → HaveOneKind ms c.kinds p.left p.right → IsContextKinded ms (with_coercion p c)
  coercion_kinded_behind c p f v = record { coercions = here; values = f.values; joins = f.joins }
    where
      here : AreEndsKinded ms c.kinds (p ∷ c.coercions)
      here zero e h = subst (λ x. HaveOneKind ms c.kinds x.left x.right) (ok_ok h) v
      here (suc i) e h = f.coercions i e h

  pub shifted_value : (ks : List Kind) (k : Kind) (t : NTy) → IsValueType ms ks t → IsValueType ms (k ∷ ks) (shifted_type t)
  shifted_value ks k t v = (v.0, shifting_keeps_kinds ms ks k 0 t v.0 v.1, v.2)

  pub type_kinded_behind : (c : Context) (k : Kind) → IsContextKinded ms c → IsContextKinded ms (with_type k c)
  type_kinded_behind c k f = record { coercions = ends_behind; values = here; joins = there }
    where
      ends_behind : AreEndsKinded ms (k ∷ c.kinds) (map shifted_ends c.coercions)
      ends_behind i e h =
          let p = mapped_inv shifted_ends c.coercions i e h in
          let q = f.coercions i p.0 p.1 in
          subst (λ x. HaveOneKind ms (k ∷ c.kinds) x.left x.right) p.2
          (q.0, shifting_keeps_kinds ms c.kinds k 0 p.0.left q.0 q.1, shifting_keeps_kinds ms c.kinds k 0 p.0.right q.0 q.2)

      here : (i : ℕ) (u : NTy) → at_distance (map shifted_type c.values) i ≡ Ok u → IsValueType ms (k ∷ c.kinds) u
      here i u h =
          let p = mapped_inv shifted_type c.values i u h in
          subst (IsValueType ms (k ∷ c.kinds)) p.2 (shifted_value c.kinds k p.0 (f.values i p.0 p.1))

      there : (i : ℕ) (j : JoinPoint) → at_distance (map shifted_join c.joins) i ≡ Ok j → IsValueType ms (k ∷ c.kinds) j.result
      there i j h =
          let p = mapped_inv shifted_join c.joins i j h in
          subst (λ x. IsValueType ms (k ∷ c.kinds) x.result) p.2 (shifted_value c.kinds k p.0.result (f.joins i p.0 p.1))

  pub join_kinded : (c : Context) (t : NTy) (ps : List NBinder) → IsContextKinded ms c → IsValueType ms c.kinds t → IsContextKinded ms (with_join (join_point t ps) c)
  join_kinded c t ps f v = record { coercions = f.coercions; values = f.values; joins = here }
    where
      here : (i : ℕ) (j : JoinPoint) → at_distance (join_point t ps ∷ c.joins) i ≡ Ok j → IsValueType ms c.kinds j.result
      here zero j h = subst (λ x. IsValueType ms c.kinds x.result) (ok_ok h) v
      here (suc i) j h = f.joins i j h

  pub joins_kinded : (js : NJoins) (c : Context) (t : NTy) → IsContextKinded ms c → IsValueType ms c.kinds t → IsContextKinded ms (with_joins t js c)
  joins_kinded NoNJoins c t f v = f
  joins_kinded (MoreNJoins (NJoined ps e) rest) c t f v = joins_kinded rest (with_join (join_point t ps) c) t (join_kinded c t ps f v) v

  -- the kinds behind binds and join points are those before them
  pub kinds_of_binds : (bs : NBinds) (c : Context) → (with_binds bs c).kinds ≡ c.kinds
  kinds_of_binds NoNBinds c = refl
  kinds_of_binds (MoreNBinds (NBound t e) rest) c = kinds_of_binds rest (with_value t c)

  pub kinds_of_joins : (js : NJoins) (c : Context) (t : NTy) → (with_joins t js c).kinds ≡ c.kinds
  kinds_of_joins NoNJoins c t = refl
  kinds_of_joins (MoreNJoins (NJoined ps e) rest) c t = kinds_of_joins rest (with_join (join_point t ps) c) t

  pub kinds_among_binds : (o : Bool) (bs : NBinds) (c : Context) → (without_joins (if o then with_binds bs c else c)).kinds ≡ c.kinds
  kinds_among_binds true bs c = kinds_of_binds bs c
  kinds_among_binds false bs c = refl

  pub binds_kinded : (c d : Context) (o : Bool) (bs : NBinds) → BindsHaveTypes ms d o bs → d.kinds ≡ c.kinds → IsContextKinded ms c → IsContextKinded ms (with_binds bs c)
  binds_kinded c d o bs no_binds e f = f
  binds_kinded c d o bs (one_bind {t = t} {rest = rest} k p v q fits more) e f =
      binds_kinded (with_value t c) d o rest more e (value_kinded c t f (k, subst (λ ks. HasKind ms ks t k) e p, v))

  -- EXPRESSIONS

  pub binder_kinded : (c : Context) (b : NBinder) → BinderIsKinded ms true c.kinds b → IsContextKinded ms c → IsContextKinded ms (with_binder b c)
  binder_kinded c b (value_binder {t = t} k p v) f = value_kinded c t f (k, p, v)
  binder_kinded c b (type_binder {k = k} l) f = type_kinded_behind c k f
  binder_kinded c b (coercion_binder {r = r} {t = t} {u = u} j k p q same) f =
      coercion_kinded_behind c (ends r t u) f (j, p, subst (HasKind ms c.kinds u) (sym (same_kind_eq j k same)) q)

  pub lambda_kinded : (c : Context) (b : NBinder) (u : NTy) → BinderIsKinded ms true c.kinds b → BodyFits ms c.kinds b u → IsValueType ms (with_binder b c).kinds u
      → IsValueType ms c.kinds (over_binder b u)
  lambda_kinded c b u (value_binder k p v) fits w = (KStar, kind_function k w.0 p w.1 v w.2, refl)
  lambda_kinded c b u (type_binder l) (below_type p) w = (KStar, kind_forall l p, refl)
  lambda_kinded c b u (coercion_binder {u = v} j k p q same) fits w =
      (KStar, kind_coforall j w.0 p (subst (HasKind ms c.kinds v) (sym (same_kind_eq j k same)) q) w.1 w.2, refl)

  -- a type of the kind of another that is a type of values
  pub value_alike : (ks : List Kind) (s t : NTy) → HaveOneKind ms ks s t → IsValueType ms ks s → IsValueType ms ks t
  value_alike ks s t (k, p, q) v = (k, q, subst (λ x. is_value_kind x ≡ true) (kind_is_one ms ks 0 s v.0 k v.1 p) v.2)

  module _ (declared : AreDeclaredKinded ms) where
    types_kinded : (c : Context) → IsContextKinded ms c → (e : NExpr) (t : NTy) → HasType ms c e t → IsValueType ms c.kinds t
    types_kinded c f e t (typed_local {i = i} h) = f.values i t h
    types_kinded c f e t (typed_declared {n = n} h) = (KStar, kinded_anywhere c.kinds t KStar (declared.values n t h), refl)
    types_kinded c f e t typed_literal = (KHash, kind_int, refl)
    types_kinded c f e t (typed_application {f = a} s g p q takes) =
        called_kinded c.kinds takes (given_kinded q none_kinded) (types_kinded (without_joins c) (without_joins_kinded c f) a s p)
    types_kinded c f e t (typed_lambda {b = b} {e = a} {u = u} k p fits) =
        lambda_kinded (without_joins c) b u k fits (types_kinded (with_binder b (without_joins c)) (binder_kinded (without_joins c) b k (without_joins_kinded c f)) a u p)
    types_kinded c f e t (typed_let {r = o} {bs = bs} {e = a} p q) =
        subst (λ ks. IsValueType ms ks t) (kinds_of_binds bs c) (types_kinded (with_binds bs c) (binds_kinded c _ o bs p (kinds_among_binds o bs c) f) a t q)
    types_kinded c f e t (typed_case j k p s r fit v) = (k, r, v)
    types_kinded c f e t (typed_cast {e = a} {g = g} {s = s} p q) =
        value_alike c.kinds s t (ends_have_one_kind ms declared.axioms c.kinds c.coercions f.coercions g R s t q) (types_kinded (without_joins c) (without_joins_kinded c f) a s p)
    types_kinded c f e t (typed_con {n = n} k gs found p long takes) =
        called_kinded c.kinds takes (all_given_kinded p) (KStar, kinded_anywhere c.kinds _ KStar (declared.constructors n k found), refl)
    types_kinded c f e t (typed_prim p x q y) = (KHash, kind_int, refl)
    types_kinded c f e t (typed_fail k p v) = (k, p, v)
    types_kinded c f e t (typed_join k p js q v) = (k, p, v)
    types_kinded c f e t (typed_jump {i = i} j gs u at p long takes) = f.joins i j at

pub types_have_kinds : TypesHaveKinds
types_have_kinds ms declared c f e t h = types_kinded ms declared c f e t h
