-- Rows that keep types by what is put in for variables, and by a rule or two.
use Rattle.std.proofs.Common.{◌≡◌, Bool, true, false, not, ◌||◌, List, [], ◌∷◌, Some, sym, subst}
use Rattle.fc_syntax.specs.declared.ty.Role.{Role}
use Rattle.fc_syntax.specs.Tree.{Kind}
use Rattle.fc_model.specs.Calling.{Given, Takes, atom_fits, function_ends, is_unlifted}
use Rattle.fc_model.specs.Coercing.{ends}
use Rattle.fc_model.specs.CoercingRules.{Proves, proves_trans}
use Rattle.fc_model.specs.Kinding.{Modules, HasKind, same_type}
use Rattle.fc_model.specs.Nameless.{NTy, NTFun, NCo, NBValue, NBType, NBCo, NATerm, NAType, NACo, NBound}
use Rattle.fc_model.specs.Nameless.{NExpr, NApp, NLam, NLet, NCase, NCast, NFail, NoNBinds, MoreNBinds}
use Rattle.fc_model.specs.Replacing.{coercion_alone, renamed, replaced, type_alone, value_alone}
use Rattle.fc_model.specs.Typing.{Context, is_atom, type_read_off, with_value, without_joins}
use Rattle.fc_model.specs.TypingLaws.{AreDeclaredKinded, IsValueType}
use Rattle.fc_model.specs.TypingRules.{BinderIsKinded, value_binder, type_binder, HasType, typed_application, typed_lambda, typed_let, typed_case, typed_cast, typed_fail}
use Rattle.fc_model.specs.TypingRules.{ArgIsGiven, given_term, given_type, given_coercion, no_binds, one_bind}
use Rattle.fc_model.proofs.ArgumentsFit.{coercion_taken, nothing_taken, term_taken, type_taken}
use Rattle.fc_model.proofs.CallsKept.{from_some_inv}
use Rattle.fc_model.proofs.CoercionsAre.{ends_are_given}
use Rattle.fc_model.proofs.ReplacedKept.{types_among_joins, types_at_a_coercion, types_at_a_type, types_at_a_value}
use Rattle.fc_model.proofs.Sameness.{same_type_eq}
use Rattle.fc_model.proofs.TypesKinded.{types_have_kinds}
use Rattle.fc_model.proofs.TypesRead.{type_is_read_off}
use Rattle.fc_rows.specs.Changing.{made}
use Rattle.fc_row_types.specs.TypesKept.{Holds, KeepsTypes}
use Rattle.fc_rows.specs.Shrinking.{beta, cast_cast, cast_refl, fail_absorb, if_equal, is_trivial, let_atom, let_of, let_once}
use Rattle.fc_rows.specs.Surroundings.{Surroundings}
use Rattle.fc_row_types.proofs.Holding.{closed}
use Rattle.fc_row_types.proofs.Made.{if_some_inv, none_some, some_some}

pub atom_if_unlifted : (i a : Bool) → not i || a ≡ true → i ≡ true → a ≡ true
atom_if_unlifted true a h e = h
atom_if_unlifted false a h e = absurd cc

module _ (ms : Modules) (declared : AreDeclaredKinded ms) where
  -- a let of one binder that is not recursive
  pub let_typed : (c : Context) (x : NTy) (a b : NExpr) (t : NTy) → IsValueType ms c.kinds x → HasType ms (without_joins c) a x → atom_fits x (is_atom a) ≡ true
      → HasType ms (with_value x c) b t → HasType ms c (let_of x a b) t
  let_typed c x a b t v p fits q = typed_let {r = false} (one_bind v.0 v.1 v.2 p fits no_binds) q

  among : (c : Context) (e : NExpr) (t : NTy) → HasType ms (without_joins c) e t → HasType ms c e t
  among c e t h = types_among_joins ms (closed ms declared) c e t h

  -- BETA

  value_kind : (ks : List Kind) (x : NTy) → BinderIsKinded ms true ks (NBValue x) → IsValueType ms ks x
  value_kind ks x (value_binder k p v) = (k, p, v)

  beta_value : (c : Context) (x : NTy) (b a : NExpr) (t u : NTy) (g : Given) → HasType ms (without_joins c) (NLam (NBValue x) b) u → ArgIsGiven ms (without_joins c) (NATerm a) g
      → Takes u (g ∷ []) t → HasType ms c (let_of x a b) t
  beta_value c x b a t u g (typed_lambda {u = w} k p fits) (given_term q) takes =
      let h = term_taken takes in
      let_typed c x a b t (value_kind c.kinds x k) (subst (λ y. HasType ms (without_joins c) a y) h.0 q) h.1
      (subst (λ y. HasType ms (with_value x c) b y) (sym (nothing_taken h.2)) (among (with_value x c) b w p))

  beta_type : (c : Context) (k : Kind) (b : NExpr) (a t u : NTy) (g : Given) → HasType ms (without_joins c) (NLam (NBType k) b) u → ArgIsGiven ms (without_joins c) (NAType a) g
      → Takes u (g ∷ []) t → HasType ms c (renamed (type_alone a) b) t
  beta_type c k b a t u g (typed_lambda {u = w} (type_binder l) p fits) (given_type q) takes =
      let h = type_taken takes in
      among c _ t (subst (λ y. HasType ms (without_joins c) (renamed (type_alone a) b) y) (sym (nothing_taken h.1))
      (types_at_a_type ms (closed ms declared) (without_joins c) k a l (subst (λ j. HasKind ms c.kinds a j) h.0 q) b w p))

  beta_coercion : (c : Context) (o : Role) (l r : NTy) (b : NExpr) (co : NCo) (t u : NTy) (g : Given) → HasType ms (without_joins c) (NLam (NBCo o l r) b) u
      → ArgIsGiven ms (without_joins c) (NACo co) g → Takes u (g ∷ []) t → HasType ms c (replaced (coercion_alone co) b) t
  beta_coercion c o l r b co t u g (typed_lambda {u = w} k p fits) (given_coercion q) takes =
      let h = coercion_taken takes in
      among c _ t (subst (λ y. HasType ms (without_joins c) (replaced (coercion_alone co) b) y) (sym (nothing_taken h.1))
      (types_at_a_coercion ms (closed ms declared) (without_joins c) (ends o l r) co (subst (λ e. Proves ms c.kinds c.coercions co e.role e.left e.right) h.0 q) b w p))

  pub beta_keeps : KeepsTypes ms (beta ms)
  beta_keeps s g (NApp (NLam (NBValue x) b) (NATerm a)) f h t (typed_application u gv p q takes) =
      let m = from_some_inv (λ u. made (λ p. let_of p.0 a b) (function_ends u)) _ f h in
      let n = from_some_inv (λ u. Some (NTFun x u)) (type_read_off ms (with_value x s.context) b) m.0 m.1 in
      let same = subst (λ u. made (λ p. let_of p.0 a b) (function_ends u) ≡ Some f) (sym (some_some n.2)) m.2 in
      subst (λ y. HasType ms s.context y t) (some_some same) (beta_value s.context x b a t u gv p q takes)
  beta_keeps s g (NApp (NLam (NBType k) b) (NAType a)) f h t (typed_application u gv p q takes) =
      subst (λ y. HasType ms s.context y t) (some_some h) (beta_type s.context k b a t u gv p q takes)
  beta_keeps s g (NApp (NLam (NBCo o l r) b) (NACo co)) f h t (typed_application u gv p q takes) =
      subst (λ y. HasType ms s.context y t) (some_some h) (beta_coercion s.context o l r b co t u gv p q takes)
  beta_keeps s g e f h t typed = none_some h

  -- LETS

  put_for : (c : Context) (x : NTy) (a b : NExpr) (t : NTy) → HasType ms c (let_of x a b) t → HasType ms c (replaced (value_alone a) b) t
  put_for c x a b t (typed_let (one_bind k kind v p fits no_binds) q) =
      types_at_a_value ms (closed ms declared) c x a p (atom_if_unlifted (is_unlifted x) (is_atom a) fits) b t q

  pub let_atom_keeps : KeepsTypes ms (λ s e. let_atom e)
  let_atom_keeps s g (NLet false (MoreNBinds (NBound x a) NoNBinds) b) f h t typed =
      let m = if_some_inv (is_trivial a) _ f h in
      subst (λ y. HasType ms s.context y t) (some_some m.1) (put_for s.context x a b t typed)
  let_atom_keeps s g e f h t typed = none_some h

  pub let_once_keeps : KeepsTypes ms (λ s e. let_once e)
  let_once_keeps s g (NLet false (MoreNBinds (NBound x a) NoNBinds) b) f h t typed =
      let m = if_some_inv _ _ f h in
      subst (λ y. HasType ms s.context y t) (some_some m.1) (put_for s.context x a b t typed)
  let_once_keeps s g e f h t typed = none_some h

  -- CASTS AND FAILURES

  pub cast_cast_keeps : KeepsTypes ms (λ s e. cast_cast e)
  cast_cast_keeps s g (NCast (NCast e a) b) f h t (typed_cast (typed_cast p q) r) = subst (λ y. HasType ms s.context y t) (some_some h) (typed_cast p (proves_trans q r))
  cast_cast_keeps s g e f h t typed = none_some h

  -- what is of the type of the whole
  fails : (c : Context) (t : NTy) → IsValueType ms c.kinds t → HasType ms c (NFail t) t
  fails c t v = typed_fail v.0 v.1 v.2

  fails_as : (s : Surroundings) → Holds ms s → (e f : NExpr) → made NFail (type_read_off ms s.context e) ≡ Some f → (t : NTy) → HasType ms s.context e t → HasType ms s.context f t
  fails_as s g e f h t typed =
      let same = subst (λ o. made NFail o ≡ Some f) (type_is_read_off ms typed) h in
      subst (λ y. HasType ms s.context y t) (some_some same) (fails s.context t (types_have_kinds ms declared s.context g.kinded e t typed))

  pub fail_absorb_keeps : KeepsTypes ms (fail_absorb ms)
  fail_absorb_keeps s g (NApp (NFail u) a) f h t typed = fails_as s g (NApp (NFail u) a) f h t typed
  fail_absorb_keeps s g (NCase (NFail u) xt rt alts) f h t (typed_case j k p sk rk fit v) = subst (λ y. HasType ms s.context y rt) (some_some h) (fails s.context rt (k, rk, v))
  fail_absorb_keeps s g (NCast (NFail u) co) f h t typed = fails_as s g (NCast (NFail u) co) f h t typed
  fail_absorb_keeps s g e f h t typed = none_some h

  pub cast_refl_keeps : KeepsTypes ms (cast_refl ms)
  cast_refl_keeps s g (NCast e co) f h t (typed_cast {s = u} p q) =
      let same = subst (λ r. if_equal e r ≡ Some f) (ends_are_given ms q) h in
      let m = if_some_inv (same_type u t) (Some e) f same in
      subst (λ y. HasType ms s.context y t) (some_some m.1) (subst (λ x. HasType ms s.context e x) (same_type_eq u t m.0) (among s.context e u p))
  cast_refl_keeps s g e f h t typed = none_some h
