-- A case that only evaluates, on what is evaluated.
use Rattle.std.proofs.Common.{◌≡◌, Bool, true, false, not, ◌&&◌, ◌||◌, if◌then◌else◌, List, [], Some, None, refl, sym, subst}
use Rattle.std.proofs.lemmas.Bool.{and_parts}
use Rattle.fc_syntax.specs.declared.ty.Role.{Role}
use Rattle.fc_syntax.specs.declared.ty.Role.TheVariants.{R}
use Rattle.fc_syntax.specs.declared.expr.Head.TheVariants as head
use Rattle.fc_syntax.specs.Tree.{Kind, KStar}
use Rattle.fc_model.specs.Calling.{is_unlifted}
use Rattle.fc_model.specs.Kinding.{Modules, HasKind, kind_coforall, kind_forall, kind_function}
use Rattle.fc_model.specs.Nameless.{NTy, NTFun, NTForall, NTCoForall, NBValue, NBType, NBCo, NBranch, NoNAlts, MoreNAlts}
use Rattle.fc_model.specs.Nameless.{NExpr, NLocal, NVar, NLit, NLam, NCase, NCast, NCon}
use Rattle.fc_model.specs.Replacing.{replaced, value_alone}
use Rattle.fc_model.specs.Typing.{Start, Context, is_atom, with_value, without_joins}
use Rattle.fc_model.specs.TypingLaws.{AreDeclaredKinded, IsContextKinded, IsValueType}
use Rattle.fc_model.specs.TypingRules.{AltsFit, default_alt, HasType, typed_lambda, typed_case, typed_cast, typed_con}
use Rattle.fc_model.proofs.CallsKept.{raised_by_nothing}
use Rattle.fc_model.proofs.EndsKinded.{ends_have_one_kind}
use Rattle.fc_model.proofs.KindedIs.{kind_is_one}
use Rattle.fc_model.proofs.ReplacedKept.{types_at_a_value, kind_says_lifted}
use Rattle.fc_model.proofs.Sameness.{false_true}
use Rattle.fc_model.proofs.TypesKinded.{types_have_kinds, without_joins_kinded}
use Rattle.fc_row_types.specs.TypesKept.{KeepsTypes}
use Rattle.fc_rows.specs.Shrinking.{case_evaluated, is_con, is_evaluated_atom, let_of}
use Rattle.fc_rows.specs.Surroundings.{Surroundings, is_value}
use Rattle.fc_row_types.proofs.DataTypes.{constructed_star}
use Rattle.fc_row_types.proofs.Holding.{closed}
use Rattle.fc_row_types.proofs.Made.{if_some_inv, none_some, some_some}
use Rattle.fc_row_types.proofs.SimpleRowsKept.{let_typed}

any_fits : (i : Bool) → i ≡ false → (a : Bool) → not i || a ≡ true
any_fits true h a = false_true (sym h)
any_fits false h a = refl

module _ (ms : Modules) (declared : AreDeclaredKinded ms) where
  function_star : (ks : List Kind) (t u : NTy) → IsValueType ms ks (NTFun t u) → HasKind ms ks (NTFun t u) KStar
  function_star ks t u (k, kind_function i j p q v w, x) = kind_function i j p q v w

  forall_star : (ks : List Kind) (k : Kind) (t : NTy) → IsValueType ms ks (NTForall k t) → HasKind ms ks (NTForall k t) KStar
  forall_star ks k t (j, kind_forall l p, x) = kind_forall l p

  coforall_star : (ks : List Kind) (r : Role) (t u v : NTy) → IsValueType ms ks (NTCoForall r t u v) → HasKind ms ks (NTCoForall r t u v) KStar
  coforall_star ks r t u v (k, kind_coforall i j p q w x, y) = kind_coforall i j p q w x

  -- a value is lifted
  pub value_star : (c : Context) → IsContextKinded ms c → (e : NExpr) (t : NTy) → is_value e ≡ true → HasType ms c e t → HasKind ms c.kinds t KStar
  value_star c f (NLam (NBValue x) b) t v (typed_lambda {u = u} k p fits) =
      function_star c.kinds x u (types_have_kinds ms declared c f (NLam (NBValue x) b) (NTFun x u) (typed_lambda k p fits))
  value_star c f (NLam (NBType j) b) t v (typed_lambda {u = u} k p fits) =
      forall_star c.kinds j u (types_have_kinds ms declared c f (NLam (NBType j) b) (NTForall j u) (typed_lambda k p fits))
  value_star c f (NLam (NBCo r x y) b) t v (typed_lambda {u = u} k p fits) =
      coforall_star c.kinds r x y u (types_have_kinds ms declared c f (NLam (NBCo r x y) b) (NTCoForall r x y u) (typed_lambda k p fits))
  value_star c f (NCast e g) t v (typed_cast {s = s} p q) =
      let star = value_star (without_joins c) (without_joins_kinded ms c f) e s v p in
      let one = ends_have_one_kind ms declared.axioms c.kinds c.coercions f.coercions g R s t q in
      subst (HasKind ms c.kinds t) (kind_is_one ms c.kinds 0 s one.0 KStar one.1 star) one.2
  value_star c f (NCon n args) t v (typed_con k gs found given long takes) =
      let w = types_have_kinds ms declared c f (NCon n args) t (typed_con k gs found given long takes) in
      constructed_star ms declared c.kinds t w.0 w.1 n k found given long takes
  value_star c f e t v typed = false_true v

  default_body : (c : Context) (x t : NTy) (b : NExpr) → AltsFit ms (with_value x c) x t Start (MoreNAlts (NBranch head.Default [] b) NoNAlts) → HasType ms (with_value x c) b t
  default_body c x t b (default_alt k p order more) = subst (λ y. HasType ms (with_value x c) b y) (raised_by_nothing t) p

  evaluated_atom : (s : Surroundings) (e : NExpr) → is_evaluated_atom ms s e ≡ true → is_atom e ≡ true
  evaluated_atom s (NLit n) h = refl
  evaluated_atom s (NLocal i) h = refl
  evaluated_atom s (NVar n) h = refl
  evaluated_atom s e h = false_true h

  pub case_evaluated_keeps : KeepsTypes ms (case_evaluated ms)
  case_evaluated_keeps s g (NCase e x rt (MoreNAlts (NBranch head.Default [] b) NoNAlts)) f h t (typed_case j k p sk rk fit v) =
      tested (is_evaluated_atom ms s e) refl h
    where
      tested : (w : Bool) → is_evaluated_atom ms s e ≡ w
          → (if w then Some (replaced (value_alone e) b) else if is_value e && not (is_con e) then Some (let_of x e b) else None) ≡ Some f → HasType ms s.context f rt
      tested true atom h =
          subst (λ y. HasType ms s.context y rt) (some_some h)
          (types_at_a_value ms (closed ms declared) s.context x e p (λ int. evaluated_atom s e atom) b rt (default_body s.context x rt b fit))
      tested false atom h =
          let m = if_some_inv (is_value e && not (is_con e)) _ f h in
          let star = value_star (without_joins s.context) (without_joins_kinded ms s.context g.kinded) e x (and_parts (is_value e) (not (is_con e)) m.0).0 p in
          subst (λ y. HasType ms s.context y rt) (some_some m.1)
          (let_typed ms declared s.context x e b rt (KStar, star, refl) p (any_fits (is_unlifted x) (kind_says_lifted ms s.context.kinds KStar x refl star) (is_atom e)) (default_body s.context x rt b fit))
  case_evaluated_keeps s g e f h t typed = none_some h
