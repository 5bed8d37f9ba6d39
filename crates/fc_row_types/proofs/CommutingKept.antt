-- Lets that move out keep types.
use Rattle.std.proofs.Common.{◌≡◌, Bool, true, false, not, ◌||◌, if◌then◌else◌, [], ◌∷◌, refl, sym, ap, subst}
use Rattle.fc_syntax.specs.declared.ty.Role.TheVariants.{R}
use Rattle.fc_syntax.specs.Tree.{Kind}
use Rattle.fc_model.specs.Calling.{Given, Takes, is_unlifted}
use Rattle.fc_model.specs.CoercingRules.{Proves}
use Rattle.fc_model.specs.Kinding.{Modules, HasKind}
use Rattle.fc_model.specs.Nameless.{NTy, NTVar, NArg, NBound}
use Rattle.fc_model.specs.Nameless.{NExpr, NApp, NLet, NCase, NCast, NBinds, NoNBinds, MoreNBinds, NAlts}
use Rattle.fc_model.specs.Replacing.{below_values, bind_count, coercion_variables, put_in_alts, put_in_arg, renamed, variables}
use Rattle.fc_model.specs.Substituting.{substituted_type}
use Rattle.fc_model.specs.Typing.{Start, Context, is_atom, with_binds, with_value, without_joins}
use Rattle.fc_model.specs.TypingLaws.{AreDeclaredKinded, RenamingFits}
use Rattle.fc_model.specs.TypingRules.{HasType, typed_application, typed_let, typed_case, typed_cast, ArgIsGiven, AltsFit, BindsHaveTypes, no_binds, one_bind}
use Rattle.fc_model.proofs.CallsKept.{one_becomes, none_become, takes_kept}
use Rattle.fc_model.proofs.FitsKept.{fits_value, fits_without_joins}
use Rattle.fc_model.proofs.PutInKept.{alts_kept, arg_kept, type_kept}
use Rattle.fc_model.proofs.ReplacedKept.{variables_stand}
use Rattle.fc_model.proofs.Sameness.{false_true}
use Rattle.fc_model.proofs.Substitutions.{variables_for_themselves}
use Rattle.fc_rows.specs.Commuting.{app_of_let, case_of_let, cast_of_let, is_value_behind_lets, let_of_let}
use Rattle.fc_row_types.specs.TypesKept.{KeepsTypes}
use Rattle.fc_rows.specs.Surroundings.{past_values}
use Rattle.fc_row_types.proofs.Contexts.{behind_binds_is, binds_without_joins}
use Rattle.fc_row_types.proofs.Holding.{closed, past_values_fits}
use Rattle.fc_row_types.proofs.Made.{if_some_inv, none_some, some_some}
use Rattle.fc_row_types.proofs.SimpleRowsKept.{let_typed}

module _ (ms : Modules) (declared : AreDeclaredKinded ms) where
  -- binds of what stands apart
  outer_binds : (r : Bool) (bs : NBinds) (c : Context) → BindsHaveTypes ms (without_joins (if r then with_binds bs (without_joins c) else without_joins c)) r bs
      → BindsHaveTypes ms (without_joins (if r then with_binds bs c else c)) r bs
  outer_binds true bs c h = subst (λ d. BindsHaveTypes ms d true bs) (ap without_joins (sym (binds_without_joins bs c))) h
  outer_binds false bs c h = h

  outer_body : (bs : NBinds) (c : Context) (e : NExpr) (t : NTy) → HasType ms (with_binds bs (without_joins c)) e t → HasType ms (without_joins (with_binds bs c)) e t
  outer_body bs c e t h = subst (λ d. HasType ms d e t) (sym (binds_without_joins bs c)) h

  kind_behind : (bs : NBinds) (c : Context) (t : NTy) (k : Kind) → HasKind ms c.kinds t k → HasKind ms (with_binds bs c).kinds t k
  kind_behind bs c t k h = subst (λ d. HasKind ms d.kinds t k) (sym (behind_binds_is bs c)) h

  fits : (bs : NBinds) (c : Context) → RenamingFits ms c (with_binds bs c) (past_values (bind_count bs))
  fits bs c = past_values_fits ms declared bs c

  applied_behind : (bs : NBinds) (c : Context) (b : NExpr) (a : NArg) (u t : NTy) (g : Given) → HasType ms (without_joins (with_binds bs c)) b u
      → ArgIsGiven ms (without_joins c) a g → Takes u (g ∷ []) t
      → HasType ms (with_binds bs c) (NApp b (put_in_arg variables coercion_variables (past_values (bind_count bs)) a)) t
  applied_behind bs c b a u t g q given takes =
      let stand = variables_stand ms (closed ms declared) in
      let m = arg_kept (closed ms declared) stand (without_joins c) (without_joins (with_binds bs c)) (past_values (bind_count bs))
      (fits_without_joins stand c (with_binds bs c) (past_values (bind_count bs)) (fits bs c)) a g given in
      let taken = takes_kept NTVar takes (one_becomes m.2 none_become) in
      let same = subst (λ x. Takes x (m.0 ∷ []) (substituted_type NTVar t)) (variables_for_themselves u) taken in
      typed_application u m.0 q m.1 (subst (λ x. Takes u (m.0 ∷ []) x) (variables_for_themselves t) same)

  pub app_of_let_keeps : KeepsTypes ms (λ s e. app_of_let e)
  app_of_let_keeps s g (NApp (NLet r bs b) a) f h t (typed_application u gv (typed_let p q) given takes) =
      let c = s.context in
      subst (λ y. HasType ms c y t) (some_some h) (typed_let (outer_binds r bs c p) (applied_behind bs c b a u t gv (outer_body bs c b u q) given takes))
  app_of_let_keeps s g e f h t typed = none_some h

  -- alternatives past binds
  alts_behind : (bs : NBinds) (c : Context) (xt rt : NTy) (alts : NAlts) → AltsFit ms (with_value xt c) xt rt Start alts
      → AltsFit ms (with_value xt (with_binds bs c)) xt rt Start (put_in_alts variables coercion_variables (below_values variables coercion_variables 1 (past_values (bind_count bs))) alts)
  alts_behind bs c xt rt alts fit =
      let stand = variables_stand ms (closed ms declared) in
      let r = past_values (bind_count bs) in
      let d = with_binds bs c in
      let all = alts_kept (closed ms declared) stand (with_value xt c) (with_value (substituted_type NTVar xt) d) (below_values variables coercion_variables 1 r)
      (fits_value stand c d r (fits bs c) xt) xt rt Start alts fit in
      let same = subst (λ x. AltsFit ms (with_value x d) x (substituted_type NTVar rt) Start (put_in_alts variables coercion_variables (below_values variables coercion_variables 1 r) alts))
      (variables_for_themselves xt) all in
      subst (λ x. AltsFit ms (with_value xt d) xt x Start (put_in_alts variables coercion_variables (below_values variables coercion_variables 1 r) alts))
      (variables_for_themselves rt) same

  pub case_of_let_keeps : KeepsTypes ms (λ s e. case_of_let e)
  case_of_let_keeps s g (NCase (NLet r bs b) xt rt alts) f h t (typed_case j k (typed_let p q) sk rk fit v) =
      let c = s.context in
      subst (λ y. HasType ms c y rt) (some_some h)
      (typed_let (outer_binds r bs c p) (typed_case j k (outer_body bs c b xt q) (kind_behind bs c xt j sk) (kind_behind bs c rt k rk) (alts_behind bs c xt rt alts fit) v))
  case_of_let_keeps s g e f h t typed = none_some h

  pub cast_of_let_keeps : KeepsTypes ms (λ s e. cast_of_let e)
  cast_of_let_keeps s g (NCast (NLet r bs b) co) f h t (typed_cast {s = u} (typed_let p q) proves) =
      let c = s.context in
      subst (λ y. HasType ms c y t) (some_some h)
      (typed_let (outer_binds r bs c p)
      (typed_cast (outer_body bs c b u q) (subst (λ d. Proves ms d.kinds d.coercions co R u t) (sym (behind_binds_is bs c)) proves)))
  cast_of_let_keeps s g e f h t typed = none_some h

  -- a body past binds that stand outside of its own
  body_behind : (bs : NBinds) (c : Context) (x t : NTy) (b : NExpr) → HasType ms (with_value x c) b t
      → HasType ms (with_value x (with_binds bs c)) (renamed (below_values variables coercion_variables 1 (past_values (bind_count bs))) b) t
  body_behind bs c x t b h =
      let stand = variables_stand ms (closed ms declared) in
      let r = past_values (bind_count bs) in
      let d = with_binds bs c in
      let e = renamed (below_values variables coercion_variables 1 r) b in
      let there = type_kept (closed ms declared) stand (with_value x c) (with_value (substituted_type NTVar x) d) (below_values variables coercion_variables 1 r)
      (fits_value stand c d r (fits bs c) x) b t h in
      subst (λ y. HasType ms (with_value x d) e y) (variables_for_themselves t)
      (subst (λ y. HasType ms (with_value y d) e (substituted_type NTVar t)) (variables_for_themselves x) there)

  -- a let is no atom
  lifted_let : (i : Bool) → not i || false ≡ true → i ≡ false
  lifted_let true h = false_true h
  lifted_let false h = refl

  fits_any : (i a : Bool) → i ≡ false → not i || a ≡ true
  fits_any true a h = absurd cc
  fits_any false a h = refl

  pub let_of_let_keeps : KeepsTypes ms (λ s e. let_of_let e)
  let_of_let_keeps s g (NLet false (MoreNBinds (NBound x (NLet r bs e)) NoNBinds) b) f h t (typed_let (one_bind k kind v (typed_let p q) fits no_binds) w) =
      let c = s.context in
      let m = if_some_inv (is_value_behind_lets e) _ f h in
      let lifted = fits_any (is_unlifted x) (is_atom e) (lifted_let (is_unlifted x) fits) in
      subst (λ y. HasType ms c y t) (some_some m.1)
      (typed_let (outer_binds r bs c p)
      (let_typed ms declared (with_binds bs c) x e _ t (k, kind_behind bs c x k kind, v) (outer_body bs c e x q) lifted (body_behind bs c x t b w)))
  let_of_let_keeps s g e f h t typed = none_some h
