-- Variables that are put in as expressions are a renaming.
use Rattle.std.proofs.Common.{◌≡◌, ℕ, zero, suc, true, false, List, [], ◌∷◌, refl, sym, ap, ap₂, ◌∙◌}
use Rattle.std.proofs.Math.Path.{fun_ext}
use Rattle.fc_model.specs.Nameless.{NTy, NCo, NGVar, NGRefl, NGSym, NGTrans, NGTc, NGCapp, NGFun, NGAll, NGCoAll, NGInst, NGNth, NGLeft, NGRight, NGSub, NGAx, NGUniv, NCos, NoNCos, MoreNCos}
use Rattle.fc_model.specs.Nameless.{NBinder, NBValue, NBType, NBCo, NArg, NATerm, NAType, NACo, NBound, NJoined, NBranch, NExpr, NLocal, NVar, NLit, NApp, NLam, NLet, NCase, NCast, NCon}
use Rattle.fc_model.specs.Nameless.{NPrim, NFail, NJoin, NJump, NArgs, NoNArgs, MoreNArgs, NExprs, NoNExprs, MoreNExprs, NBinds, NoNBinds, MoreNBinds, NJoins, NoNJoins, MoreNJoins, NAlts}
use Rattle.fc_model.specs.Nameless.{NoNAlts, MoreNAlts}
use Rattle.fc_model.specs.Replacing.{Renaming, Substitution, below_binder, below_binders, below_joins, below_values, bind_count, coercion_variables, coercions_behind, coercions_behind_all}
use Rattle.fc_model.specs.Replacing.{expressions, join_count, put_in_alts, put_in_arg, put_in_args, put_in_binds, put_in_coercions, put_in_exprs, put_in_joins, renamed, renamed_coercion}
use Rattle.fc_model.specs.Replacing.{replaced, replaced_binder, replaced_binders, replaced_coercion, times, types_behind, types_behind_all, values_behind, values_behind_all, values_below}
use Rattle.fc_model.specs.Replacing.{variables, whole_coercions}
use Rattle.fc_model.specs.Substituting.{renaming_below, substituted_type, types_below}
use Rattle.fc_model.proofs.RenamedItself.{times_same}

abbrev pub as_values : (ℕ → ℕ) → ℕ → NExpr
as_values v i = NLocal (v i)

abbrev pub as_coercions : (ℕ → ℕ) → ℕ → NCo
as_coercions g i = NGVar (g i)

abbrev pub as_substitution : Renaming → Substitution
as_substitution r = record { types = r.types; coercions = as_coercions r.coercions; values = as_values r.values; joins = r.joins }

substitution : (ℕ → NTy) → (ℕ → NCo) → (ℕ → NExpr) → (ℕ → ℕ) → Substitution
substitution s g v j = record { types = s; coercions = g; values = v; joins = j }

-- BELOW BINDERS

value_point : (v : ℕ → ℕ) (i : ℕ) → values_below expressions whole_coercions (as_values v) i ≡ as_values (values_below variables coercion_variables v) i
value_point v zero = refl
value_point v (suc i) = refl

coercion_as : (b : NBinder) (g : ℕ → ℕ) (i : ℕ) → coercions_behind whole_coercions b (as_coercions g) i ≡ as_coercions (coercions_behind coercion_variables b g) i
coercion_as (NBValue t) g i = refl
coercion_as (NBType k) g i = refl
coercion_as (NBCo r t u) g zero = refl
coercion_as (NBCo r t u) g (suc i) = refl

value_as : (b : NBinder) (v : ℕ → ℕ) (i : ℕ) → values_behind expressions whole_coercions b (as_values v) i ≡ as_values (values_behind variables coercion_variables b v) i
value_as (NBValue t) v i = value_point v i
value_as (NBType k) v i = refl
value_as (NBCo r t u) v i = refl

coercions_as : (bs : List NBinder) (g : ℕ → ℕ) → coercions_behind_all whole_coercions bs (as_coercions g) ≡ as_coercions (coercions_behind_all coercion_variables bs g)
coercions_as [] g = refl
coercions_as (b ∷ bs) g = ap (coercions_behind_all whole_coercions bs) (fun_ext (coercion_as b g)) ∙ coercions_as bs (coercions_behind coercion_variables b g)

values_as : (bs : List NBinder) (v : ℕ → ℕ) → values_behind_all expressions whole_coercions bs (as_values v) ≡ as_values (values_behind_all variables coercion_variables bs v)
values_as [] v = refl
values_as (b ∷ bs) v = ap (values_behind_all expressions whole_coercions bs) (fun_ext (value_as b v)) ∙ values_as bs (values_behind variables coercion_variables b v)

below_one : (b : NBinder) (r : Renaming) → below_binder expressions whole_coercions b (as_substitution r) ≡ as_substitution (below_binder variables coercion_variables b r)
unfolding substitution
below_one b r = ap₂ (λ g v. substitution (types_behind b r.types) g v r.joins) (fun_ext (coercion_as b r.coercions)) (fun_ext (value_as b r.values))

below_many : (bs : List NBinder) (r : Renaming) → below_binders expressions whole_coercions bs (as_substitution r) ≡ as_substitution (below_binders variables coercion_variables bs r)
unfolding substitution
below_many bs r = ap₂ (λ g v. substitution (types_behind_all bs r.types) g v r.joins) (coercions_as bs r.coercions) (values_as bs r.values)

times_as : (m : ℕ) (v : ℕ → ℕ) → times m (values_below expressions whole_coercions) (as_values v) ≡ as_values (times m (values_below variables coercion_variables) v)
times_as zero v = refl
times_as (suc m) v = ap (times m (values_below expressions whole_coercions)) (fun_ext (value_point v)) ∙ times_as m (values_below variables coercion_variables v)

below_lets : (m : ℕ) (r : Renaming) → below_values expressions whole_coercions m (as_substitution r) ≡ as_substitution (below_values variables coercion_variables m r)
unfolding substitution
below_lets m r = ap (λ v. substitution r.types (as_coercions r.coercions) v r.joins) (times_as m r.values)

joins_as : (m : ℕ) (v : ℕ → ℕ) → times m (λ s i. expressions.past_join (s i)) (as_values v) ≡ as_values (times m (λ s i. variables.past_join (s i)) v)
joins_as m v = times_same m (λ s i. expressions.past_join (s i)) (as_values v) refl ∙ ap as_values (sym (times_same m (λ s i. variables.past_join (s i)) v refl))

below_points : (m : ℕ) (r : Renaming) → below_joins expressions whole_coercions m (as_substitution r) ≡ as_substitution (below_joins variables coercion_variables m r)
unfolding substitution
below_points m r = ap (λ v. substitution r.types (as_coercions r.coercions) v (times m renaming_below r.joins)) (joins_as m r.values)

-- COERCIONS

mutual
  co_put : (s : ℕ → NTy) (r : ℕ → ℕ) (g : NCo) → replaced_coercion s (as_coercions r) g ≡ renamed_coercion s r g
  co_put s r (NGVar i) = refl
  co_put s r (NGRefl o t) = refl
  co_put s r (NGSym g) = ap NGSym (co_put s r g)
  co_put s r (NGTrans g h) = ap₂ NGTrans (co_put s r g) (co_put s r h)
  co_put s r (NGTc o n gs) = ap (NGTc o n) (cos_put s r gs)
  co_put s r (NGCapp g h) = ap₂ NGCapp (co_put s r g) (co_put s r h)
  co_put s r (NGFun g h) = ap₂ NGFun (co_put s r g) (co_put s r h)
  co_put s r (NGAll k g) = ap (NGAll k) (co_put (types_below s) r g)
  co_put s r (NGCoAll o q f g h) =
      ap (λ x. NGCoAll o q x (replaced_coercion s (as_coercions r) g) (replaced_coercion s (as_coercions r) h)) (co_put s r f) ∙ ap₂ (NGCoAll o q (renamed_coercion s r f)) (co_put s r g) (co_put s r h)
  co_put s r (NGInst g h) = ap₂ NGInst (co_put s r g) (co_put s r h)
  co_put s r (NGNth n g) = ap (NGNth n) (co_put s r g)
  co_put s r (NGLeft g) = ap NGLeft (co_put s r g)
  co_put s r (NGRight g) = ap NGRight (co_put s r g)
  co_put s r (NGSub g) = ap NGSub (co_put s r g)
  co_put s r (NGAx n gs) = ap (NGAx n) (cos_put s r gs)
  co_put s r (NGUniv t u) = refl

  cos_put : (s : ℕ → NTy) (r : ℕ → ℕ) (gs : NCos) → put_in_coercions whole_coercions s (as_coercions r) gs ≡ put_in_coercions coercion_variables s r gs
  cos_put s r NoNCos = refl
  cos_put s r (MoreNCos g rest) = ap₂ MoreNCos (co_put s r g) (cos_put s r rest)

-- EXPRESSIONS

mutual
  pub variables_put : (r : Renaming) (e : NExpr) → replaced (as_substitution r) e ≡ renamed r e
  variables_put r (NLocal i) = refl
  variables_put r (NVar n) = refl
  variables_put r (NLit n) = refl
  variables_put r (NApp f a) = ap₂ NApp (variables_put r f) (arg_put r a)
  variables_put r (NLam b e) = ap (NLam (replaced_binder r.types b)) (ap (λ x. replaced x e) (below_one b r) ∙ variables_put (below_binder variables coercion_variables b r) e)
  variables_put r (NLet true bs e) =
      let q = below_values variables coercion_variables (bind_count bs) r in
      ap₂ (NLet true) (ap (λ x. put_in_binds expressions whole_coercions x bs) (below_lets (bind_count bs) r) ∙ binds_put q bs) (ap (λ x. replaced x e) (below_lets (bind_count bs) r) ∙ variables_put q e)
  variables_put r (NLet false bs e) =
      let q = below_values variables coercion_variables (bind_count bs) r in
      ap₂ (NLet false) (binds_put r bs) (ap (λ x. replaced x e) (below_lets (bind_count bs) r) ∙ variables_put q e)
  variables_put r (NCase e t u alts) =
      ap₂ (λ f a. NCase f (substituted_type r.types t) (substituted_type r.types u) a) (variables_put r e)
      (ap (λ x. put_in_alts expressions whole_coercions x alts) (below_lets 1 r) ∙ alts_put (below_values variables coercion_variables 1 r) alts)
  variables_put r (NCast e g) = ap₂ NCast (variables_put r e) (co_put r.types r.coercions g)
  variables_put r (NCon n args) = ap (NCon n) (args_put r args)
  variables_put r (NPrim op es) = ap (NPrim op) (exprs_put r es)
  variables_put r (NFail t) = refl
  variables_put r (NJoin true t js e) =
      let q = below_joins variables coercion_variables (join_count js) r in
      ap₂ (NJoin true (substituted_type r.types t)) (ap (λ x. put_in_joins expressions whole_coercions x js) (below_points (join_count js) r) ∙ joins_put q js)
      (ap (λ x. replaced x e) (below_points (join_count js) r) ∙ variables_put q e)
  variables_put r (NJoin false t js e) =
      let q = below_joins variables coercion_variables (join_count js) r in
      ap₂ (NJoin false (substituted_type r.types t)) (joins_put r js) (ap (λ x. replaced x e) (below_points (join_count js) r) ∙ variables_put q e)
  variables_put r (NJump i args) = ap (NJump (r.joins i)) (args_put r args)

  pub arg_put : (r : Renaming) (a : NArg) → put_in_arg expressions whole_coercions (as_substitution r) a ≡ put_in_arg variables coercion_variables r a
  arg_put r (NATerm e) = ap NATerm (variables_put r e)
  arg_put r (NAType t) = refl
  arg_put r (NACo g) = ap NACo (co_put r.types r.coercions g)

  pub args_put : (r : Renaming) (args : NArgs) → put_in_args expressions whole_coercions (as_substitution r) args ≡ put_in_args variables coercion_variables r args
  args_put r NoNArgs = refl
  args_put r (MoreNArgs a rest) = ap₂ MoreNArgs (arg_put r a) (args_put r rest)

  exprs_put : (r : Renaming) (es : NExprs) → put_in_exprs expressions whole_coercions (as_substitution r) es ≡ put_in_exprs variables coercion_variables r es
  exprs_put r NoNExprs = refl
  exprs_put r (MoreNExprs e rest) = ap₂ MoreNExprs (variables_put r e) (exprs_put r rest)

  binds_put : (r : Renaming) (bs : NBinds) → put_in_binds expressions whole_coercions (as_substitution r) bs ≡ put_in_binds variables coercion_variables r bs
  binds_put r NoNBinds = refl
  binds_put r (MoreNBinds (NBound t e) rest) = ap₂ (λ f more. MoreNBinds (NBound (substituted_type r.types t) f) more) (variables_put r e) (binds_put r rest)

  joins_put : (r : Renaming) (js : NJoins) → put_in_joins expressions whole_coercions (as_substitution r) js ≡ put_in_joins variables coercion_variables r js
  joins_put r NoNJoins = refl
  joins_put r (MoreNJoins (NJoined ps e) rest) =
      ap₂ (λ f more. MoreNJoins (NJoined (replaced_binders r.types ps) f) more) (ap (λ x. replaced x e) (below_many ps r) ∙ variables_put (below_binders variables coercion_variables ps r) e) (joins_put r rest)

  pub alts_put : (r : Renaming) (alts : NAlts) → put_in_alts expressions whole_coercions (as_substitution r) alts ≡ put_in_alts variables coercion_variables r alts
  alts_put r NoNAlts = refl
  alts_put r (MoreNAlts (NBranch h bs e) rest) =
      ap₂ (λ f more. MoreNAlts (NBranch h (replaced_binders r.types bs) f) more) (ap (λ x. replaced x e) (below_many bs r) ∙ variables_put (below_binders variables coercion_variables bs r) e) (alts_put r rest)
