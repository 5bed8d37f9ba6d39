-- Variables in place of variables change no depth: a tree that is renamed is as deep as the tree.
use Rattle.std.proofs.Common.{◌≡◌, ℕ, zero, suc, Bool, true, false, if◌then◌else◌, List, [], ◌∷◌, refl}
use Rattle.fc_syntax.specs.Measures.{ty_depth, co_depth, cos_depth, binder_depth, binders_depth, expr_depth, arg_depth, bind_depth, join_depth, alt_depth, exprs_depth, args_depth, binds_depth, joins_depth, alts_depth}
use Rattle.fc_model.specs.Nameless.{NTy, NTVar, NTCon, NTInt, NTApp, NTFun, NTForall, NTCoForall}
use Rattle.fc_model.specs.Nameless.{NCo, NGVar, NGRefl, NGSym, NGTrans, NGTc, NGCapp, NGFun, NGAll, NGCoAll, NGInst, NGNth, NGLeft, NGRight, NGSub, NGAx, NGUniv, NCos, NoNCos, MoreNCos}
use Rattle.fc_model.specs.Nameless.{NBinder, NBValue, NBType, NBCo, NArg, NATerm, NAType, NACo, NBind, NBound, NJoinBind, NJoined, NAlt, NBranch}
use Rattle.fc_model.specs.Nameless.{NExpr, NLocal, NVar, NLit, NApp, NLam, NLet, NCase, NCast, NCon, NPrim, NFail, NJoin, NJump}
use Rattle.fc_model.specs.Nameless.{NExprs, NoNExprs, MoreNExprs, NArgs, NoNArgs, MoreNArgs, NBinds, NoNBinds, MoreNBinds, NJoins, NoNJoins, MoreNJoins, NAlts, NoNAlts, MoreNAlts}
use Rattle.fc_model.specs.Replacing.{Renaming, below_binder, below_binders, below_joins, below_values, bind_count, coercion_variables, join_count, renamed, renamed_coercion, replaced_binder, replaced_binders, types_behind, types_behind_all, variables}
use Rattle.fc_model.specs.Replacing.{put_in_alt, put_in_alts, put_in_arg, put_in_args, put_in_bind, put_in_binds, put_in_coercions, put_in_exprs, put_in_join, put_in_joins}
use Rattle.fc_model.specs.Substituting.{substituted_type, types_below}
use Rattle.fc_rows.specs.Shrinking.{before_joins}
use Rattle.fc_result_limits.proofs.Deep.{nexpr_depth}
use Rattle.fc_result_limits.proofs.Blank.{blank_ty, blank_co, blank_cos, blank_binder, blank_binders, blank_expr, blank_arg, blank_bind, blank_join, blank_alt, blank_exprs, blank_args, blank_binds, blank_joins, blank_alts}

-- TYPE VARIABLES IN PLACE OF TYPE VARIABLES

abbrev AreVariables : (ℕ → NTy) → Type 0
AreVariables s = (i : ℕ) → (j : ℕ) × (s i ≡ NTVar j)

variables_below : (s : ℕ → NTy) → AreVariables s → AreVariables (types_below s)
variables_below s vs zero = (zero, refl)
variables_below s vs (suc i) = (suc ((vs i).0), rw ((vs i).1) refl)

variables_behind : (b : NBinder) (s : ℕ → NTy) → AreVariables s → AreVariables (types_behind b s)
variables_behind (NBValue t) s vs = vs
variables_behind (NBType k) s vs = variables_below s vs
variables_behind (NBCo r t u) s vs = vs

variables_behind_all : (bs : List NBinder) (s : ℕ → NTy) → AreVariables s → AreVariables (types_behind_all bs s)
variables_behind_all [] s vs = vs
variables_behind_all (b ∷ bs) s vs = variables_behind_all bs (types_behind b s) (variables_behind b s vs)

-- in a group or outside
variables_in_group : (o : Bool) (q r : Renaming) → AreVariables q.types → AreVariables r.types → AreVariables ((if o then q else r).types)
variables_in_group true q r inner outer = inner
variables_in_group false q r inner outer = outer

-- TYPES AND COERCIONS

ty_kept : (s : ℕ → NTy) → AreVariables s → (t : NTy) → ty_depth (blank_ty (substituted_type s t)) ≡ ty_depth (blank_ty t)
ty_kept s vs (NTVar i) = rw ((vs i).1) refl
ty_kept s vs (NTCon n) = refl
ty_kept s vs NTInt = refl
ty_kept s vs (NTApp t u) = rw (ty_kept s vs t, ty_kept s vs u) refl
ty_kept s vs (NTFun t u) = rw (ty_kept s vs t, ty_kept s vs u) refl
ty_kept s vs (NTForall k t) = rw (ty_kept (types_below s) (variables_below s vs) t) refl
ty_kept s vs (NTCoForall o t u v) = rw (ty_kept s vs t, ty_kept s vs u, ty_kept s vs v) refl

mutual
  co_kept : (s : ℕ → NTy) → AreVariables s → (r : ℕ → ℕ) (g : NCo) → co_depth (blank_co (renamed_coercion s r g)) ≡ co_depth (blank_co g)
  co_kept s vs r (NGVar i) = refl
  co_kept s vs r (NGRefl o t) = rw (ty_kept s vs t) refl
  co_kept s vs r (NGSym g) = rw (co_kept s vs r g) refl
  co_kept s vs r (NGTrans g h) = rw (co_kept s vs r g, co_kept s vs r h) refl
  co_kept s vs r (NGTc o n gs) = rw (cos_kept s vs r gs) refl
  co_kept s vs r (NGCapp g h) = rw (co_kept s vs r g, co_kept s vs r h) refl
  co_kept s vs r (NGFun g h) = rw (co_kept s vs r g, co_kept s vs r h) refl
  co_kept s vs r (NGAll k g) = rw (co_kept (types_below s) (variables_below s vs) r g) refl
  co_kept s vs r (NGCoAll o q f g h) = rw (co_kept s vs r f, co_kept s vs r g, co_kept s vs r h) refl
  co_kept s vs r (NGInst g h) = rw (co_kept s vs r g, co_kept s vs r h) refl
  co_kept s vs r (NGNth n g) = rw (co_kept s vs r g) refl
  co_kept s vs r (NGLeft g) = rw (co_kept s vs r g) refl
  co_kept s vs r (NGRight g) = rw (co_kept s vs r g) refl
  co_kept s vs r (NGSub g) = rw (co_kept s vs r g) refl
  co_kept s vs r (NGAx n gs) = rw (cos_kept s vs r gs) refl
  co_kept s vs r (NGUniv t u) = rw (ty_kept s vs t, ty_kept s vs u) refl

  cos_kept : (s : ℕ → NTy) → AreVariables s → (r : ℕ → ℕ) (gs : NCos) → cos_depth (blank_cos (put_in_coercions coercion_variables s r gs)) ≡ cos_depth (blank_cos gs)
  cos_kept s vs r NoNCos = refl
  cos_kept s vs r (MoreNCos g rest) = rw (co_kept s vs r g, cos_kept s vs r rest) refl

-- EXPRESSIONS

binder_kept : (s : ℕ → NTy) → AreVariables s → (b : NBinder) → binder_depth (blank_binder (replaced_binder s b)) ≡ binder_depth (blank_binder b)
binder_kept s vs (NBValue t) = rw (ty_kept s vs t) refl
binder_kept s vs (NBType k) = refl
binder_kept s vs (NBCo r t u) = rw (ty_kept s vs t, ty_kept s vs u) refl

binders_kept : (s : ℕ → NTy) → AreVariables s → (bs : List NBinder) → binders_depth (blank_binders (replaced_binders s bs)) ≡ binders_depth (blank_binders bs)
binders_kept s vs [] = refl
binders_kept s vs (b ∷ bs) = rw (binder_kept s vs b, binders_kept (types_behind b s) (variables_behind b s vs) bs) refl

mutual
  expr_kept : (r : Renaming) → AreVariables r.types → (e : NExpr) → expr_depth (blank_expr (renamed r e)) ≡ expr_depth (blank_expr e)
  expr_kept r vs (NLocal i) = refl
  expr_kept r vs (NVar n) = refl
  expr_kept r vs (NLit n) = refl
  expr_kept r vs (NApp f a) = rw (expr_kept r vs f, arg_kept r vs a) refl
  expr_kept r vs (NLam b e) = rw (binder_kept r.types vs b, expr_kept (below_binder variables coercion_variables b r) (variables_behind b r.types vs) e) refl
  expr_kept r vs (NLet o bs e) =
      let inner = below_values variables coercion_variables (bind_count bs) r in
      rw (binds_kept (if o then inner else r) (variables_in_group o inner r vs vs) bs, expr_kept inner vs e) refl
  expr_kept r vs (NCase e t u alts) = rw (expr_kept r vs e, ty_kept r.types vs t, ty_kept r.types vs u, alts_kept (below_values variables coercion_variables 1 r) vs alts) refl
  expr_kept r vs (NCast e g) = rw (expr_kept r vs e, co_kept r.types vs r.coercions g) refl
  expr_kept r vs (NCon n args) = rw (args_kept r vs args) refl
  expr_kept r vs (NPrim op es) = rw (exprs_kept r vs es) refl
  expr_kept r vs (NFail t) = rw (ty_kept r.types vs t) refl
  expr_kept r vs (NJoin o t js e) =
      let inner = below_joins variables coercion_variables (join_count js) r in
      rw (ty_kept r.types vs t, joins_kept (if o then inner else r) (variables_in_group o inner r vs vs) js, expr_kept inner vs e) refl
  expr_kept r vs (NJump j args) = rw (args_kept r vs args) refl

  arg_kept : (r : Renaming) → AreVariables r.types → (a : NArg) → arg_depth (blank_arg (put_in_arg variables coercion_variables r a)) ≡ arg_depth (blank_arg a)
  arg_kept r vs (NATerm e) = rw (expr_kept r vs e) refl
  arg_kept r vs (NAType t) = rw (ty_kept r.types vs t) refl
  arg_kept r vs (NACo g) = rw (co_kept r.types vs r.coercions g) refl

  bind_kept : (r : Renaming) → AreVariables r.types → (b : NBind) → bind_depth (blank_bind (put_in_bind variables coercion_variables r b)) ≡ bind_depth (blank_bind b)
  bind_kept r vs (NBound t e) = rw (ty_kept r.types vs t, expr_kept r vs e) refl

  join_kept : (r : Renaming) → AreVariables r.types → (j : NJoinBind) → join_depth (blank_join (put_in_join variables coercion_variables r j)) ≡ join_depth (blank_join j)
  join_kept r vs (NJoined ps e) = rw (binders_kept r.types vs ps, expr_kept (below_binders variables coercion_variables ps r) (variables_behind_all ps r.types vs) e) refl

  alt_kept : (r : Renaming) → AreVariables r.types → (a : NAlt) → alt_depth (blank_alt (put_in_alt variables coercion_variables r a)) ≡ alt_depth (blank_alt a)
  alt_kept r vs (NBranch h bs e) = rw (binders_kept r.types vs bs, expr_kept (below_binders variables coercion_variables bs r) (variables_behind_all bs r.types vs) e) refl

  exprs_kept : (r : Renaming) → AreVariables r.types → (es : NExprs) → exprs_depth (blank_exprs (put_in_exprs variables coercion_variables r es)) ≡ exprs_depth (blank_exprs es)
  exprs_kept r vs NoNExprs = refl
  exprs_kept r vs (MoreNExprs e rest) = rw (expr_kept r vs e, exprs_kept r vs rest) refl

  args_kept : (r : Renaming) → AreVariables r.types → (args : NArgs) → args_depth (blank_args (put_in_args variables coercion_variables r args)) ≡ args_depth (blank_args args)
  args_kept r vs NoNArgs = refl
  args_kept r vs (MoreNArgs a rest) = rw (arg_kept r vs a, args_kept r vs rest) refl

  binds_kept : (r : Renaming) → AreVariables r.types → (bs : NBinds) → binds_depth (blank_binds (put_in_binds variables coercion_variables r bs)) ≡ binds_depth (blank_binds bs)
  binds_kept r vs NoNBinds = refl
  binds_kept r vs (MoreNBinds b rest) = rw (bind_kept r vs b, binds_kept r vs rest) refl

  joins_kept : (r : Renaming) → AreVariables r.types → (js : NJoins) → joins_depth (blank_joins (put_in_joins variables coercion_variables r js)) ≡ joins_depth (blank_joins js)
  joins_kept r vs NoNJoins = refl
  joins_kept r vs (MoreNJoins j rest) = rw (join_kept r vs j, joins_kept r vs rest) refl

  alts_kept : (r : Renaming) → AreVariables r.types → (alts : NAlts) → alts_depth (blank_alts (put_in_alts variables coercion_variables r alts)) ≡ alts_depth (blank_alts alts)
  alts_kept r vs NoNAlts = refl
  alts_kept r vs (MoreNAlts a rest) = rw (alt_kept r vs a, alts_kept r vs rest) refl

-- with fewer join points
pub before_joins_depth : (n : ℕ) (e : NExpr) → nexpr_depth (renamed (before_joins n) e) ≡ nexpr_depth e
before_joins_depth n e = expr_kept (before_joins n) (λ i. (i, refl)) e
