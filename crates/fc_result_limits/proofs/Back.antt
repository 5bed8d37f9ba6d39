-- A tree with words is made for each nameless one: without its words it is that one.
use Rattle.std.proofs.Common.{◌≡◌, List, [], ◌∷◌, refl}
use Rattle.fc_model.specs.Nameless.{NTy, NTVar, NTCon, NTInt, NTApp, NTFun, NTForall, NTCoForall}
use Rattle.fc_model.specs.Nameless.{NCo, NGVar, NGRefl, NGSym, NGTrans, NGTc, NGCapp, NGFun, NGAll, NGCoAll, NGInst, NGNth, NGLeft, NGRight, NGSub, NGAx, NGUniv, NCos, NoNCos, MoreNCos}
use Rattle.fc_model.specs.Nameless.{NBinder, NBValue, NBType, NBCo, NArg, NATerm, NAType, NACo, NBind, NBound, NJoinBind, NJoined, NAlt, NBranch}
use Rattle.fc_model.specs.Nameless.{NExpr, NLocal, NVar, NLit, NApp, NLam, NLet, NCase, NCast, NCon, NPrim, NFail, NJoin, NJump}
use Rattle.fc_model.specs.Nameless.{NExprs, NoNExprs, MoreNExprs, NArgs, NoNArgs, MoreNArgs, NBinds, NoNBinds, MoreNBinds, NJoins, NoNJoins, MoreNJoins, NAlts, NoNAlts, MoreNAlts}
use Rattle.fc_model.specs.Worded.{bare_ty, bare_co, bare_cos, bare_binder, bare_binders, bare_expr, bare_arg, bare_bind, bare_join, bare_alt, bare_exprs, bare_args, bare_binds, bare_joins, bare_alts}
use Rattle.fc_result_limits.proofs.Blank.{blank_ty, blank_co, blank_cos, blank_binder, blank_binders, blank_expr, blank_arg, blank_bind, blank_join, blank_alt, blank_exprs, blank_args, blank_binds, blank_joins, blank_alts}

-- TYPES AND COERCIONS

ty_back : (t : NTy) → bare_ty (blank_ty t) ≡ t
ty_back (NTVar i) = refl
ty_back (NTCon n) = refl
ty_back NTInt = refl
ty_back (NTApp t u) = rw (ty_back t, ty_back u) refl
ty_back (NTFun t u) = rw (ty_back t, ty_back u) refl
ty_back (NTForall k t) = rw (ty_back t) refl
ty_back (NTCoForall r t u v) = rw (ty_back t, ty_back u, ty_back v) refl

mutual
  co_back : (g : NCo) → bare_co (blank_co g) ≡ g
  co_back (NGVar i) = refl
  co_back (NGRefl r t) = rw (ty_back t) refl
  co_back (NGSym g) = rw (co_back g) refl
  co_back (NGTrans g h) = rw (co_back g, co_back h) refl
  co_back (NGTc r n gs) = rw (cos_back gs) refl
  co_back (NGCapp g h) = rw (co_back g, co_back h) refl
  co_back (NGFun g h) = rw (co_back g, co_back h) refl
  co_back (NGAll k g) = rw (co_back g) refl
  co_back (NGCoAll r e f g h) = rw (co_back f, co_back g, co_back h) refl
  co_back (NGInst g h) = rw (co_back g, co_back h) refl
  co_back (NGNth n g) = rw (co_back g) refl
  co_back (NGLeft g) = rw (co_back g) refl
  co_back (NGRight g) = rw (co_back g) refl
  co_back (NGSub g) = rw (co_back g) refl
  co_back (NGAx n gs) = rw (cos_back gs) refl
  co_back (NGUniv t u) = rw (ty_back t, ty_back u) refl

  cos_back : (gs : NCos) → bare_cos (blank_cos gs) ≡ gs
  cos_back NoNCos = refl
  cos_back (MoreNCos g rest) = rw (co_back g, cos_back rest) refl

-- EXPRESSIONS

binder_back : (b : NBinder) → bare_binder (blank_binder b) ≡ b
binder_back (NBValue t) = rw (ty_back t) refl
binder_back (NBType k) = refl
binder_back (NBCo r t u) = rw (ty_back t, ty_back u) refl

binders_back : (bs : List NBinder) → bare_binders (blank_binders bs) ≡ bs
binders_back [] = refl
binders_back (b ∷ bs) = rw (binder_back b, binders_back bs) refl

mutual
  pub expr_back : (e : NExpr) → bare_expr (blank_expr e) ≡ e
  expr_back (NLocal i) = refl
  expr_back (NVar n) = refl
  expr_back (NLit n) = refl
  expr_back (NApp f a) = rw (expr_back f, arg_back a) refl
  expr_back (NLam b e) = rw (binder_back b, expr_back e) refl
  expr_back (NLet r bs e) = rw (binds_back bs, expr_back e) refl
  expr_back (NCase e t u alts) = rw (expr_back e, ty_back t, ty_back u, alts_back alts) refl
  expr_back (NCast e g) = rw (expr_back e, co_back g) refl
  expr_back (NCon n args) = rw (args_back args) refl
  expr_back (NPrim op es) = rw (exprs_back es) refl
  expr_back (NFail t) = rw (ty_back t) refl
  expr_back (NJoin r t js e) = rw (ty_back t, joins_back js, expr_back e) refl
  expr_back (NJump j args) = rw (args_back args) refl

  arg_back : (a : NArg) → bare_arg (blank_arg a) ≡ a
  arg_back (NATerm e) = rw (expr_back e) refl
  arg_back (NAType t) = rw (ty_back t) refl
  arg_back (NACo g) = rw (co_back g) refl

  bind_back : (b : NBind) → bare_bind (blank_bind b) ≡ b
  bind_back (NBound t e) = rw (ty_back t, expr_back e) refl

  join_back : (j : NJoinBind) → bare_join (blank_join j) ≡ j
  join_back (NJoined ps e) = rw (binders_back ps, expr_back e) refl

  alt_back : (a : NAlt) → bare_alt (blank_alt a) ≡ a
  alt_back (NBranch h bs e) = rw (binders_back bs, expr_back e) refl

  exprs_back : (es : NExprs) → bare_exprs (blank_exprs es) ≡ es
  exprs_back NoNExprs = refl
  exprs_back (MoreNExprs e rest) = rw (expr_back e, exprs_back rest) refl

  args_back : (args : NArgs) → bare_args (blank_args args) ≡ args
  args_back NoNArgs = refl
  args_back (MoreNArgs a rest) = rw (arg_back a, args_back rest) refl

  binds_back : (bs : NBinds) → bare_binds (blank_binds bs) ≡ bs
  binds_back NoNBinds = refl
  binds_back (MoreNBinds b rest) = rw (bind_back b, binds_back rest) refl

  joins_back : (js : NJoins) → bare_joins (blank_joins js) ≡ js
  joins_back NoNJoins = refl
  joins_back (MoreNJoins j rest) = rw (join_back j, joins_back rest) refl

  alts_back : (alts : NAlts) → bare_alts (blank_alts alts) ≡ alts
  alts_back NoNAlts = refl
  alts_back (MoreNAlts a rest) = rw (alt_back a, alts_back rest) refl
