-- What the words of binders are changes no measure: a tree is as large and as deep as the one without words.
use Rattle.std.proofs.Common.{◌≡◌, ℕ, suc, List, [], ◌∷◌, map, length, refl, ap}
use Rattle.fc_syntax.specs.declared.ty.Ref.TheVariants as ref
use Rattle.fc_syntax.specs.GenericTree.{TVar, TCon, TInt, TApp, TFun, TForall, TCoForall}
use Rattle.fc_syntax.specs.GenericTree.{GVar, GRefl, GSym, GTrans, GTc, GCapp, GFun, GAll, GCoAll, GInst, GNth, GLeft, GRight, GSub, GAx, GUniv, NoCos, MoreCos}
use Rattle.fc_syntax.specs.GenericTree.{BValue, BType, BCo, ATerm, AType, ACo, Bound, Joined, Branch}
use Rattle.fc_syntax.specs.GenericTree.{EVar, ELit, EApp, ELam, ELet, ECase, ECast, ECon, EPrim, EFail, EJoin, EJump}
use Rattle.fc_syntax.specs.GenericTree.{NoExprs, MoreExprs, NoArgs, MoreArgs, NoBinds, MoreBinds, NoJoins, MoreJoins, NoAlts, MoreAlts}
use Rattle.fc_syntax.specs.GenericTree.{ConOf, DData, DNew, DFamily, DAxiom, DDef, DWrap}
use Rattle.fc_syntax.specs.Measures.{ty_size, co_size, cos_size, binder_size, binders_size, expr_size, arg_size, bind_size, join_size, alt_size, exprs_size, args_size, binds_size, joins_size, alts_size, tys_size, con_size, cons_size, decl_size, decls_size}
use Rattle.fc_syntax.specs.Measures.{ty_depth, co_depth, cos_depth, binder_depth, binders_depth, expr_depth, arg_depth, bind_depth, join_depth, alt_depth, exprs_depth, args_depth, binds_depth, joins_depth, alts_depth, leaves_depth, tys_depth, con_depth, cons_depth, depth_of}
use Rattle.fc_model.specs.Worded.{WTy, WCo, WCos, WBinder, WExpr, WArg, WBind, WJoinBind, WAlt, WExprs, WArgs, WBinds, WJoins, WAlts, WConDecl, WDecl}
use Rattle.fc_model.specs.Worded.{bare_ty, bare_tys, bare_co, bare_cos, bare_binder, bare_binders, bare_expr, bare_exprs, bare_arg, bare_args, bare_bind, bare_binds, bare_join, bare_joins, bare_alt, bare_alts, bare_param, bare_plain, bare_con, bare_decl, bare_decls}
use Rattle.fc_nameless_measures.specs.Depths.{decls_depth}
use Rattle.fc_result_limits.proofs.Blank.{blank_ty, blank_co, blank_cos, blank_binder, blank_binders, blank_expr, blank_exprs, blank_arg, blank_args, blank_bind, blank_binds, blank_join, blank_joins, blank_alt, blank_alts, blank_param, blank_plain, blank_con, blank_decl, blank_decls}

-- two trees of the same size and depth
abbrev Same : {X : Type 0} → (X → ℕ) → (X → ℕ) → X → X → Type 0
Same size depth x y = (size x ≡ size y) × (depth x ≡ depth y)

-- as many parameters
as_many : {X Y : Type 0} (f : X → Y) (g : Y → X) (xs : List X) → Same length leaves_depth xs (map g (map f xs))
as_many f g [] = (refl, refl)
as_many f g (x ∷ xs) = (ap (λ n. suc n) ((as_many f g xs).0), refl)

-- TYPES AND COERCIONS

ty_same : (t : WTy) → Same ty_size ty_depth t (blank_ty (bare_ty t))
ty_same (TVar a) = (refl, refl)
ty_same (TCon n) = (refl, refl)
ty_same TInt = (refl, refl)
ty_same (TApp t u) = (rw ((ty_same t).0, (ty_same u).0) refl, rw ((ty_same t).1, (ty_same u).1) refl)
ty_same (TFun t u) = (rw ((ty_same t).0, (ty_same u).0) refl, rw ((ty_same t).1, (ty_same u).1) refl)
ty_same (TForall a k t) = (rw ((ty_same t).0) refl, rw ((ty_same t).1) refl)
ty_same (TCoForall r t u v) = (rw ((ty_same t).0, (ty_same u).0, (ty_same v).0) refl, rw ((ty_same t).1, (ty_same u).1, (ty_same v).1) refl)

mutual
  co_same : (g : WCo) → Same co_size co_depth g (blank_co (bare_co g))
  co_same (GVar c) = (refl, refl)
  co_same (GRefl r t) = (rw ((ty_same t).0) refl, rw ((ty_same t).1) refl)
  co_same (GSym g) = (rw ((co_same g).0) refl, rw ((co_same g).1) refl)
  co_same (GTrans g h) = (rw ((co_same g).0, (co_same h).0) refl, rw ((co_same g).1, (co_same h).1) refl)
  co_same (GTc r n gs) = (rw ((cos_same gs).0) refl, rw ((cos_same gs).1) refl)
  co_same (GCapp g h) = (rw ((co_same g).0, (co_same h).0) refl, rw ((co_same g).1, (co_same h).1) refl)
  co_same (GFun g h) = (rw ((co_same g).0, (co_same h).0) refl, rw ((co_same g).1, (co_same h).1) refl)
  co_same (GAll a k g) = (rw ((co_same g).0) refl, rw ((co_same g).1) refl)
  co_same (GCoAll r e f g h) = (rw ((co_same f).0, (co_same g).0, (co_same h).0) refl, rw ((co_same f).1, (co_same g).1, (co_same h).1) refl)
  co_same (GInst g h) = (rw ((co_same g).0, (co_same h).0) refl, rw ((co_same g).1, (co_same h).1) refl)
  co_same (GNth n g) = (rw ((co_same g).0) refl, rw ((co_same g).1) refl)
  co_same (GLeft g) = (rw ((co_same g).0) refl, rw ((co_same g).1) refl)
  co_same (GRight g) = (rw ((co_same g).0) refl, rw ((co_same g).1) refl)
  co_same (GSub g) = (rw ((co_same g).0) refl, rw ((co_same g).1) refl)
  co_same (GAx n gs) = (rw ((cos_same gs).0) refl, rw ((cos_same gs).1) refl)
  co_same (GUniv t u) = (rw ((ty_same t).0, (ty_same u).0) refl, rw ((ty_same t).1, (ty_same u).1) refl)

  cos_same : (gs : WCos) → Same cos_size cos_depth gs (blank_cos (bare_cos gs))
  cos_same NoCos = (refl, refl)
  cos_same (MoreCos g rest) = (rw ((co_same g).0, (cos_same rest).0) refl, rw ((co_same g).1, (cos_same rest).1) refl)

-- EXPRESSIONS

binder_same : (b : WBinder) → Same binder_size binder_depth b (blank_binder (bare_binder b))
binder_same (BValue x t) = (rw ((ty_same t).0) refl, rw ((ty_same t).1) refl)
binder_same (BType a k) = (refl, refl)
binder_same (BCo c r t u) = (rw ((ty_same t).0, (ty_same u).0) refl, rw ((ty_same t).1, (ty_same u).1) refl)

binders_same : (bs : List WBinder) → Same binders_size binders_depth bs (blank_binders (bare_binders bs))
binders_same [] = (refl, refl)
binders_same (b ∷ bs) = (rw ((binder_same b).0, (binders_same bs).0) refl, rw ((binder_same b).1, (binders_same bs).1) refl)

mutual
  pub expr_same : (e : WExpr) → Same expr_size expr_depth e (blank_expr (bare_expr e))
  expr_same (EVar (ref.Local i)) = (refl, refl)
  expr_same (EVar (ref.Top n)) = (refl, refl)
  expr_same (ELit n) = (refl, refl)
  expr_same (EApp f a) = (rw ((expr_same f).0, (arg_same a).0) refl, rw ((expr_same f).1, (arg_same a).1) refl)
  expr_same (ELam b e) = (rw ((binder_same b).0, (expr_same e).0) refl, rw ((binder_same b).1, (expr_same e).1) refl)
  expr_same (ELet r bs e) = (rw ((binds_same bs).0, (expr_same e).0) refl, rw ((binds_same bs).1, (expr_same e).1) refl)
  expr_same (ECase e x t u alts) = (rw ((expr_same e).0, (ty_same t).0, (ty_same u).0, (alts_same alts).0) refl, rw ((expr_same e).1, (ty_same t).1, (ty_same u).1, (alts_same alts).1) refl)
  expr_same (ECast e g) = (rw ((expr_same e).0, (co_same g).0) refl, rw ((expr_same e).1, (co_same g).1) refl)
  expr_same (ECon n args) = (rw ((args_same args).0) refl, rw ((args_same args).1) refl)
  expr_same (EPrim op es) = (rw ((exprs_same es).0) refl, rw ((exprs_same es).1) refl)
  expr_same (EFail t) = (rw ((ty_same t).0) refl, rw ((ty_same t).1) refl)
  expr_same (EJoin r t js e) = (rw ((ty_same t).0, (joins_same js).0, (expr_same e).0) refl, rw ((ty_same t).1, (joins_same js).1, (expr_same e).1) refl)
  expr_same (EJump j args) = (rw ((args_same args).0) refl, rw ((args_same args).1) refl)

  arg_same : (a : WArg) → Same arg_size arg_depth a (blank_arg (bare_arg a))
  arg_same (ATerm e) = (rw ((expr_same e).0) refl, rw ((expr_same e).1) refl)
  arg_same (AType t) = (rw ((ty_same t).0) refl, rw ((ty_same t).1) refl)
  arg_same (ACo g) = (rw ((co_same g).0) refl, rw ((co_same g).1) refl)

  bind_same : (b : WBind) → Same bind_size bind_depth b (blank_bind (bare_bind b))
  bind_same (Bound x t e) = (rw ((ty_same t).0, (expr_same e).0) refl, rw ((ty_same t).1, (expr_same e).1) refl)

  join_same : (j : WJoinBind) → Same join_size join_depth j (blank_join (bare_join j))
  join_same (Joined j ps e) = (rw ((binders_same ps).0, (expr_same e).0) refl, rw ((binders_same ps).1, (expr_same e).1) refl)

  alt_same : (a : WAlt) → Same alt_size alt_depth a (blank_alt (bare_alt a))
  alt_same (Branch h bs e) = (rw ((binders_same bs).0, (expr_same e).0) refl, rw ((binders_same bs).1, (expr_same e).1) refl)

  exprs_same : (es : WExprs) → Same exprs_size exprs_depth es (blank_exprs (bare_exprs es))
  exprs_same NoExprs = (refl, refl)
  exprs_same (MoreExprs e rest) = (rw ((expr_same e).0, (exprs_same rest).0) refl, rw ((expr_same e).1, (exprs_same rest).1) refl)

  args_same : (args : WArgs) → Same args_size args_depth args (blank_args (bare_args args))
  args_same NoArgs = (refl, refl)
  args_same (MoreArgs a rest) = (rw ((arg_same a).0, (args_same rest).0) refl, rw ((arg_same a).1, (args_same rest).1) refl)

  binds_same : (bs : WBinds) → Same binds_size binds_depth bs (blank_binds (bare_binds bs))
  binds_same NoBinds = (refl, refl)
  binds_same (MoreBinds b rest) = (rw ((bind_same b).0, (binds_same rest).0) refl, rw ((bind_same b).1, (binds_same rest).1) refl)

  joins_same : (js : WJoins) → Same joins_size joins_depth js (blank_joins (bare_joins js))
  joins_same NoJoins = (refl, refl)
  joins_same (MoreJoins j rest) = (rw ((join_same j).0, (joins_same rest).0) refl, rw ((join_same j).1, (joins_same rest).1) refl)

  alts_same : (alts : WAlts) → Same alts_size alts_depth alts (blank_alts (bare_alts alts))
  alts_same NoAlts = (refl, refl)
  alts_same (MoreAlts a rest) = (rw ((alt_same a).0, (alts_same rest).0) refl, rw ((alt_same a).1, (alts_same rest).1) refl)

-- DECLARATIONS

tys_same : (ts : List WTy) → Same tys_size tys_depth ts (map blank_ty (bare_tys ts))
tys_same [] = (refl, refl)
tys_same (t ∷ ts) = (rw ((ty_same t).0, (tys_same ts).0) refl, rw ((ty_same t).1, (tys_same ts).1) refl)

con_same : (c : WConDecl) → Same con_size con_depth c (blank_con (bare_con c))
con_same (ConOf n bs fields) = (rw ((binders_same bs).0, (tys_same fields).0) refl, rw ((binders_same bs).1, (tys_same fields).1) refl)

cons_same : (cs : List WConDecl) → Same cons_size cons_depth cs (map blank_con (map bare_con cs))
cons_same [] = (refl, refl)
cons_same (c ∷ cs) = (rw ((con_same c).0, (cons_same cs).0) refl, rw ((con_same c).1, (cons_same cs).1) refl)

decl_same : (d : WDecl) → Same decl_size depth_of d (blank_decl (bare_decl d))
decl_same (DData n ps cs) = (rw ((as_many bare_param blank_param ps).0, (cons_same cs).0) refl, rw ((as_many bare_param blank_param ps).1, (cons_same cs).1) refl)
decl_same (DNew n ps t con) = (rw ((as_many bare_param blank_param ps).0, (ty_same t).0) refl, rw ((as_many bare_param blank_param ps).1, (ty_same t).1) refl)
decl_same (DFamily n ps k) = (rw ((as_many bare_plain blank_plain ps).0) refl, rw ((as_many bare_plain blank_plain ps).1) refl)
decl_same (DAxiom n ps t u) = (rw ((as_many bare_plain blank_plain ps).0, (ty_same t).0, (ty_same u).0) refl, rw ((as_many bare_plain blank_plain ps).1, (ty_same t).1, (ty_same u).1) refl)
decl_same (DDef n t e) = (rw ((ty_same t).0, (expr_same e).0) refl, rw ((ty_same t).1, (expr_same e).1) refl)
decl_same (DWrap n t e) = (rw ((ty_same t).0, (expr_same e).0) refl, rw ((ty_same t).1, (expr_same e).1) refl)

pub decls_same : (ds : List WDecl) → Same decls_size decls_depth ds (blank_decls (bare_decls ds))
decls_same [] = (refl, refl)
decls_same (d ∷ ds) = (rw ((decl_same d).0, (decls_same ds).0) refl, rw ((decl_same d).1, (decls_same ds).1) refl)
