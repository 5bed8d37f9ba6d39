-- The nameless tree with the words of its binders, and without them. A tree in memory keeps the words that its binders were read
-- with, so that they come back where it is written; no judgement looks at them.
use Rattle.std.specs.Prelude.{ℕ, List, map}
use Rattle.fc_syntax.specs.declared.ty.Ref.{Ref}
use Rattle.fc_syntax.specs.declared.ty.Ref.TheVariants as ref
use Rattle.fc_syntax.specs.GenericTree as tree
use Rattle.fc_syntax.specs.GenericTree.{Word, Kind, TVar, TCon, TInt, TApp, TFun, TForall, TCoForall}
use Rattle.fc_syntax.specs.GenericTree.{GVar, GRefl, GSym, GTrans, GTc, GCapp, GFun, GAll, GCoAll, GInst, GNth, GLeft, GRight, GSub, GAx, GUniv, NoCos, MoreCos}
use Rattle.fc_syntax.specs.GenericTree.{BValue, BType, BCo, ATerm, AType, ACo, Bound, Joined, Branch}
use Rattle.fc_syntax.specs.GenericTree.{EVar, ELit, EApp, ELam, ELet, ECase, ECast, ECon, EPrim, EFail, EJoin, EJump}
use Rattle.fc_syntax.specs.GenericTree.{NoExprs, MoreExprs, NoArgs, MoreArgs, NoBinds, MoreBinds, NoJoins, MoreJoins, NoAlts, MoreAlts}
use Rattle.fc_syntax.specs.GenericTree.{ParamOf, PlainOf, ConOf, DData, DNew, DFamily, DAxiom, DDef, DWrap, ModuleOf}
use Rattle.fc_model.specs.Nameless.{NTy, NTVar, NTCon, NTInt, NTApp, NTFun, NTForall, NTCoForall}
use Rattle.fc_model.specs.Nameless.{NCo, NGVar, NGRefl, NGSym, NGTrans, NGTc, NGCapp, NGFun, NGAll, NGCoAll, NGInst, NGNth, NGLeft, NGRight, NGSub, NGAx, NGUniv, NCos, NoNCos, MoreNCos}
use Rattle.fc_model.specs.Nameless.{NBinder, NBValue, NBType, NBCo, NArg, NATerm, NAType, NACo, NBind, NBound, NJoinBind, NJoined, NAlt, NBranch}
use Rattle.fc_model.specs.Nameless.{NExpr, NLocal, NVar, NLit, NApp, NLam, NLet, NCase, NCast, NCon, NPrim, NFail, NJoin, NJump}
use Rattle.fc_model.specs.Nameless.{NExprs, NoNExprs, MoreNExprs, NArgs, NoNArgs, MoreNArgs, NBinds, NoNBinds, MoreNBinds, NJoins, NoNJoins, MoreNJoins, NAlts, NoNAlts, MoreNAlts}
use Rattle.fc_model.specs.Nameless.{NParam, NParamOf, NConDecl, NConOf, NDecl, NData, NNew, NFamily, NAxiom, NDef, NWrap, NModule, NModuleOf}

-- THE TREE WITH WORDS

abbrev pub WTy : Type 0
WTy = tree.Ty ℕ Word

abbrev pub WCo : Type 0
WCo = tree.Co ℕ Word

abbrev pub WCos : Type 0
WCos = tree.Cos ℕ Word

abbrev pub WBinder : Type 0
WBinder = tree.Binder ℕ Word

abbrev pub WExpr : Type 0
WExpr = tree.Expr ℕ Ref Word

abbrev pub WArg : Type 0
WArg = tree.Arg ℕ Ref Word

abbrev pub WBind : Type 0
WBind = tree.Bind ℕ Ref Word

abbrev pub WJoinBind : Type 0
WJoinBind = tree.JoinBind ℕ Ref Word

abbrev pub WAlt : Type 0
WAlt = tree.Alt ℕ Ref Word

abbrev pub WExprs : Type 0
WExprs = tree.Exprs ℕ Ref Word

abbrev pub WArgs : Type 0
WArgs = tree.Args ℕ Ref Word

abbrev pub WBinds : Type 0
WBinds = tree.Binds ℕ Ref Word

abbrev pub WJoins : Type 0
WJoins = tree.Joins ℕ Ref Word

abbrev pub WAlts : Type 0
WAlts = tree.Alts ℕ Ref Word

abbrev pub WConDecl : Type 0
WConDecl = tree.ConDecl ℕ Word

abbrev pub WDecl : Type 0
WDecl = tree.Decl ℕ Ref Word

abbrev pub WModule : Type 0
WModule = tree.Module ℕ Ref Word

-- WITHOUT WORDS

abbrev pub bare_ty : WTy → NTy
bare_ty (TVar i) = NTVar i
bare_ty (TCon n) = NTCon n
bare_ty TInt = NTInt
bare_ty (TApp t u) = NTApp (bare_ty t) (bare_ty u)
bare_ty (TFun t u) = NTFun (bare_ty t) (bare_ty u)
bare_ty (TForall a k t) = NTForall k (bare_ty t)
bare_ty (TCoForall r t u v) = NTCoForall r (bare_ty t) (bare_ty u) (bare_ty v)

abbrev pub bare_tys : List WTy → List NTy
bare_tys ts = map bare_ty ts

abbrev mutual
  pub bare_co : WCo → NCo
  bare_co (GVar i) = NGVar i
  bare_co (GRefl r t) = NGRefl r (bare_ty t)
  bare_co (GSym g) = NGSym (bare_co g)
  bare_co (GTrans g h) = NGTrans (bare_co g) (bare_co h)
  bare_co (GTc r n gs) = NGTc r n (bare_cos gs)
  bare_co (GCapp g h) = NGCapp (bare_co g) (bare_co h)
  bare_co (GFun g h) = NGFun (bare_co g) (bare_co h)
  bare_co (GAll a k g) = NGAll k (bare_co g)
  bare_co (GCoAll r e f g h) = NGCoAll r e (bare_co f) (bare_co g) (bare_co h)
  bare_co (GInst g h) = NGInst (bare_co g) (bare_co h)
  bare_co (GNth n g) = NGNth n (bare_co g)
  bare_co (GLeft g) = NGLeft (bare_co g)
  bare_co (GRight g) = NGRight (bare_co g)
  bare_co (GSub g) = NGSub (bare_co g)
  bare_co (GAx n gs) = NGAx n (bare_cos gs)
  bare_co (GUniv t u) = NGUniv (bare_ty t) (bare_ty u)

  pub bare_cos : WCos → NCos
  bare_cos NoCos = NoNCos
  bare_cos (MoreCos g gs) = MoreNCos (bare_co g) (bare_cos gs)

abbrev pub bare_binder : WBinder → NBinder
bare_binder (BValue x t) = NBValue (bare_ty t)
bare_binder (BType a k) = NBType k
bare_binder (BCo c r t u) = NBCo r (bare_ty t) (bare_ty u)

abbrev pub bare_binders : List WBinder → List NBinder
bare_binders bs = map bare_binder bs

abbrev mutual
  pub bare_expr : WExpr → NExpr
  bare_expr (EVar (ref.Local i)) = NLocal i
  bare_expr (EVar (ref.Top n)) = NVar n
  bare_expr (ELit n) = NLit n
  bare_expr (EApp f a) = NApp (bare_expr f) (bare_arg a)
  bare_expr (ELam b e) = NLam (bare_binder b) (bare_expr e)
  bare_expr (ELet r bs e) = NLet r (bare_binds bs) (bare_expr e)
  bare_expr (ECase e x t u alts) = NCase (bare_expr e) (bare_ty t) (bare_ty u) (bare_alts alts)
  bare_expr (ECast e g) = NCast (bare_expr e) (bare_co g)
  bare_expr (ECon n args) = NCon n (bare_args args)
  bare_expr (EPrim op es) = NPrim op (bare_exprs es)
  bare_expr (EFail t) = NFail (bare_ty t)
  bare_expr (EJoin r t js e) = NJoin r (bare_ty t) (bare_joins js) (bare_expr e)
  bare_expr (EJump j args) = NJump j (bare_args args)

  pub bare_arg : WArg → NArg
  bare_arg (ATerm e) = NATerm (bare_expr e)
  bare_arg (AType t) = NAType (bare_ty t)
  bare_arg (ACo g) = NACo (bare_co g)

  pub bare_bind : WBind → NBind
  bare_bind (Bound x t e) = NBound (bare_ty t) (bare_expr e)

  pub bare_join : WJoinBind → NJoinBind
  bare_join (Joined j ps e) = NJoined (bare_binders ps) (bare_expr e)

  pub bare_alt : WAlt → NAlt
  bare_alt (Branch h bs e) = NBranch h (bare_binders bs) (bare_expr e)

  pub bare_exprs : WExprs → NExprs
  bare_exprs NoExprs = NoNExprs
  bare_exprs (MoreExprs e rest) = MoreNExprs (bare_expr e) (bare_exprs rest)

  pub bare_args : WArgs → NArgs
  bare_args NoArgs = NoNArgs
  bare_args (MoreArgs a rest) = MoreNArgs (bare_arg a) (bare_args rest)

  pub bare_binds : WBinds → NBinds
  bare_binds NoBinds = NoNBinds
  bare_binds (MoreBinds b rest) = MoreNBinds (bare_bind b) (bare_binds rest)

  pub bare_joins : WJoins → NJoins
  bare_joins NoJoins = NoNJoins
  bare_joins (MoreJoins j rest) = MoreNJoins (bare_join j) (bare_joins rest)

  pub bare_alts : WAlts → NAlts
  bare_alts NoAlts = NoNAlts
  bare_alts (MoreAlts a rest) = MoreNAlts (bare_alt a) (bare_alts rest)

abbrev pub bare_param : tree.Param Word → NParam
bare_param (ParamOf a k r) = NParamOf k r

abbrev pub bare_plain : tree.Plain Word → Kind
bare_plain (PlainOf a k) = k

abbrev pub bare_con : WConDecl → NConDecl
bare_con (ConOf n bs fields) = NConOf n (bare_binders bs) (bare_tys fields)

abbrev pub bare_decl : WDecl → NDecl
bare_decl (DData n ps cs) = NData n (map bare_param ps) (map bare_con cs)
bare_decl (DNew n ps t con) = NNew n (map bare_param ps) (bare_ty t) con
bare_decl (DFamily n ps k) = NFamily n (map bare_plain ps) k
bare_decl (DAxiom n ps t u) = NAxiom n (map bare_plain ps) (bare_ty t) (bare_ty u)
bare_decl (DDef n t e) = NDef n (bare_ty t) (bare_expr e)
bare_decl (DWrap n t e) = NWrap n (bare_ty t) (bare_expr e)

abbrev pub bare_decls : List WDecl → List NDecl
bare_decls ds = map bare_decl ds

abbrev pub bare_module : WModule → NModule
bare_module (ModuleOf n imports exports hidden ds) = NModuleOf n imports exports hidden (bare_decls ds)
