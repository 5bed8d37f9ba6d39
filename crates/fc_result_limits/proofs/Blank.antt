-- A tree with words for each nameless one: every word is empty.
use Rattle.std.specs.Prelude.{List, [], map}
use Rattle.fc_syntax.specs.declared.ty.Ref.TheVariants as ref
use Rattle.fc_syntax.specs.GenericTree as tree
use Rattle.fc_syntax.specs.GenericTree.{Word, Kind, TVar, TCon, TInt, TApp, TFun, TForall, TCoForall}
use Rattle.fc_syntax.specs.GenericTree.{GVar, GRefl, GSym, GTrans, GTc, GCapp, GFun, GAll, GCoAll, GInst, GNth, GLeft, GRight, GSub, GAx, GUniv, NoCos, MoreCos}
use Rattle.fc_syntax.specs.GenericTree.{BValue, BType, BCo, ATerm, AType, ACo, Bound, Joined, Branch}
use Rattle.fc_syntax.specs.GenericTree.{EVar, ELit, EApp, ELam, ELet, ECase, ECast, ECon, EPrim, EFail, EJoin, EJump}
use Rattle.fc_syntax.specs.GenericTree.{NoExprs, MoreExprs, NoArgs, MoreArgs, NoBinds, MoreBinds, NoJoins, MoreJoins, NoAlts, MoreAlts}
use Rattle.fc_syntax.specs.GenericTree.{ParamOf, PlainOf, ConOf, DData, DNew, DFamily, DAxiom, DDef, DWrap}
use Rattle.fc_model.specs.Nameless.{NTy, NTVar, NTCon, NTInt, NTApp, NTFun, NTForall, NTCoForall}
use Rattle.fc_model.specs.Nameless.{NCo, NGVar, NGRefl, NGSym, NGTrans, NGTc, NGCapp, NGFun, NGAll, NGCoAll, NGInst, NGNth, NGLeft, NGRight, NGSub, NGAx, NGUniv, NCos, NoNCos, MoreNCos}
use Rattle.fc_model.specs.Nameless.{NBinder, NBValue, NBType, NBCo, NArg, NATerm, NAType, NACo, NBind, NBound, NJoinBind, NJoined, NAlt, NBranch}
use Rattle.fc_model.specs.Nameless.{NExpr, NLocal, NVar, NLit, NApp, NLam, NLet, NCase, NCast, NCon, NPrim, NFail, NJoin, NJump}
use Rattle.fc_model.specs.Nameless.{NExprs, NoNExprs, MoreNExprs, NArgs, NoNArgs, MoreNArgs, NBinds, NoNBinds, MoreNBinds, NJoins, NoNJoins, MoreNJoins, NAlts, NoNAlts, MoreNAlts}
use Rattle.fc_model.specs.Nameless.{NParam, NParamOf, NConDecl, NConOf, NDecl, NData, NNew, NFamily, NAxiom, NDef, NWrap}
use Rattle.fc_model.specs.Worded.{WTy, WCo, WCos, WBinder, WExpr, WArg, WBind, WJoinBind, WAlt, WExprs, WArgs, WBinds, WJoins, WAlts, WConDecl, WDecl}

abbrev no_word : Word
no_word = []

abbrev pub blank_ty : NTy → WTy
blank_ty (NTVar i) = TVar i
blank_ty (NTCon n) = TCon n
blank_ty NTInt = TInt
blank_ty (NTApp t u) = TApp (blank_ty t) (blank_ty u)
blank_ty (NTFun t u) = TFun (blank_ty t) (blank_ty u)
blank_ty (NTForall k t) = TForall no_word k (blank_ty t)
blank_ty (NTCoForall r t u v) = TCoForall r (blank_ty t) (blank_ty u) (blank_ty v)

abbrev mutual
  pub blank_co : NCo → WCo
  blank_co (NGVar i) = GVar i
  blank_co (NGRefl r t) = GRefl r (blank_ty t)
  blank_co (NGSym g) = GSym (blank_co g)
  blank_co (NGTrans g h) = GTrans (blank_co g) (blank_co h)
  blank_co (NGTc r n gs) = GTc r n (blank_cos gs)
  blank_co (NGCapp g h) = GCapp (blank_co g) (blank_co h)
  blank_co (NGFun g h) = GFun (blank_co g) (blank_co h)
  blank_co (NGAll k g) = GAll no_word k (blank_co g)
  blank_co (NGCoAll r e f g h) = GCoAll r e (blank_co f) (blank_co g) (blank_co h)
  blank_co (NGInst g h) = GInst (blank_co g) (blank_co h)
  blank_co (NGNth n g) = GNth n (blank_co g)
  blank_co (NGLeft g) = GLeft (blank_co g)
  blank_co (NGRight g) = GRight (blank_co g)
  blank_co (NGSub g) = GSub (blank_co g)
  blank_co (NGAx n gs) = GAx n (blank_cos gs)
  blank_co (NGUniv t u) = GUniv (blank_ty t) (blank_ty u)

  pub blank_cos : NCos → WCos
  blank_cos NoNCos = NoCos
  blank_cos (MoreNCos g gs) = MoreCos (blank_co g) (blank_cos gs)

abbrev pub blank_binder : NBinder → WBinder
blank_binder (NBValue t) = BValue no_word (blank_ty t)
blank_binder (NBType k) = BType no_word k
blank_binder (NBCo r t u) = BCo no_word r (blank_ty t) (blank_ty u)

abbrev pub blank_binders : List NBinder → List WBinder
blank_binders bs = map blank_binder bs

abbrev mutual
  pub blank_expr : NExpr → WExpr
  blank_expr (NLocal i) = EVar (ref.Local i)
  blank_expr (NVar n) = EVar (ref.Top n)
  blank_expr (NLit n) = ELit n
  blank_expr (NApp f a) = EApp (blank_expr f) (blank_arg a)
  blank_expr (NLam b e) = ELam (blank_binder b) (blank_expr e)
  blank_expr (NLet r bs e) = ELet r (blank_binds bs) (blank_expr e)
  blank_expr (NCase e t u alts) = ECase (blank_expr e) no_word (blank_ty t) (blank_ty u) (blank_alts alts)
  blank_expr (NCast e g) = ECast (blank_expr e) (blank_co g)
  blank_expr (NCon n args) = ECon n (blank_args args)
  blank_expr (NPrim op es) = EPrim op (blank_exprs es)
  blank_expr (NFail t) = EFail (blank_ty t)
  blank_expr (NJoin r t js e) = EJoin r (blank_ty t) (blank_joins js) (blank_expr e)
  blank_expr (NJump j args) = EJump j (blank_args args)

  pub blank_arg : NArg → WArg
  blank_arg (NATerm e) = ATerm (blank_expr e)
  blank_arg (NAType t) = AType (blank_ty t)
  blank_arg (NACo g) = ACo (blank_co g)

  pub blank_bind : NBind → WBind
  blank_bind (NBound t e) = Bound no_word (blank_ty t) (blank_expr e)

  pub blank_join : NJoinBind → WJoinBind
  blank_join (NJoined ps e) = Joined no_word (blank_binders ps) (blank_expr e)

  pub blank_alt : NAlt → WAlt
  blank_alt (NBranch h bs e) = Branch h (blank_binders bs) (blank_expr e)

  pub blank_exprs : NExprs → WExprs
  blank_exprs NoNExprs = NoExprs
  blank_exprs (MoreNExprs e rest) = MoreExprs (blank_expr e) (blank_exprs rest)

  pub blank_args : NArgs → WArgs
  blank_args NoNArgs = NoArgs
  blank_args (MoreNArgs a rest) = MoreArgs (blank_arg a) (blank_args rest)

  pub blank_binds : NBinds → WBinds
  blank_binds NoNBinds = NoBinds
  blank_binds (MoreNBinds b rest) = MoreBinds (blank_bind b) (blank_binds rest)

  pub blank_joins : NJoins → WJoins
  blank_joins NoNJoins = NoJoins
  blank_joins (MoreNJoins j rest) = MoreJoins (blank_join j) (blank_joins rest)

  pub blank_alts : NAlts → WAlts
  blank_alts NoNAlts = NoAlts
  blank_alts (MoreNAlts a rest) = MoreAlts (blank_alt a) (blank_alts rest)

abbrev pub blank_param : NParam → tree.Param Word
blank_param (NParamOf k r) = ParamOf no_word k r

abbrev pub blank_plain : Kind → tree.Plain Word
blank_plain k = PlainOf no_word k

abbrev pub blank_con : NConDecl → WConDecl
blank_con (NConOf n bs fields) = ConOf n (blank_binders bs) (map blank_ty fields)

abbrev pub blank_decl : NDecl → WDecl
blank_decl (NData n ps cs) = DData n (map blank_param ps) (map blank_con cs)
blank_decl (NNew n ps t con) = DNew n (map blank_param ps) (blank_ty t) con
blank_decl (NFamily n ps k) = DFamily n (map blank_plain ps) k
blank_decl (NAxiom n ps t u) = DAxiom n (map blank_plain ps) (blank_ty t) (blank_ty u)
blank_decl (NDef n t e) = DDef n (blank_ty t) (blank_expr e)
blank_decl (NWrap n t e) = DWrap n (blank_ty t) (blank_expr e)

abbrev pub blank_decls : List NDecl → List WDecl
blank_decls ds = map blank_decl ds
