-- The hints of a tree: the words that its binders keep, each once, in a fixed order of its parts.
use Rattle.std.specs.Prelude.{List, [], ◌∷◌, ◌++◌, map, flat_map}
use Rattle.fc_syntax.specs.GenericTree.{Ty, TVar, TCon, TInt, TApp, TFun, TForall, TCoForall}
use Rattle.fc_syntax.specs.GenericTree.{Co, GVar, GRefl, GSym, GTrans, GTc, GCapp, GFun, GAll, GCoAll, GInst, GNth, GLeft, GRight, GSub, GAx, GUniv, Cos, NoCos, MoreCos}
use Rattle.fc_syntax.specs.GenericTree.{Binder, BValue, BType, BCo, Arg, ATerm, AType, ACo, Bind, Bound, JoinBind, Joined, Alt, Branch}
use Rattle.fc_syntax.specs.GenericTree.{Expr, EVar, ELit, EApp, ELam, ELet, ECase, ECast, ECon, EPrim, EFail, EJoin, EJump}
use Rattle.fc_syntax.specs.GenericTree.{Exprs, NoExprs, MoreExprs, Args, NoArgs, MoreArgs, Binds, NoBinds, MoreBinds, Joins, NoJoins, MoreJoins, Alts, NoAlts, MoreAlts}
use Rattle.fc_syntax.specs.GenericTree.{Param, ParamOf, Plain, PlainOf, ConDecl, ConOf, Decl, DData, DNew, DFamily, DAxiom, DDef, DWrap, Module, ModuleOf}

abbrev pub ty_hints : {L B : Type 0} → Ty L B → List B
ty_hints (TVar a) = []
ty_hints (TCon n) = []
ty_hints TInt = []
ty_hints (TApp t u) = ty_hints t ++ ty_hints u
ty_hints (TFun t u) = ty_hints t ++ ty_hints u
ty_hints (TForall a k t) = a ∷ ty_hints t
ty_hints (TCoForall r t u v) = ty_hints t ++ (ty_hints u ++ ty_hints v)

abbrev pub tys_hints : {L B : Type 0} → List (Ty L B) → List B
tys_hints ts = flat_map ty_hints ts

abbrev mutual
  pub co_hints : {L B : Type 0} → Co L B → List B
  co_hints (GVar c) = []
  co_hints (GRefl r t) = ty_hints t
  co_hints (GSym g) = co_hints g
  co_hints (GTrans g h) = co_hints g ++ co_hints h
  co_hints (GTc r n gs) = cos_hints gs
  co_hints (GCapp g h) = co_hints g ++ co_hints h
  co_hints (GFun g h) = co_hints g ++ co_hints h
  co_hints (GAll a k g) = a ∷ co_hints g
  co_hints (GCoAll r e f g h) = co_hints f ++ (co_hints g ++ co_hints h)
  co_hints (GInst g h) = co_hints g ++ co_hints h
  co_hints (GNth n g) = co_hints g
  co_hints (GLeft g) = co_hints g
  co_hints (GRight g) = co_hints g
  co_hints (GSub g) = co_hints g
  co_hints (GAx n gs) = cos_hints gs
  co_hints (GUniv t u) = ty_hints t ++ ty_hints u

  pub cos_hints : {L B : Type 0} → Cos L B → List B
  cos_hints NoCos = []
  cos_hints (MoreCos g gs) = co_hints g ++ cos_hints gs

abbrev pub binder_hints : {L B : Type 0} → Binder L B → List B
binder_hints (BValue x t) = x ∷ ty_hints t
binder_hints (BType a k) = a ∷ []
binder_hints (BCo c r t u) = c ∷ (ty_hints t ++ ty_hints u)

abbrev pub binders_hints : {L B : Type 0} → List (Binder L B) → List B
binders_hints bs = flat_map binder_hints bs

abbrev mutual
  pub expr_hints : {L V B : Type 0} → Expr L V B → List B
  expr_hints (EVar v) = []
  expr_hints (ELit n) = []
  expr_hints (EApp f a) = expr_hints f ++ arg_hints a
  expr_hints (ELam b e) = binder_hints b ++ expr_hints e
  expr_hints (ELet r bs e) = binds_hints bs ++ expr_hints e
  expr_hints (ECase e x t u alts) = x ∷ (expr_hints e ++ (ty_hints t ++ (ty_hints u ++ alts_hints alts)))
  expr_hints (ECast e g) = expr_hints e ++ co_hints g
  expr_hints (ECon n args) = args_hints args
  expr_hints (EPrim op es) = exprs_hints es
  expr_hints (EFail t) = ty_hints t
  expr_hints (EJoin r t js e) = ty_hints t ++ (joins_hints js ++ expr_hints e)
  expr_hints (EJump j args) = args_hints args

  pub arg_hints : {L V B : Type 0} → Arg L V B → List B
  arg_hints (ATerm e) = expr_hints e
  arg_hints (AType t) = ty_hints t
  arg_hints (ACo g) = co_hints g

  pub bind_hints : {L V B : Type 0} → Bind L V B → List B
  bind_hints (Bound x t e) = x ∷ (ty_hints t ++ expr_hints e)

  pub join_hints : {L V B : Type 0} → JoinBind L V B → List B
  join_hints (Joined j ps e) = j ∷ (binders_hints ps ++ expr_hints e)

  pub alt_hints : {L V B : Type 0} → Alt L V B → List B
  alt_hints (Branch h bs e) = binders_hints bs ++ expr_hints e

  pub exprs_hints : {L V B : Type 0} → Exprs L V B → List B
  exprs_hints NoExprs = []
  exprs_hints (MoreExprs e rest) = expr_hints e ++ exprs_hints rest

  pub args_hints : {L V B : Type 0} → Args L V B → List B
  args_hints NoArgs = []
  args_hints (MoreArgs a rest) = arg_hints a ++ args_hints rest

  pub binds_hints : {L V B : Type 0} → Binds L V B → List B
  binds_hints NoBinds = []
  binds_hints (MoreBinds b rest) = bind_hints b ++ binds_hints rest

  pub joins_hints : {L V B : Type 0} → Joins L V B → List B
  joins_hints NoJoins = []
  joins_hints (MoreJoins j rest) = join_hints j ++ joins_hints rest

  pub alts_hints : {L V B : Type 0} → Alts L V B → List B
  alts_hints NoAlts = []
  alts_hints (MoreAlts a rest) = alt_hints a ++ alts_hints rest

abbrev pub param_hint : {B : Type 0} → Param B → B
param_hint (ParamOf a k r) = a

abbrev pub plain_hint : {B : Type 0} → Plain B → B
plain_hint (PlainOf a k) = a

abbrev pub con_hints : {L B : Type 0} → ConDecl L B → List B
con_hints (ConOf n bs fields) = binders_hints bs ++ tys_hints fields

abbrev pub decl_hints : {L V B : Type 0} → Decl L V B → List B
decl_hints (DData n ps cs) = map param_hint ps ++ flat_map con_hints cs
decl_hints (DNew n ps t con) = map param_hint ps ++ ty_hints t
decl_hints (DFamily n ps k) = map plain_hint ps
decl_hints (DAxiom n ps t u) = map plain_hint ps ++ (ty_hints t ++ ty_hints u)
decl_hints (DDef n t e) = ty_hints t ++ expr_hints e
decl_hints (DWrap n t e) = ty_hints t ++ expr_hints e

abbrev pub decls_hints : {L V B : Type 0} → List (Decl L V B) → List B
decls_hints ds = flat_map decl_hints ds

abbrev pub module_hints : {L V B : Type 0} → Module L V B → List B
module_hints (ModuleOf n imports exports hidden ds) = decls_hints ds
