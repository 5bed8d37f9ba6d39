-- What the trees of src mean: the view of each type, and its equation of one level.
use Rattle.std.specs.Prelude.{List, [], ◌∷◌, map}
use Rattle.fc_syntax.specs.GenericTree.{Word, Kind, KStar, KHash, KArrow, Ty, TVar, TCon, TInt, TApp, TFun, TForall, TCoForall}
use Rattle.fc_syntax.specs.GenericTree.{Co, GVar, GRefl, GSym, GTrans, GTc, GCapp, GFun, GAll, GCoAll, GInst, GNth, GLeft, GRight, GSub, GAx, GUniv, Cos, NoCos, MoreCos}
use Rattle.fc_syntax.specs.GenericTree.{Binder, BValue, BType, BCo, Arg, ATerm, AType, ACo, Bind, Bound, JoinBind, Joined, Alt, Branch}
use Rattle.fc_syntax.specs.GenericTree.{Expr, EVar, ELit, EApp, ELam, ELet, ECase, ECast, ECon, EPrim, EFail, EJoin, EJump}
use Rattle.fc_syntax.specs.GenericTree.{Exprs, NoExprs, MoreExprs, Args, NoArgs, MoreArgs, Binds, NoBinds, MoreBinds, Joins, NoJoins, MoreJoins, Alts, NoAlts, MoreAlts}
use Rattle.fc_syntax.specs.GenericTree.{Param, ParamOf, Plain, PlainOf, ConDecl, ConOf, Decl, DData, DNew, DFamily, DAxiom, DDef, DWrap, Module, ModuleOf}
use Rattle.fc_syntax.specs.declared.ty.Kind as K
use Rattle.fc_syntax.specs.declared.ty.Kind.{Kind-F, out-Kind}
use Rattle.fc_syntax.specs.declared.ty.Ty as T
use Rattle.fc_syntax.specs.declared.ty.Ty.{Ty-F, out-Ty}
use Rattle.fc_syntax.specs.declared.co.Co as G
use Rattle.fc_syntax.specs.declared.co.Co.{Co-F, out-Co, Row_of-Co, end_of-Co, more_of-Co}
use Rattle.fc_syntax.specs.declared.expr.Binder as RustBinder
use Rattle.fc_syntax.specs.declared.expr.Binder.TheVariants as B
use Rattle.fc_syntax.specs.declared.expr.Arg as A
use Rattle.fc_syntax.specs.declared.expr.Bind as RustBind
use Rattle.fc_syntax.specs.declared.expr.JoinBind as RustJoin
use Rattle.fc_syntax.specs.declared.expr.Alt as RustAlt
use Rattle.fc_syntax.specs.declared.module.Param as RustParam
use Rattle.fc_syntax.specs.declared.module.Plain as RustPlain
use Rattle.fc_syntax.specs.declared.module.ConDecl as RustConDecl
use Rattle.fc_syntax.specs.declared.module.Decl as RustDecl
use Rattle.fc_syntax.specs.declared.module.Decl.TheVariants as D
use Rattle.fc_syntax.specs.declared.module.Module as RustModule
use Rattle.fc_syntax.specs.declared.expr.Expr as E
use Rattle.fc_syntax.specs.declared.expr.Expr.{Expr-F, out-Expr, Row_of-Expr, end_of-Expr, more_of-Expr, Row_of-Arg, end_of-Arg, more_of-Arg, Row_of-Bind, end_of-Bind, more_of-Bind, Row_of-Alt, end_of-Alt, more_of-Alt, Row_of-JoinBind, end_of-JoinBind, more_of-JoinBind}

unfoldable pub kind_of : K.Kind → Kind
kind_of K.Star = KStar
kind_of K.Hash = KHash
kind_of (K.Arrow' _ a _ b) = KArrow (kind_of a) (kind_of b)

abbrev pub kind_layer : Kind-F K.Kind → Kind
kind_layer Kind-F.Star = KStar
kind_layer Kind-F.Hash = KHash
kind_layer (Kind-F.Arrow a b) = KArrow (kind_of a.value) (kind_of b.value)

unfoldable pub ty_of : {L : Type 0} → T.Ty L → Ty L Word
ty_of (T.Var a) = TVar a
ty_of (T.Con n) = TCon n
ty_of T.IntHash = TInt
ty_of (T.App' _ t _ u) = TApp (ty_of t) (ty_of u)
ty_of (T.Fun' _ t _ u) = TFun (ty_of t) (ty_of u)
ty_of (T.Forall' a k _ t) = TForall a (kind_of k) (ty_of t)
ty_of (T.CoForall' r _ t _ u _ v) = TCoForall r (ty_of t) (ty_of u) (ty_of v)

abbrev pub ty_layer : {L : Type 0} → Ty-F L (T.Ty L) → Ty L Word
ty_layer (Ty-F.Var a) = TVar a
ty_layer (Ty-F.Con n) = TCon n
ty_layer Ty-F.IntHash = TInt
ty_layer (Ty-F.App t u) = TApp (ty_of t.value) (ty_of u.value)
ty_layer (Ty-F.Fun t u) = TFun (ty_of t.value) (ty_of u.value)
ty_layer (Ty-F.Forall a k t) = TForall a (kind_of k) (ty_of t.value)
ty_layer (Ty-F.CoForall r t u v) = TCoForall r (ty_of t.value) (ty_of u.value) (ty_of v.value)

unfoldable mutual
  pub co_of : {L : Type 0} → G.Co L → Co L Word
  co_of (G.Var c) = GVar c
  co_of (G.Refl r t) = GRefl r (ty_of t)
  co_of (G.Sym' _ g) = GSym (co_of g)
  co_of (G.Trans' _ g _ h) = GTrans (co_of g) (co_of h)
  co_of (G.Tc' r n _ gs) = GTc r n (cos_row gs)
  co_of (G.Capp' _ g _ h) = GCapp (co_of g) (co_of h)
  co_of (G.FunCo' _ g _ h) = GFun (co_of g) (co_of h)
  co_of (G.AllCo' a k _ g) = GAll a (kind_of k) (co_of g)
  co_of (G.CoAllCo' r s _ f _ g _ h) = GCoAll r s (co_of f) (co_of g) (co_of h)
  co_of (G.Inst' _ g _ h) = GInst (co_of g) (co_of h)
  co_of (G.Nth' n _ g) = GNth n (co_of g)
  co_of (G.Left' _ g) = GLeft (co_of g)
  co_of (G.Right' _ g) = GRight (co_of g)
  co_of (G.Sub' _ g) = GSub (co_of g)
  co_of (G.Ax' n _ gs) = GAx n (cos_row gs)
  co_of (G.Univ t u) = GUniv (ty_of t) (ty_of u)

  pub cos_row : {L : Type 0} {n : _} → Row_of-Co L n → Cos L Word
  cos_row end_of-Co = NoCos
  cos_row (more_of-Co g rest) = MoreCos (co_of g) (cos_row rest)

abbrev pub cos_of : {L : Type 0} → List (G.Co L) → Cos L Word
cos_of [] = NoCos
cos_of (g ∷ gs) = MoreCos (co_of g) (cos_of gs)

abbrev pub co_layer : {L : Type 0} → Co-F L (G.Co L) → Co L Word
co_layer (Co-F.Var c) = GVar c
co_layer (Co-F.Refl r t) = GRefl r (ty_of t)
co_layer (Co-F.Sym g) = GSym (co_of g.value)
co_layer (Co-F.Trans g h) = GTrans (co_of g.value) (co_of h.value)
co_layer (Co-F.Tc r n gs) = GTc r n (cos_of gs)
co_layer (Co-F.Capp g h) = GCapp (co_of g.value) (co_of h.value)
co_layer (Co-F.FunCo g h) = GFun (co_of g.value) (co_of h.value)
co_layer (Co-F.AllCo a k g) = GAll a (kind_of k) (co_of g.value)
co_layer (Co-F.CoAllCo r s f g h) = GCoAll r s (co_of f.value) (co_of g.value) (co_of h.value)
co_layer (Co-F.Inst g h) = GInst (co_of g.value) (co_of h.value)
co_layer (Co-F.Nth n g) = GNth n (co_of g.value)
co_layer (Co-F.Left g) = GLeft (co_of g.value)
co_layer (Co-F.Right g) = GRight (co_of g.value)
co_layer (Co-F.Sub g) = GSub (co_of g.value)
co_layer (Co-F.Ax n gs) = GAx n (cos_of gs)
co_layer (Co-F.Univ t u) = GUniv (ty_of t) (ty_of u)

abbrev pub binder_of : {L : Type 0} → RustBinder.Binder L → Binder L Word
binder_of (B.Value x t) = BValue x (ty_of t)
binder_of (B.OfType a k) = BType a (kind_of k)
binder_of (B.OfCo c r t u) = BCo c r (ty_of t) (ty_of u)

abbrev pub binders_of : {L : Type 0} → List (RustBinder.Binder L) → List (Binder L Word)
binders_of bs = map binder_of bs

unfoldable mutual
  pub expr_of : {L V : Type 0} → E.Expr L V → Expr L V Word
  expr_of (E.Var n) = EVar n
  expr_of (E.Lit n) = ELit n
  expr_of (E.App' _ f _ (A.Term a)) = EApp (expr_of f) (ATerm (expr_of a))
  expr_of (E.App' _ f _ (A.OfType t)) = EApp (expr_of f) (AType (ty_of t))
  expr_of (E.App' _ f _ (A.OfCo g)) = EApp (expr_of f) (ACo (co_of g))
  expr_of (E.Lam' b _ e) = ELam (binder_of b.value) (expr_of e)
  expr_of (E.Let' r _ bs _ e) = ELet r (binds_row bs) (expr_of e)
  expr_of (E.Case' _ e x t u _ alts) = ECase (expr_of e) x (ty_of t) (ty_of u) (alts_row alts)
  expr_of (E.Cast' _ e g) = ECast (expr_of e) (co_of g)
  expr_of (E.Con' n _ args) = ECon n (args_row args)
  expr_of (E.Prim' op _ es) = EPrim op (exprs_row es)
  expr_of (E.Fail t) = EFail (ty_of t)
  expr_of (E.Join' r t _ js _ e) = EJoin r (ty_of t) (joins_row js) (expr_of e)
  expr_of (E.Jump' j _ args) = EJump j (args_row args)

  pub exprs_row : {L V : Type 0} {n : _} → Row_of-Expr L V n → Exprs L V Word
  exprs_row end_of-Expr = NoExprs
  exprs_row (more_of-Expr e rest) = MoreExprs (expr_of e) (exprs_row rest)

  pub args_row : {L V : Type 0} {n : _} → Row_of-Arg L V n → Args L V Word
  args_row end_of-Arg = NoArgs
  args_row (more_of-Arg (A.Term e) rest) = MoreArgs (ATerm (expr_of e)) (args_row rest)
  args_row (more_of-Arg (A.OfType t) rest) = MoreArgs (AType (ty_of t)) (args_row rest)
  args_row (more_of-Arg (A.OfCo g) rest) = MoreArgs (ACo (co_of g)) (args_row rest)

  pub binds_row : {L V : Type 0} {n : _} → Row_of-Bind L V n → Binds L V Word
  binds_row end_of-Bind = NoBinds
  binds_row (more_of-Bind x t e rest) = MoreBinds (Bound x (ty_of t) (expr_of e)) (binds_row rest)

  pub joins_row : {L V : Type 0} {n : _} → Row_of-JoinBind L V n → Joins L V Word
  joins_row end_of-JoinBind = NoJoins
  joins_row (more_of-JoinBind j ps e rest) = MoreJoins (Joined j (binders_of ps) (expr_of e)) (joins_row rest)

  pub alts_row : {L V : Type 0} {n : _} → Row_of-Alt L V n → Alts L V Word
  alts_row end_of-Alt = NoAlts
  alts_row (more_of-Alt h bs e rest) = MoreAlts (Branch h (binders_of bs) (expr_of e)) (alts_row rest)

abbrev pub arg_of : {L V : Type 0} → A.Arg L V → Arg L V Word
arg_of (A.Term e) = ATerm (expr_of e)
arg_of (A.OfType t) = AType (ty_of t)
arg_of (A.OfCo g) = ACo (co_of g)

abbrev pub bind_of : {L V : Type 0} → RustBind.Bind L V → Bind L V Word
bind_of b = Bound b.name (ty_of b.ty) (expr_of b.rhs)

abbrev pub join_of : {L V : Type 0} → RustJoin.JoinBind L V → JoinBind L V Word
join_of j = Joined j.name (binders_of j.params) (expr_of j.rhs)

abbrev pub alt_of : {L V : Type 0} → RustAlt.Alt L V → Alt L V Word
alt_of a = Branch a.head (binders_of a.binders) (expr_of a.body)

abbrev pub exprs_of : {L V : Type 0} → List (E.Expr L V) → Exprs L V Word
exprs_of [] = NoExprs
exprs_of (e ∷ es) = MoreExprs (expr_of e) (exprs_of es)

abbrev pub args_of : {L V : Type 0} → List (A.Arg L V) → Args L V Word
args_of [] = NoArgs
args_of (a ∷ rest) = MoreArgs (arg_of a) (args_of rest)

abbrev pub binds_of : {L V : Type 0} → List (RustBind.Bind L V) → Binds L V Word
binds_of [] = NoBinds
binds_of (b ∷ bs) = MoreBinds (bind_of b) (binds_of bs)

abbrev pub joins_of : {L V : Type 0} → List (RustJoin.JoinBind L V) → Joins L V Word
joins_of [] = NoJoins
joins_of (j ∷ js) = MoreJoins (join_of j) (joins_of js)

abbrev pub alts_of : {L V : Type 0} → List (RustAlt.Alt L V) → Alts L V Word
alts_of [] = NoAlts
alts_of (a ∷ rest) = MoreAlts (alt_of a) (alts_of rest)

abbrev pub expr_layer : {L V : Type 0} → Expr-F L V (A.Arg L V) (E.Expr L V) (RustAlt.Alt L V) (RustBind.Bind L V) (RustJoin.JoinBind L V) → Expr L V Word
expr_layer (Expr-F.Var n) = EVar n
expr_layer (Expr-F.Lit n) = ELit n
expr_layer (Expr-F.App f a) = EApp (expr_of f.value) (arg_of a.value)
expr_layer (Expr-F.Lam b e) = ELam (binder_of b.value) (expr_of e.value)
expr_layer (Expr-F.Let r bs e) = ELet r (binds_of bs) (expr_of e.value)
expr_layer (Expr-F.Case e x t u alts) = ECase (expr_of e.value) x (ty_of t) (ty_of u) (alts_of alts)
expr_layer (Expr-F.Cast e g) = ECast (expr_of e.value) (co_of g)
expr_layer (Expr-F.Con n args) = ECon n (args_of args)
expr_layer (Expr-F.Prim op es) = EPrim op (exprs_of es)
expr_layer (Expr-F.Fail t) = EFail (ty_of t)
expr_layer (Expr-F.Join r t js e) = EJoin r (ty_of t) (joins_of js) (expr_of e.value)
expr_layer (Expr-F.Jump j args) = EJump j (args_of args)

abbrev pub tys_of : {L : Type 0} → List (T.Ty L) → List (Ty L Word)
tys_of ts = map ty_of ts

abbrev pub param_of : RustParam.Param → Param Word
param_of p = ParamOf p.name (kind_of p.kind) p.role

abbrev pub params_of : List RustParam.Param → List (Param Word)
params_of ps = map param_of ps

abbrev pub plain_of : RustPlain.Plain → Plain Word
plain_of p = PlainOf p.name (kind_of p.kind)

abbrev pub plains_of : List RustPlain.Plain → List (Plain Word)
plains_of ps = map plain_of ps

abbrev pub con_of : {L : Type 0} → RustConDecl.ConDecl L → ConDecl L Word
con_of c = ConOf c.name (binders_of c.binders) (tys_of c.fields)

abbrev pub cons_of : {L : Type 0} → List (RustConDecl.ConDecl L) → List (ConDecl L Word)
cons_of cs = map con_of cs

abbrev pub decl_of : {L V : Type 0} → RustDecl.Decl L V → Decl L V Word
decl_of (D.DataType n ps cs) = DData n (params_of ps) (cons_of cs)
decl_of (D.NewType n ps t con) = DNew n (params_of ps) (ty_of t) con
decl_of (D.Family n ps k) = DFamily n (plains_of ps) (kind_of k)
decl_of (D.Axiom n ps t u) = DAxiom n (plains_of ps) (ty_of t) (ty_of u)
decl_of (D.Def n t e) = DDef n (ty_of t) (expr_of e)
decl_of (D.Wrap n t e) = DWrap n (ty_of t) (expr_of e)

abbrev pub decls_of : {L V : Type 0} → List (RustDecl.Decl L V) → List (Decl L V Word)
decls_of ds = map decl_of ds

abbrev pub module_of : {L V : Type 0} → RustModule.Module L V → Module L V Word
module_of m = ModuleOf m.name m.imports m.exports m.hidden (decls_of m.decls)
