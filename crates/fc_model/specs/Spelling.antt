-- What is printed of a tree: its pieces, each form as its line of the grammar says. Nested applications, lambdas, type applications and
-- functions are flattened as far as they go. Each definition puts its pieces in front of those that follow.
use Rattle.std.specs.Prelude.{true, false, List, [], ◌∷◌, Some, None}
use Rattle.fc_syntax.specs.declared.ty.Name.{Name}
use Rattle.fc_syntax.specs.declared.ty.Role.{Role}
use Rattle.fc_syntax.specs.declared.ty.Role.TheVariants as role
use Rattle.fc_syntax.specs.declared.expr.Head.TheVariants as head
use Rattle.fc_syntax.specs.declared.expr.PrimOp.{PrimOp}
use Rattle.fc_syntax.specs.declared.expr.PrimOp.TheVariants as op
use Rattle.fc_syntax.specs.declared.keyword.Keyword.{Keyword}
use Rattle.fc_syntax.specs.declared.keyword.Keyword.TheVariants as word
use Rattle.fc_syntax.specs.Tree as tree
use Rattle.fc_syntax.specs.Tree.{Kind, KStar, KHash, KArrow, Ty, TVar, TCon, TInt, TApp, TFun, TForall, TCoForall}
use Rattle.fc_syntax.specs.Tree.{Co, GVar, GRefl, GSym, GTrans, GTc, GCapp, GFun, GAll, GCoAll, GInst, GNth, GLeft, GRight, GSub, GAx, GUniv, Cos, NoCos, MoreCos}
use Rattle.fc_syntax.specs.Tree.{Binder, BValue, BType, BCo, Arg, ATerm, Bind, Bound, JoinBind, Joined, Alt, Branch}
use Rattle.fc_syntax.specs.Tree.{Expr, EVar, ELit, EApp, ELam, ELet, ECase, ECast, ECon, EPrim, EFail, EJoin, EJump}
use Rattle.fc_syntax.specs.Tree.{Exprs, NoExprs, MoreExprs, Args, NoArgs, MoreArgs, Binds, NoBinds, MoreBinds, Joins, NoJoins, MoreJoins, Alts, NoAlts, MoreAlts}
use Rattle.fc_syntax.specs.Tree.{Param, ParamOf, Plain, PlainOf, ConDecl, ConOf, Decl, DData, DNew, DFamily, DAxiom, DDef, DWrap}
use Rattle.fc_model.specs.Words.{Tok, Key, Lower, Upper, LowerOf, UpperOf, Star, Hash, Arrow, Operator, Literal, Number}
use Rattle.fc_model.specs.Pieces.{Piece, Leaf, Group, Pieces, NoPieces, MorePieces}

-- WORDS

abbrev pub leaf : Tok → Pieces → Pieces
leaf t more = MorePieces (Leaf t) more

-- what stands in brackets, behind its word
abbrev pub form : Keyword → Pieces → Pieces → Pieces
form k ps more = MorePieces (Group (leaf (Key k) ps)) more

abbrev pub group : Pieces → Pieces → Pieces
group ps more = MorePieces (Group ps) more

abbrev pub upper_tok : Name → Tok
upper_tok n = elim n.module [ None ↦ Upper n.text | Some m ↦ UpperOf m n.text ]

abbrev pub lower_tok : Name → Tok
lower_tok n = elim n.module [ None ↦ Lower n.text | Some m ↦ LowerOf m n.text ]

abbrev pub role_tok : Role → Tok
role_tok role.N = Upper (78 ∷ [])
role_tok role.R = Upper (82 ∷ [])
role_tok role.P = Upper (80 ∷ [])

abbrev pub operator_tok : PrimOp → Tok
operator_tok op.Quot = Key word.Quot
operator_tok op.Rem = Key word.Rem
operator_tok o = Operator o

-- KINDS AND TYPES

abbrev pub kind_pieces : Kind → Pieces → Pieces
kind_pieces KStar more = leaf Star more
kind_pieces KHash more = leaf Hash more
kind_pieces (KArrow k l) more = group (leaf Arrow (kind_pieces k (kind_pieces l NoPieces))) more

-- Where a piece stands: by itself, or where it is flattened into the piece around it. The result of a function goes on with the list of
-- its parts, the head of an application begins it, and the body of a lambda gives its binders to it, and its body.
pub data Position : Type 0 where
  Alone : Position
  Result : Position
  AsHead : Position
  Binders : Position
  Body : Position

abbrev pub type_pieces : Position → Ty → Pieces → Pieces
type_pieces at (TVar a) more = leaf (Lower a) more
type_pieces at (TCon n) more = leaf (upper_tok n) more
type_pieces at TInt more = leaf (Key word.IntHash) more
type_pieces AsHead (TApp t u) more = type_pieces AsHead t (type_pieces Alone u more)
type_pieces at (TApp t u) more = group (type_pieces AsHead t (type_pieces Alone u NoPieces)) more
type_pieces Result (TFun t u) more = type_pieces Alone t (type_pieces Result u more)
type_pieces at (TFun t u) more = form word.Fun (type_pieces Alone t (type_pieces Result u NoPieces)) more
type_pieces at (TForall a k t) more = form word.Forall (group (leaf (Lower a) (kind_pieces k NoPieces)) (type_pieces Alone t NoPieces)) more
type_pieces at (TCoForall r t u v) more = form word.CoForall (leaf (role_tok r) (type_pieces Alone t (type_pieces Alone u (type_pieces Alone v NoPieces)))) more

abbrev pub types_pieces : List Ty → Pieces → Pieces
types_pieces [] more = more
types_pieces (t ∷ ts) more = type_pieces Alone t (types_pieces ts more)

-- COERCIONS

abbrev mutual
  pub co_pieces : Co → Pieces → Pieces
  co_pieces (GVar c) more = leaf (Lower c) more
  co_pieces (GRefl r t) more = form word.Refl (leaf (role_tok r) (type_pieces Alone t NoPieces)) more
  co_pieces (GSym g) more = form word.Sym (co_pieces g NoPieces) more
  co_pieces (GTrans g h) more = form word.Trans (co_pieces g (co_pieces h NoPieces)) more
  co_pieces (GTc r n gs) more = form word.Tc (leaf (role_tok r) (leaf (upper_tok n) (cos_pieces gs NoPieces))) more
  co_pieces (GCapp g h) more = form word.Capp (co_pieces g (co_pieces h NoPieces)) more
  co_pieces (GFun g h) more = form word.FunCo (co_pieces g (co_pieces h NoPieces)) more
  co_pieces (GAll a k g) more = form word.AllCo (group (leaf (Lower a) (kind_pieces k NoPieces)) (co_pieces g NoPieces)) more
  co_pieces (GCoAll r s f g h) more = form word.CoAllCo (leaf (role_tok r) (leaf (role_tok s) (co_pieces f (co_pieces g (co_pieces h NoPieces))))) more
  co_pieces (GInst g h) more = form word.Inst (co_pieces g (co_pieces h NoPieces)) more
  co_pieces (GNth n g) more = form word.Nth (leaf (Number n) (co_pieces g NoPieces)) more
  co_pieces (GLeft g) more = form word.Left (co_pieces g NoPieces) more
  co_pieces (GRight g) more = form word.Right (co_pieces g NoPieces) more
  co_pieces (GSub g) more = form word.Sub (co_pieces g NoPieces) more
  co_pieces (GAx n gs) more = form word.Ax (leaf (upper_tok n) (cos_pieces gs NoPieces)) more
  co_pieces (GUniv t u) more = form word.Univ (type_pieces Alone t (type_pieces Alone u NoPieces)) more

  pub cos_pieces : Cos → Pieces → Pieces
  cos_pieces NoCos more = more
  cos_pieces (MoreCos g gs) more = co_pieces g (cos_pieces gs more)

-- BINDERS

abbrev pub binder_pieces : Binder → Pieces → Pieces
binder_pieces (BValue x t) more = group (leaf (Lower x) (type_pieces Alone t NoPieces)) more
binder_pieces (BType a k) more = form word.Type (leaf (Lower a) (kind_pieces k NoPieces)) more
binder_pieces (BCo c r t u) more = form word.Co (leaf (Lower c) (leaf (role_tok r) (type_pieces Alone t (type_pieces Alone u NoPieces)))) more

abbrev pub binders_pieces : List Binder → Pieces → Pieces
binders_pieces [] more = more
binders_pieces (b ∷ bs) more = binder_pieces b (binders_pieces bs more)

-- EXPRESSIONS

abbrev mutual
  pub expr_pieces : Position → Expr → Pieces → Pieces
  expr_pieces Binders (ELam b e) more = binder_pieces b (expr_pieces Binders e more)
  expr_pieces Binders e more = more
  expr_pieces Body (ELam b e) more = expr_pieces Body e more
  expr_pieces AsHead (EApp f a) more = expr_pieces AsHead f (arg_pieces a more)
  expr_pieces at (EVar n) more = leaf (lower_tok n) more
  expr_pieces at (ELit n) more = leaf (Literal n) more
  expr_pieces at (EApp f a) more = form word.App (expr_pieces AsHead f (arg_pieces a NoPieces)) more
  expr_pieces at (ELam b e) more = form word.Lam (group (binder_pieces b (expr_pieces Binders e NoPieces)) (expr_pieces Body e NoPieces)) more
  expr_pieces at (ELet false bs e) more = form word.Let (binds_pieces bs (expr_pieces Alone e NoPieces)) more
  expr_pieces at (ELet true bs e) more = form word.LetRec (group (binds_pieces bs NoPieces) (expr_pieces Alone e NoPieces)) more
  expr_pieces at (ECase e x t u alts) more =
      form word.Case (expr_pieces Alone e (group (leaf (Lower x) (type_pieces Alone t NoPieces)) (type_pieces Alone u (alts_pieces alts NoPieces)))) more
  expr_pieces at (ECast e g) more = form word.Cast (expr_pieces Alone e (co_pieces g NoPieces)) more
  expr_pieces at (ECon n args) more = form word.Con (leaf (upper_tok n) (args_pieces args NoPieces)) more
  expr_pieces at (EPrim o es) more = form word.Prim (leaf (operator_tok o) (exprs_pieces es NoPieces)) more
  expr_pieces at (EFail t) more = form word.Fail (type_pieces Alone t NoPieces) more
  expr_pieces at (EJoin false t js e) more = form word.Join (type_pieces Alone t (joins_pieces js (expr_pieces Alone e NoPieces))) more
  expr_pieces at (EJoin true t js e) more = form word.JoinRec (type_pieces Alone t (group (joins_pieces js NoPieces) (expr_pieces Alone e NoPieces))) more
  expr_pieces at (EJump j args) more = form word.Jump (leaf (Lower j) (args_pieces args NoPieces)) more

  pub arg_pieces : Arg → Pieces → Pieces
  arg_pieces (ATerm e) more = expr_pieces Alone e more
  arg_pieces (tree.AType t) more = form word.Type (type_pieces Alone t NoPieces) more
  arg_pieces (tree.ACo g) more = form word.Co (co_pieces g NoPieces) more

  pub args_pieces : Args → Pieces → Pieces
  args_pieces NoArgs more = more
  args_pieces (MoreArgs a rest) more = arg_pieces a (args_pieces rest more)

  pub exprs_pieces : Exprs → Pieces → Pieces
  exprs_pieces NoExprs more = more
  exprs_pieces (MoreExprs e es) more = expr_pieces Alone e (exprs_pieces es more)

  pub bind_pieces : Bind → Pieces → Pieces
  bind_pieces (Bound x t e) more = group (leaf (Lower x) (type_pieces Alone t (expr_pieces Alone e NoPieces))) more

  pub binds_pieces : Binds → Pieces → Pieces
  binds_pieces NoBinds more = more
  binds_pieces (MoreBinds b bs) more = bind_pieces b (binds_pieces bs more)

  pub join_pieces : JoinBind → Pieces → Pieces
  join_pieces (Joined j params e) more = group (leaf (Lower j) (group (binders_pieces params NoPieces) (expr_pieces Alone e NoPieces))) more

  pub joins_pieces : Joins → Pieces → Pieces
  joins_pieces NoJoins more = more
  joins_pieces (MoreJoins j js) more = join_pieces j (joins_pieces js more)

  pub alt_pieces : Alt → Pieces → Pieces
  alt_pieces (Branch head.Default bs e) more = form word.Default (expr_pieces Alone e NoPieces) more
  alt_pieces (Branch (head.Lit n) bs e) more = group (leaf (Literal n) (expr_pieces Alone e NoPieces)) more
  alt_pieces (Branch (head.Con n) bs e) more = group (leaf (upper_tok n) (group (binders_pieces bs NoPieces) (expr_pieces Alone e NoPieces))) more

  pub alts_pieces : Alts → Pieces → Pieces
  alts_pieces NoAlts more = more
  alts_pieces (MoreAlts a rest) more = alt_pieces a (alts_pieces rest more)

-- DECLARATIONS

abbrev pub param_pieces : Param → Pieces → Pieces
param_pieces (ParamOf a k r) more = group (leaf (Lower a) (kind_pieces k (leaf (role_tok r) NoPieces))) more

abbrev pub params_pieces : List Param → Pieces → Pieces
params_pieces [] more = more
params_pieces (p ∷ ps) more = param_pieces p (params_pieces ps more)

abbrev pub plain_pieces : Plain → Pieces → Pieces
plain_pieces (PlainOf a k) more = group (leaf (Lower a) (kind_pieces k NoPieces)) more

abbrev pub plains_pieces : List Plain → Pieces → Pieces
plains_pieces [] more = more
plains_pieces (p ∷ ps) more = plain_pieces p (plains_pieces ps more)

abbrev pub con_pieces : ConDecl → Pieces → Pieces
con_pieces (ConOf n bs fields) more = group (leaf (Upper n) (group (binders_pieces bs NoPieces) (types_pieces fields NoPieces))) more

abbrev pub cons_pieces : List ConDecl → Pieces → Pieces
cons_pieces [] more = more
cons_pieces (c ∷ cs) more = con_pieces c (cons_pieces cs more)

abbrev pub decl_piece : Decl → Piece
decl_piece (DData n ps cs) = Group (leaf (Key word.Data) (leaf (Upper n) (group (params_pieces ps NoPieces) (cons_pieces cs NoPieces))))
decl_piece (DNew n ps t c) = Group (leaf (Key word.NewType) (leaf (Upper n) (group (params_pieces ps NoPieces) (type_pieces Alone t (leaf (Upper c) NoPieces)))))
decl_piece (DFamily n ps k) = Group (leaf (Key word.Family) (leaf (Upper n) (group (plains_pieces ps NoPieces) (kind_pieces k NoPieces))))
decl_piece (DAxiom n ps t u) = Group (leaf (Key word.Axiom) (leaf (Upper n) (group (plains_pieces ps NoPieces) (type_pieces Alone t (type_pieces Alone u NoPieces)))))
decl_piece (DDef n t e) = Group (leaf (Key word.Def) (leaf (Lower n) (type_pieces Alone t (expr_pieces Alone e NoPieces))))
decl_piece (DWrap n t e) = Group (leaf (Key word.Wrap) (leaf (Lower n) (type_pieces Alone t (expr_pieces Alone e NoPieces))))
