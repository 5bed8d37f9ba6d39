-- The modules that a module mentions: the words before dots, in text order.
use Rattle.std.specs.Prelude.{List, [], ◌∷◌, ◌++◌, Option, Some, None}
use Rattle.std.specs.List.{flat_map}
use Rattle.fc_syntax.specs.declared.expr.Head.{Head}
use Rattle.fc_syntax.specs.declared.expr.Head.TheVariants as head
use Rattle.fc_syntax.specs.Tree.{Word, Ty, TVar, TCon, TInt, TApp, TFun, TForall, TCoForall}
use Rattle.fc_syntax.specs.Tree.{Co, GVar, GRefl, GSym, GTrans, GTc, GCapp, GFun, GAll, GCoAll, GInst, GNth, GLeft, GRight, GSub, GAx, GUniv, Cos, NoCos, MoreCos}
use Rattle.fc_syntax.specs.Tree.{Binder, BValue, BType, BCo, Arg, ATerm, AType, ACo, Bound, Joined, Branch}
use Rattle.fc_syntax.specs.Tree.{Expr, EVar, ELit, EApp, ELam, ELet, ECase, ECast, ECon, EPrim, EFail, EJoin, EJump}
use Rattle.fc_syntax.specs.Tree.{Exprs, NoExprs, MoreExprs, Args, NoArgs, MoreArgs, Binds, NoBinds, MoreBinds, Joins, NoJoins, MoreJoins, Alts, NoAlts, MoreAlts}
use Rattle.fc_syntax.specs.Tree.{ConDecl, ConOf, Decl, DData, DNew, DFamily, DAxiom, DDef, DWrap}

abbrev pub in_name : Option Word → List Word
in_name None = []
in_name (Some m) = m ∷ []

abbrev pub in_type : Ty → List Word
in_type (TVar a) = []
in_type (TCon n) = in_name n.module
in_type TInt = []
in_type (TApp t u) = in_type t ++ in_type u
in_type (TFun t u) = in_type t ++ in_type u
in_type (TForall a k t) = in_type t
in_type (TCoForall r t u v) = in_type t ++ (in_type u ++ in_type v)

abbrev mutual
  pub in_coercion : Co → List Word
  in_coercion (GVar c) = []
  in_coercion (GRefl r t) = in_type t
  in_coercion (GSym g) = in_coercion g
  in_coercion (GTrans g h) = in_coercion g ++ in_coercion h
  in_coercion (GTc r n gs) = in_name n.module ++ in_coercions gs
  in_coercion (GCapp g h) = in_coercion g ++ in_coercion h
  in_coercion (GFun g h) = in_coercion g ++ in_coercion h
  in_coercion (GAll a k g) = in_coercion g
  in_coercion (GCoAll r e f g h) = in_coercion f ++ (in_coercion g ++ in_coercion h)
  in_coercion (GInst g h) = in_coercion g ++ in_coercion h
  in_coercion (GNth n g) = in_coercion g
  in_coercion (GLeft g) = in_coercion g
  in_coercion (GRight g) = in_coercion g
  in_coercion (GSub g) = in_coercion g
  in_coercion (GAx n gs) = in_name n.module ++ in_coercions gs
  in_coercion (GUniv t u) = in_type t ++ in_type u

  pub in_coercions : Cos → List Word
  in_coercions NoCos = []
  in_coercions (MoreCos g gs) = in_coercion g ++ in_coercions gs

abbrev pub in_binder : Binder → List Word
in_binder (BValue x t) = in_type t
in_binder (BType a k) = []
in_binder (BCo c r t u) = in_type t ++ in_type u

abbrev pub in_head : Head → List Word
in_head head.Default = []
in_head (head.Lit n) = []
in_head (head.Con n) = in_name n.module

abbrev mutual
  pub in_expr : Expr → List Word
  in_expr (EVar n) = in_name n.module
  in_expr (ELit n) = []
  in_expr (EApp f a) = in_expr f ++ in_arg a
  in_expr (ELam b e) = in_binder b ++ in_expr e
  in_expr (ELet r bs e) = in_binds bs ++ in_expr e
  in_expr (ECase e x t u alts) = in_expr e ++ (in_type t ++ (in_type u ++ in_alts alts))
  in_expr (ECast e g) = in_expr e ++ in_coercion g
  in_expr (ECon n args) = in_name n.module ++ in_args args
  in_expr (EPrim op es) = in_exprs es
  in_expr (EFail t) = in_type t
  in_expr (EJoin r t js e) = in_type t ++ (in_joins js ++ in_expr e)
  in_expr (EJump j args) = in_args args

  pub in_arg : Arg → List Word
  in_arg (ATerm e) = in_expr e
  in_arg (AType t) = in_type t
  in_arg (ACo g) = in_coercion g

  pub in_args : Args → List Word
  in_args NoArgs = []
  in_args (MoreArgs a rest) = in_arg a ++ in_args rest

  pub in_exprs : Exprs → List Word
  in_exprs NoExprs = []
  in_exprs (MoreExprs e rest) = in_expr e ++ in_exprs rest

  pub in_binds : Binds → List Word
  in_binds NoBinds = []
  in_binds (MoreBinds (Bound x t e) rest) = in_type t ++ (in_expr e ++ in_binds rest)

  pub in_joins : Joins → List Word
  in_joins NoJoins = []
  in_joins (MoreJoins (Joined j ps e) rest) = flat_map in_binder ps ++ (in_expr e ++ in_joins rest)

  pub in_alts : Alts → List Word
  in_alts NoAlts = []
  in_alts (MoreAlts (Branch h bs e) rest) = in_head h ++ (flat_map in_binder bs ++ (in_expr e ++ in_alts rest))

abbrev pub in_constructor : ConDecl → List Word
in_constructor (ConOf n bs fields) = flat_map in_binder bs ++ flat_map in_type fields

abbrev pub in_decl : Decl → List Word
in_decl (DData n ps cs) = flat_map in_constructor cs
in_decl (DNew n ps t con) = in_type t
in_decl (DFamily n ps k) = []
in_decl (DAxiom n ps t u) = in_type t ++ in_type u
in_decl (DDef n t e) = in_type t ++ in_expr e
in_decl (DWrap n t e) = in_type t ++ in_expr e

-- in declarations
abbrev pub mentioned_in : List Decl → List Word
mentioned_in ds = flat_map in_decl ds
