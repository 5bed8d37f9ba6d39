-- How large trees are, named or nameless: nodes count terms alone, size counts every piece, depth is 1 for a piece without parts and
-- else one more than that of its deepest part. What a variable is and what a binder keeps changes nothing.
use Rattle.std.specs.Prelude.{ℕ, ◌+◌, ◌*◌, max, Bool, true, false, List, [], ◌∷◌, length}
use Rattle.fc_syntax.specs.GenericTree.{Ty, TVar, TCon, TInt, TApp, TFun, TForall, TCoForall}
use Rattle.fc_syntax.specs.GenericTree.{Co, GVar, GRefl, GSym, GTrans, GTc, GCapp, GFun, GAll, GCoAll, GInst, GNth, GLeft, GRight, GSub, GAx, GUniv, Cos, NoCos, MoreCos}
use Rattle.fc_syntax.specs.GenericTree.{Binder, BValue, BType, BCo, Arg, ATerm, AType, ACo, Bind, Bound, JoinBind, Joined, Alt, Branch}
use Rattle.fc_syntax.specs.GenericTree.{Expr, EVar, ELit, EApp, ELam, ELet, ECase, ECast, ECon, EPrim, EFail, EJoin, EJump}
use Rattle.fc_syntax.specs.GenericTree.{Exprs, NoExprs, MoreExprs, Args, NoArgs, MoreArgs, Binds, NoBinds, MoreBinds, Joins, NoJoins, MoreJoins, Alts, NoAlts, MoreAlts}
use Rattle.fc_syntax.specs.GenericTree.{ConDecl, ConOf, Decl, DData, DNew, DFamily, DAxiom, DDef, DWrap, Module, ModuleOf}
use Rattle.fc_syntax.specs.declared.expr.Head.{Head}
use Rattle.fc_syntax.specs.declared.expr.Head.TheVariants as head

-- NODES

-- a lambda over a type is not counted
abbrev pub lambda_count : {L B : Type 0} → Binder L B → ℕ
lambda_count (BValue x t) = 1
lambda_count (BType a k) = 0
lambda_count (BCo c r s t) = 1

-- how many of the binders bind a term or a coercion
abbrev pub value_count : {L B : Type 0} → List (Binder L B) → ℕ
value_count [] = 0
value_count (b ∷ bs) = lambda_count b + value_count bs

-- a default counts nothing, a literal one, a constructor one and two for each binder of a term or a coercion
abbrev pub alternative_count : {L B : Type 0} → Head → List (Binder L B) → ℕ
alternative_count head.Default bs = 0
alternative_count (head.Lit n) bs = 1
alternative_count (head.Con k) bs = 1 + 2 * value_count bs

-- a term of a constructor that is not trivial counts two more
abbrev pub field_extra : Bool → ℕ
field_extra true = 0
field_extra false = 2

-- a variable, a literal, or one of these under types and casts
abbrev pub is_trivial : {L V B : Type 0} → Expr L V B → Bool
is_trivial (EVar x) = true
is_trivial (ELit n) = true
is_trivial (EApp f (AType t)) = is_trivial f
is_trivial (ECast e g) = is_trivial e
is_trivial _ = false

-- casts, types, coercions, type lambdas and applications to types count nothing; a coercion argument counts one
abbrev mutual
  pub nodes_of : {L V B : Type 0} → Expr L V B → ℕ
  nodes_of (EVar x) = 1
  nodes_of (ELit n) = 1
  nodes_of (EApp f a) = applied_nodes a + nodes_of f
  nodes_of (ELam b e) = lambda_count b + nodes_of e
  nodes_of (ELet r bs e) = binds_nodes bs + nodes_of e
  nodes_of (ECase e x t u alts) = 1 + (nodes_of e + alts_nodes alts)
  nodes_of (ECast e g) = nodes_of e
  nodes_of (ECon k args) = 1 + fields_nodes args
  nodes_of (EPrim op es) = 1 + exprs_nodes es
  nodes_of (EFail t) = 1
  nodes_of (EJoin r t js e) = 1 + (joins_nodes js + nodes_of e)
  nodes_of (EJump j args) = 1 + args_nodes args

  pub applied_nodes : {L V B : Type 0} → Arg L V B → ℕ
  applied_nodes (ATerm e) = 1 + nodes_of e
  applied_nodes (AType t) = 0
  applied_nodes (ACo g) = 2

  pub arg_nodes : {L V B : Type 0} → Arg L V B → ℕ
  arg_nodes (ATerm e) = nodes_of e
  arg_nodes (AType t) = 0
  arg_nodes (ACo g) = 1

  pub field_nodes : {L V B : Type 0} → Arg L V B → ℕ
  field_nodes (ATerm e) = nodes_of e + field_extra (is_trivial e)
  field_nodes (AType t) = 0
  field_nodes (ACo g) = 1

  pub bind_nodes : {L V B : Type 0} → Bind L V B → ℕ
  bind_nodes (Bound x t e) = 1 + nodes_of e

  pub join_nodes : {L V B : Type 0} → JoinBind L V B → ℕ
  join_nodes (Joined j ps e) = (1 + value_count ps) + nodes_of e

  pub alt_nodes : {L V B : Type 0} → Alt L V B → ℕ
  alt_nodes (Branch h bs e) = alternative_count h bs + nodes_of e

  pub exprs_nodes : {L V B : Type 0} → Exprs L V B → ℕ
  exprs_nodes NoExprs = 0
  exprs_nodes (MoreExprs e es) = nodes_of e + exprs_nodes es

  pub args_nodes : {L V B : Type 0} → Args L V B → ℕ
  args_nodes NoArgs = 0
  args_nodes (MoreArgs a rest) = arg_nodes a + args_nodes rest

  pub fields_nodes : {L V B : Type 0} → Args L V B → ℕ
  fields_nodes NoArgs = 0
  fields_nodes (MoreArgs a rest) = field_nodes a + fields_nodes rest

  pub binds_nodes : {L V B : Type 0} → Binds L V B → ℕ
  binds_nodes NoBinds = 0
  binds_nodes (MoreBinds b bs) = bind_nodes b + binds_nodes bs

  pub joins_nodes : {L V B : Type 0} → Joins L V B → ℕ
  joins_nodes NoJoins = 0
  joins_nodes (MoreJoins j js) = join_nodes j + joins_nodes js

  pub alts_nodes : {L V B : Type 0} → Alts L V B → ℕ
  alts_nodes NoAlts = 0
  alts_nodes (MoreAlts a rest) = alt_nodes a + alts_nodes rest

-- a definition counts one and its right side, every other declaration nothing
abbrev pub decl_nodes : {L V B : Type 0} → Decl L V B → ℕ
decl_nodes (DData n ps cs) = 0
decl_nodes (DNew n ps t con) = 0
decl_nodes (DFamily n ps k) = 0
decl_nodes (DAxiom n ps t u) = 0
decl_nodes (DDef n t e) = 1 + nodes_of e
decl_nodes (DWrap n t e) = 1 + nodes_of e

abbrev pub decls_nodes : {L V B : Type 0} → List (Decl L V B) → ℕ
decls_nodes [] = 0
decls_nodes (d ∷ ds) = decl_nodes d + decls_nodes ds

-- the nodes of a module: those of its definitions
abbrev pub module_nodes : {L V B : Type 0} → Module L V B → ℕ
module_nodes (ModuleOf n imports exports hidden decls) = decls_nodes decls

-- SIZE

abbrev pub ty_size : {L B : Type 0} → Ty L B → ℕ
ty_size (TVar a) = 1
ty_size (TCon n) = 1
ty_size TInt = 1
ty_size (TApp t u) = 1 + (ty_size t + ty_size u)
ty_size (TFun t u) = 1 + (ty_size t + ty_size u)
ty_size (TForall a k t) = 1 + ty_size t
ty_size (TCoForall r t u v) = 1 + (ty_size t + (ty_size u + ty_size v))

abbrev mutual
  pub co_size : {L B : Type 0} → Co L B → ℕ
  co_size (GVar c) = 1
  co_size (GRefl r t) = 1 + ty_size t
  co_size (GSym g) = 1 + co_size g
  co_size (GTrans g h) = 1 + (co_size g + co_size h)
  co_size (GTc r n gs) = 1 + cos_size gs
  co_size (GCapp g h) = 1 + (co_size g + co_size h)
  co_size (GFun g h) = 1 + (co_size g + co_size h)
  co_size (GAll a k g) = 1 + co_size g
  co_size (GCoAll r s f g h) = 1 + (co_size f + (co_size g + co_size h))
  co_size (GInst g h) = 1 + (co_size g + co_size h)
  co_size (GNth n g) = 1 + co_size g
  co_size (GLeft g) = 1 + co_size g
  co_size (GRight g) = 1 + co_size g
  co_size (GSub g) = 1 + co_size g
  co_size (GAx n gs) = 1 + cos_size gs
  co_size (GUniv t u) = 1 + (ty_size t + ty_size u)

  pub cos_size : {L B : Type 0} → Cos L B → ℕ
  cos_size NoCos = 0
  cos_size (MoreCos g rest) = co_size g + cos_size rest

abbrev pub binder_size : {L B : Type 0} → Binder L B → ℕ
binder_size (BValue x t) = 1 + ty_size t
binder_size (BType a k) = 1
binder_size (BCo c r t u) = 1 + (ty_size t + ty_size u)

abbrev pub binders_size : {L B : Type 0} → List (Binder L B) → ℕ
binders_size [] = 0
binders_size (b ∷ bs) = binder_size b + binders_size bs

-- an argument is the term, type or coercion that it is; a case's binder is no part, its type is one
abbrev mutual
  pub expr_size : {L V B : Type 0} → Expr L V B → ℕ
  expr_size (EVar n) = 1
  expr_size (ELit n) = 1
  expr_size (EApp f a) = 1 + (expr_size f + arg_size a)
  expr_size (ELam b e) = 1 + (binder_size b + expr_size e)
  expr_size (ELet r bs e) = 1 + (binds_size bs + expr_size e)
  expr_size (ECase e x t u alts) = 1 + ((expr_size e + (ty_size t + ty_size u)) + alts_size alts)
  expr_size (ECast e g) = 1 + (expr_size e + co_size g)
  expr_size (ECon n args) = 1 + args_size args
  expr_size (EPrim op es) = 1 + exprs_size es
  expr_size (EFail t) = 1 + ty_size t
  expr_size (EJoin r t js e) = 1 + (ty_size t + (joins_size js + expr_size e))
  expr_size (EJump j args) = 1 + args_size args

  pub arg_size : {L V B : Type 0} → Arg L V B → ℕ
  arg_size (ATerm e) = expr_size e
  arg_size (AType t) = ty_size t
  arg_size (ACo g) = co_size g

  pub bind_size : {L V B : Type 0} → Bind L V B → ℕ
  bind_size (Bound x t e) = 1 + (ty_size t + expr_size e)

  pub join_size : {L V B : Type 0} → JoinBind L V B → ℕ
  join_size (Joined j bs e) = 1 + (binders_size bs + expr_size e)

  pub alt_size : {L V B : Type 0} → Alt L V B → ℕ
  alt_size (Branch h bs e) = 1 + (binders_size bs + expr_size e)

  pub exprs_size : {L V B : Type 0} → Exprs L V B → ℕ
  exprs_size NoExprs = 0
  exprs_size (MoreExprs e rest) = expr_size e + exprs_size rest

  pub args_size : {L V B : Type 0} → Args L V B → ℕ
  args_size NoArgs = 0
  args_size (MoreArgs a rest) = arg_size a + args_size rest

  pub binds_size : {L V B : Type 0} → Binds L V B → ℕ
  binds_size NoBinds = 0
  binds_size (MoreBinds b rest) = bind_size b + binds_size rest

  pub joins_size : {L V B : Type 0} → Joins L V B → ℕ
  joins_size NoJoins = 0
  joins_size (MoreJoins j rest) = join_size j + joins_size rest

  pub alts_size : {L V B : Type 0} → Alts L V B → ℕ
  alts_size NoAlts = 0
  alts_size (MoreAlts a rest) = alt_size a + alts_size rest

abbrev pub tys_size : {L B : Type 0} → List (Ty L B) → ℕ
tys_size [] = 0
tys_size (t ∷ ts) = ty_size t + tys_size ts

abbrev pub con_size : {L B : Type 0} → ConDecl L B → ℕ
con_size (ConOf n bs fields) = 1 + (binders_size bs + tys_size fields)

abbrev pub cons_size : {L B : Type 0} → List (ConDecl L B) → ℕ
cons_size [] = 0
cons_size (c ∷ cs) = con_size c + cons_size cs

-- each parameter is a binder and counts one
abbrev pub decl_size : {L V B : Type 0} → Decl L V B → ℕ
decl_size (DData n ps cs) = 1 + (length ps + cons_size cs)
decl_size (DNew n ps t con) = 1 + (length ps + ty_size t)
decl_size (DFamily n ps k) = 1 + length ps
decl_size (DAxiom n ps t u) = 1 + (length ps + (ty_size t + ty_size u))
decl_size (DDef n t e) = 1 + (ty_size t + expr_size e)
decl_size (DWrap n t e) = 1 + (ty_size t + expr_size e)

abbrev pub decls_size : {L V B : Type 0} → List (Decl L V B) → ℕ
decls_size [] = 0
decls_size (d ∷ ds) = decl_size d + decls_size ds

-- the size of a module: that of its declarations
abbrev pub size_of : {L V B : Type 0} → Module L V B → ℕ
size_of (ModuleOf n imports exports hidden decls) = decls_size decls

-- DEPTH

abbrev pub ty_depth : {L B : Type 0} → Ty L B → ℕ
ty_depth (TVar a) = 1
ty_depth (TCon n) = 1
ty_depth TInt = 1
ty_depth (TApp t u) = 1 + max (ty_depth t) (ty_depth u)
ty_depth (TFun t u) = 1 + max (ty_depth t) (ty_depth u)
ty_depth (TForall a k t) = 1 + ty_depth t
ty_depth (TCoForall r t u v) = 1 + max (ty_depth t) (max (ty_depth u) (ty_depth v))

abbrev mutual
  pub co_depth : {L B : Type 0} → Co L B → ℕ
  co_depth (GVar c) = 1
  co_depth (GRefl r t) = 1 + ty_depth t
  co_depth (GSym g) = 1 + co_depth g
  co_depth (GTrans g h) = 1 + max (co_depth g) (co_depth h)
  co_depth (GTc r n gs) = 1 + cos_depth gs
  co_depth (GCapp g h) = 1 + max (co_depth g) (co_depth h)
  co_depth (GFun g h) = 1 + max (co_depth g) (co_depth h)
  co_depth (GAll a k g) = 1 + co_depth g
  co_depth (GCoAll r s f g h) = 1 + max (co_depth f) (max (co_depth g) (co_depth h))
  co_depth (GInst g h) = 1 + max (co_depth g) (co_depth h)
  co_depth (GNth n g) = 1 + co_depth g
  co_depth (GLeft g) = 1 + co_depth g
  co_depth (GRight g) = 1 + co_depth g
  co_depth (GSub g) = 1 + co_depth g
  co_depth (GAx n gs) = 1 + cos_depth gs
  co_depth (GUniv t u) = 1 + max (ty_depth t) (ty_depth u)

  pub cos_depth : {L B : Type 0} → Cos L B → ℕ
  cos_depth NoCos = 0
  cos_depth (MoreCos g rest) = max (co_depth g) (cos_depth rest)

abbrev pub binder_depth : {L B : Type 0} → Binder L B → ℕ
binder_depth (BValue x t) = 1 + ty_depth t
binder_depth (BType a k) = 1
binder_depth (BCo c r t u) = 1 + max (ty_depth t) (ty_depth u)

abbrev pub binders_depth : {L B : Type 0} → List (Binder L B) → ℕ
binders_depth [] = 0
binders_depth (b ∷ bs) = max (binder_depth b) (binders_depth bs)

abbrev mutual
  pub expr_depth : {L V B : Type 0} → Expr L V B → ℕ
  expr_depth (EVar n) = 1
  expr_depth (ELit n) = 1
  expr_depth (EApp f a) = 1 + max (expr_depth f) (arg_depth a)
  expr_depth (ELam b e) = 1 + max (binder_depth b) (expr_depth e)
  expr_depth (ELet r bs e) = 1 + max (binds_depth bs) (expr_depth e)
  expr_depth (ECase e x t u alts) = 1 + max (max (expr_depth e) (max (ty_depth t) (ty_depth u))) (alts_depth alts)
  expr_depth (ECast e g) = 1 + max (expr_depth e) (co_depth g)
  expr_depth (ECon n args) = 1 + args_depth args
  expr_depth (EPrim op es) = 1 + exprs_depth es
  expr_depth (EFail t) = 1 + ty_depth t
  expr_depth (EJoin r t js e) = 1 + max (ty_depth t) (max (joins_depth js) (expr_depth e))
  expr_depth (EJump j args) = 1 + args_depth args

  pub arg_depth : {L V B : Type 0} → Arg L V B → ℕ
  arg_depth (ATerm e) = expr_depth e
  arg_depth (AType t) = ty_depth t
  arg_depth (ACo g) = co_depth g

  pub bind_depth : {L V B : Type 0} → Bind L V B → ℕ
  bind_depth (Bound x t e) = 1 + max (ty_depth t) (expr_depth e)

  pub join_depth : {L V B : Type 0} → JoinBind L V B → ℕ
  join_depth (Joined j bs e) = 1 + max (binders_depth bs) (expr_depth e)

  pub alt_depth : {L V B : Type 0} → Alt L V B → ℕ
  alt_depth (Branch h bs e) = 1 + max (binders_depth bs) (expr_depth e)

  pub exprs_depth : {L V B : Type 0} → Exprs L V B → ℕ
  exprs_depth NoExprs = 0
  exprs_depth (MoreExprs e rest) = max (expr_depth e) (exprs_depth rest)

  pub args_depth : {L V B : Type 0} → Args L V B → ℕ
  args_depth NoArgs = 0
  args_depth (MoreArgs a rest) = max (arg_depth a) (args_depth rest)

  pub binds_depth : {L V B : Type 0} → Binds L V B → ℕ
  binds_depth NoBinds = 0
  binds_depth (MoreBinds b rest) = max (bind_depth b) (binds_depth rest)

  pub joins_depth : {L V B : Type 0} → Joins L V B → ℕ
  joins_depth NoJoins = 0
  joins_depth (MoreJoins j rest) = max (join_depth j) (joins_depth rest)

  pub alts_depth : {L V B : Type 0} → Alts L V B → ℕ
  alts_depth NoAlts = 0
  alts_depth (MoreAlts a rest) = max (alt_depth a) (alts_depth rest)

-- pieces without parts, as parameters, are as deep as one where there is one
abbrev pub leaves_depth : {X : Type 0} → List X → ℕ
leaves_depth [] = 0
leaves_depth (x ∷ xs) = 1

abbrev pub tys_depth : {L B : Type 0} → List (Ty L B) → ℕ
tys_depth [] = 0
tys_depth (t ∷ ts) = max (ty_depth t) (tys_depth ts)

abbrev pub con_depth : {L B : Type 0} → ConDecl L B → ℕ
con_depth (ConOf n bs fields) = 1 + max (binders_depth bs) (tys_depth fields)

abbrev pub cons_depth : {L B : Type 0} → List (ConDecl L B) → ℕ
cons_depth [] = 0
cons_depth (c ∷ cs) = max (con_depth c) (cons_depth cs)

-- the depth of a declaration
abbrev pub depth_of : {L V B : Type 0} → Decl L V B → ℕ
depth_of (DData n ps cs) = 1 + max (leaves_depth ps) (cons_depth cs)
depth_of (DNew n ps t con) = 1 + max (leaves_depth ps) (ty_depth t)
depth_of (DFamily n ps k) = 1 + leaves_depth ps
depth_of (DAxiom n ps t u) = 1 + max (leaves_depth ps) (max (ty_depth t) (ty_depth u))
depth_of (DDef n t e) = 1 + max (ty_depth t) (expr_depth e)
depth_of (DWrap n t e) = 1 + max (ty_depth t) (expr_depth e)
