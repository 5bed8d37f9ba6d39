-- A renaming of the words that are bound inside of declarations, and of their uses: words that are declared stay, and so do
-- names of a module.
use Rattle.std.specs.Prelude.{◌≡◌, if◌then◌else◌, List, [], ◌∷◌, map, Option, Some, None}
use Rattle.fc_syntax.specs.declared.ty.Name.{Name}
use Rattle.fc_syntax.specs.Tree.{Word, Ty, TVar, TCon, TInt, TApp, TFun, TForall, TCoForall}
use Rattle.fc_syntax.specs.Tree.{Co, GVar, GRefl, GSym, GTrans, GTc, GCapp, GFun, GAll, GCoAll, GInst, GNth, GLeft, GRight, GSub, GAx, GUniv, Cos, NoCos, MoreCos}
use Rattle.fc_syntax.specs.Tree.{Binder, BValue, BType, BCo, Arg, ATerm, AType, ACo, Bind, Bound, JoinBind, Joined, Alt, Branch}
use Rattle.fc_syntax.specs.Tree.{Expr, EVar, ELit, EApp, ELam, ELet, ECase, ECast, ECon, EPrim, EFail, EJoin, EJump}
use Rattle.fc_syntax.specs.Tree.{Exprs, NoExprs, MoreExprs, Args, NoArgs, MoreArgs, Binds, NoBinds, MoreBinds, Joins, NoJoins, MoreJoins, Alts, NoAlts, MoreAlts}
use Rattle.fc_syntax.specs.Tree.{Param, ParamOf, Plain, PlainOf, ConDecl, ConOf, Decl, DData, DNew, DFamily, DAxiom, DDef, DWrap, Module, ModuleOf}
use Rattle.fc_model.specs.Resolution.{Locals, Nowhere, Value, bind_words, enter, enter_all, enter_joins, enter_values, found_term, join_words, no_locals, resolved_or_fault, with_term}

-- what each word becomes
abbrev pub Renaming : Type 0
Renaming = Word → Word

-- TYPES AND COERCIONS

-- the words of type variables, with their binders
abbrev pub renamed_ty : Renaming → Ty → Ty
renamed_ty f (TVar a) = TVar (f a)
renamed_ty f (TCon n) = TCon n
renamed_ty f TInt = TInt
renamed_ty f (TApp t u) = TApp (renamed_ty f t) (renamed_ty f u)
renamed_ty f (TFun t u) = TFun (renamed_ty f t) (renamed_ty f u)
renamed_ty f (TForall a k t) = TForall (f a) k (renamed_ty f t)
renamed_ty f (TCoForall r t u v) = TCoForall r (renamed_ty f t) (renamed_ty f u) (renamed_ty f v)

-- the words of coercion variables, and those of the types; names of types and axioms stay
abbrev mutual
  pub renamed_co : Renaming → Co → Co
  renamed_co f (GVar c) = GVar (f c)
  renamed_co f (GRefl r t) = GRefl r (renamed_ty f t)
  renamed_co f (GSym g) = GSym (renamed_co f g)
  renamed_co f (GTrans g h) = GTrans (renamed_co f g) (renamed_co f h)
  renamed_co f (GTc r n gs) = GTc r n (renamed_cos f gs)
  renamed_co f (GCapp g h) = GCapp (renamed_co f g) (renamed_co f h)
  renamed_co f (GFun g h) = GFun (renamed_co f g) (renamed_co f h)
  renamed_co f (GAll a k g) = GAll (f a) k (renamed_co f g)
  renamed_co f (GCoAll r s g h i) = GCoAll r s (renamed_co f g) (renamed_co f h) (renamed_co f i)
  renamed_co f (GInst g h) = GInst (renamed_co f g) (renamed_co f h)
  renamed_co f (GNth n g) = GNth n (renamed_co f g)
  renamed_co f (GLeft g) = GLeft (renamed_co f g)
  renamed_co f (GRight g) = GRight (renamed_co f g)
  renamed_co f (GSub g) = GSub (renamed_co f g)
  renamed_co f (GAx n gs) = GAx n (renamed_cos f gs)
  renamed_co f (GUniv t u) = GUniv (renamed_ty f t) (renamed_ty f u)

  pub renamed_cos : Renaming → Cos → Cos
  renamed_cos f NoCos = NoCos
  renamed_cos f (MoreCos g gs) = MoreCos (renamed_co f g) (renamed_cos f gs)

-- EXPRESSIONS

-- the word of a binder, and those of its types
abbrev pub renamed_binder : Renaming → Binder → Binder
renamed_binder f (BValue x t) = BValue (f x) (renamed_ty f t)
renamed_binder f (BType a k) = BType (f a) k
renamed_binder f (BCo c r t u) = BCo (f c) r (renamed_ty f t) (renamed_ty f u)

-- a name of no module may be that of a local binder
abbrev pub renamed_use : Renaming → Option Word → Word → Word
renamed_use f None w = f w
renamed_use f (Some m) w = w

abbrev pub renamed_name : Renaming → Name → Name
renamed_name f n = record { «module» = n.module; text = renamed_use f n.module n.text }

-- the words of all local binders and uses; constructors and the heads of alternatives stay
abbrev mutual
  pub renamed_expr : Renaming → Expr → Expr
  renamed_expr f (EVar n) = EVar (renamed_name f n)
  renamed_expr f (ELit n) = ELit n
  renamed_expr f (EApp e a) = EApp (renamed_expr f e) (renamed_arg f a)
  renamed_expr f (ELam b e) = ELam (renamed_binder f b) (renamed_expr f e)
  renamed_expr f (ELet r bs e) = ELet r (renamed_binds f bs) (renamed_expr f e)
  renamed_expr f (ECase e x t u alts) = ECase (renamed_expr f e) (f x) (renamed_ty f t) (renamed_ty f u) (renamed_alts f alts)
  renamed_expr f (ECast e g) = ECast (renamed_expr f e) (renamed_co f g)
  renamed_expr f (ECon n args) = ECon n (renamed_args f args)
  renamed_expr f (EPrim op es) = EPrim op (renamed_exprs f es)
  renamed_expr f (EFail t) = EFail (renamed_ty f t)
  renamed_expr f (EJoin r t js e) = EJoin r (renamed_ty f t) (renamed_joins f js) (renamed_expr f e)
  renamed_expr f (EJump j args) = EJump (f j) (renamed_args f args)

  pub renamed_arg : Renaming → Arg → Arg
  renamed_arg f (ATerm e) = ATerm (renamed_expr f e)
  renamed_arg f (AType t) = AType (renamed_ty f t)
  renamed_arg f (ACo g) = ACo (renamed_co f g)

  pub renamed_args : Renaming → Args → Args
  renamed_args f NoArgs = NoArgs
  renamed_args f (MoreArgs a rest) = MoreArgs (renamed_arg f a) (renamed_args f rest)

  pub renamed_exprs : Renaming → Exprs → Exprs
  renamed_exprs f NoExprs = NoExprs
  renamed_exprs f (MoreExprs e rest) = MoreExprs (renamed_expr f e) (renamed_exprs f rest)

  pub renamed_bind : Renaming → Bind → Bind
  renamed_bind f (Bound x t e) = Bound (f x) (renamed_ty f t) (renamed_expr f e)

  pub renamed_binds : Renaming → Binds → Binds
  renamed_binds f NoBinds = NoBinds
  renamed_binds f (MoreBinds b rest) = MoreBinds (renamed_bind f b) (renamed_binds f rest)

  pub renamed_join : Renaming → JoinBind → JoinBind
  renamed_join f (Joined j ps e) = Joined (f j) (map (renamed_binder f) ps) (renamed_expr f e)

  pub renamed_joins : Renaming → Joins → Joins
  renamed_joins f NoJoins = NoJoins
  renamed_joins f (MoreJoins j rest) = MoreJoins (renamed_join f j) (renamed_joins f rest)

  pub renamed_alt : Renaming → Alt → Alt
  renamed_alt f (Branch h bs e) = Branch h (map (renamed_binder f) bs) (renamed_expr f e)

  pub renamed_alts : Renaming → Alts → Alts
  renamed_alts f NoAlts = NoAlts
  renamed_alts f (MoreAlts a rest) = MoreAlts (renamed_alt f a) (renamed_alts f rest)

-- DECLARATIONS

-- the words of parameters; the word of a constructor stays
abbrev pub renamed_param : Renaming → Param → Param
renamed_param f (ParamOf a k r) = ParamOf (f a) k r

abbrev pub renamed_plain : Renaming → Plain → Plain
renamed_plain f (PlainOf a k) = PlainOf (f a) k

abbrev pub renamed_con : Renaming → ConDecl → ConDecl
renamed_con f (ConOf n bs fields) = ConOf n (map (renamed_binder f) bs) (map (renamed_ty f) fields)

-- the words inside of a declaration; those that it declares stay
abbrev pub renamed_decl : Renaming → Decl → Decl
renamed_decl f (DData n ps cs) = DData n (map (renamed_param f) ps) (map (renamed_con f) cs)
renamed_decl f (DNew n ps t con) = DNew n (map (renamed_param f) ps) (renamed_ty f t) con
renamed_decl f (DFamily n ps k) = DFamily n (map (renamed_plain f) ps) k
renamed_decl f (DAxiom n ps t u) = DAxiom n (map (renamed_plain f) ps) (renamed_ty f t) (renamed_ty f u)
renamed_decl f (DDef n t e) = DDef n (renamed_ty f t) (renamed_expr f e)
renamed_decl f (DWrap n t e) = DWrap n (renamed_ty f t) (renamed_expr f e)

-- the header stays
abbrev pub renamed_module : Renaming → Module → Module
renamed_module f (ModuleOf m imports exports hidden ds) = ModuleOf m imports exports hidden (map (renamed_decl f) ds)

-- WORDS THAT ARE USED FREE

-- a use of a value that no local binder binds keeps its word. (A type variable, a coercion variable or a join point that is
-- not bound is at fault by any word.)
abbrev pub KeepsUse : Renaming → Locals → Option Word → Word → Type 0
KeepsUse f s None w = found_term s.terms w ≡ Nowhere → f w ≡ w
KeepsUse f s (Some m) w = Unit {0}

-- the words that are used free in an expression stay, in a scope that is entered as resolution enters it
abbrev mutual
  pub KeepsFree : Renaming → Locals → Expr → Type 0
  KeepsFree f s (EVar n) = KeepsUse f s n.module n.text
  KeepsFree f s (ELit n) = Unit {0}
  KeepsFree f s (EApp e a) = KeepsFree f s e × ArgKeepsFree f s a
  KeepsFree f s (ELam b e) = KeepsFree f (enter b s) e
  KeepsFree f s (ELet r bs e) =
      let inner = enter_values (bind_words bs) s in
      BindsKeepFree f (if r then inner else s) bs × KeepsFree f inner e
  KeepsFree f s (ECase e x t u alts) = KeepsFree f s e × AltsKeepFree f (with_term (Value x) s) alts
  KeepsFree f s (ECast e g) = KeepsFree f s e
  KeepsFree f s (ECon n args) = ArgsKeepFree f s args
  KeepsFree f s (EPrim op es) = ExprsKeepFree f s es
  KeepsFree f s (EFail t) = Unit {0}
  KeepsFree f s (EJoin r t js e) =
      let inner = enter_joins (join_words js) s in
      JoinsKeepFree f (if r then inner else s) js × KeepsFree f inner e
  KeepsFree f s (EJump j args) = ArgsKeepFree f s args

  pub ArgKeepsFree : Renaming → Locals → Arg → Type 0
  ArgKeepsFree f s (ATerm e) = KeepsFree f s e
  ArgKeepsFree f s (AType t) = Unit {0}
  ArgKeepsFree f s (ACo g) = Unit {0}

  pub ArgsKeepFree : Renaming → Locals → Args → Type 0
  ArgsKeepFree f s NoArgs = Unit {0}
  ArgsKeepFree f s (MoreArgs a rest) = ArgKeepsFree f s a × ArgsKeepFree f s rest

  pub ExprsKeepFree : Renaming → Locals → Exprs → Type 0
  ExprsKeepFree f s NoExprs = Unit {0}
  ExprsKeepFree f s (MoreExprs e rest) = KeepsFree f s e × ExprsKeepFree f s rest

  pub BindsKeepFree : Renaming → Locals → Binds → Type 0
  BindsKeepFree f s NoBinds = Unit {0}
  BindsKeepFree f s (MoreBinds (Bound x t e) rest) = KeepsFree f s e × BindsKeepFree f s rest

  pub JoinsKeepFree : Renaming → Locals → Joins → Type 0
  JoinsKeepFree f s NoJoins = Unit {0}
  JoinsKeepFree f s (MoreJoins (Joined j ps e) rest) = KeepsFree f (enter_all ps s) e × JoinsKeepFree f s rest

  pub AltsKeepFree : Renaming → Locals → Alts → Type 0
  AltsKeepFree f s NoAlts = Unit {0}
  AltsKeepFree f s (MoreAlts (Branch h bs e) rest) = KeepsFree f (enter_all bs s) e × AltsKeepFree f s rest

-- only definitions use values
abbrev pub DeclKeepsFree : Renaming → Decl → Type 0
DeclKeepsFree f (DData n ps cs) = Unit {0}
DeclKeepsFree f (DNew n ps t con) = Unit {0}
DeclKeepsFree f (DFamily n ps k) = Unit {0}
DeclKeepsFree f (DAxiom n ps t u) = Unit {0}
DeclKeepsFree f (DDef n t e) = KeepsFree f no_locals e
DeclKeepsFree f (DWrap n t e) = KeepsFree f no_locals e

abbrev pub DeclsKeepFree : Renaming → List Decl → Type 0
DeclsKeepFree f [] = Unit {0}
DeclsKeepFree f (d ∷ ds) = DeclKeepsFree f d × DeclsKeepFree f ds

abbrev pub ModuleKeepsFree : Renaming → Module → Type 0
ModuleKeepsFree f (ModuleOf m imports exports hidden ds) = DeclsKeepFree f ds

-- THE LAW

-- words that differ stay different
abbrev pub IsInjective : Renaming → Type 0
IsInjective f = (v w : Word) → f v ≡ f w → v ≡ w

-- the nameless form of a module, or its first fault of names, is that of the renamed module
abbrev pub RenamingChangesNothing : Type 0
RenamingChangesNothing = (f : Renaming) (m : Module) → IsInjective f → ModuleKeepsFree f m → resolved_or_fault (renamed_module f m) ≡ resolved_or_fault m
