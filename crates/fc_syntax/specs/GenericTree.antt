-- The tree, as every definition of the project speaks of it: plain data, without memory. `L` is what a variable of a type, a coercion
-- or a join point is, `V` what a variable of a term is, and `B` what a binder keeps.
use Rattle.std.specs.Prelude.{ℕ, ℤ, Bool, List}
use Rattle.fc_syntax.specs.declared.ty.Name.{Name}
use Rattle.fc_syntax.specs.declared.ty.Role.{Role}
use Rattle.fc_syntax.specs.declared.expr.Head.{Head}
use Rattle.fc_syntax.specs.declared.expr.PrimOp.{PrimOp}

abbrev pub Word : Type 0
Word = List ℕ

pub data Kind : Type 0 where
  KStar : Kind
  KHash : Kind
  KArrow : (from to : Kind) → Kind

pub data Ty (L B : Type 0) : Type 0 where
  TVar : (a : L) → Ty L B
  TCon : (n : Name) → Ty L B
  TInt : Ty L B
  TApp : (t u : Ty L B) → Ty L B
  TFun : (t u : Ty L B) → Ty L B
  TForall : (a : B) (k : Kind) (t : Ty L B) → Ty L B
  TCoForall : (r : Role) (left right t : Ty L B) → Ty L B

mutual
  pub data Co (L B : Type 0) : Type 0 where
    GVar : (c : L) → Co L B
    GRefl : (r : Role) (t : Ty L B) → Co L B
    GSym : (g : Co L B) → Co L B
    GTrans : (g h : Co L B) → Co L B
    GTc : (r : Role) (n : Name) (gs : Cos L B) → Co L B
    GCapp : (g h : Co L B) → Co L B
    GFun : (g h : Co L B) → Co L B
    GAll : (a : B) (k : Kind) (g : Co L B) → Co L B
    GCoAll : (r s : Role) (left right g : Co L B) → Co L B
    GInst : (g h : Co L B) → Co L B
    GNth : (n : ℕ) (g : Co L B) → Co L B
    GLeft : (g : Co L B) → Co L B
    GRight : (g : Co L B) → Co L B
    GSub : (g : Co L B) → Co L B
    GAx : (n : Name) (gs : Cos L B) → Co L B
    GUniv : (t u : Ty L B) → Co L B

  pub data Cos (L B : Type 0) : Type 0 where
    NoCos : Cos L B
    MoreCos : (g : Co L B) (rest : Cos L B) → Cos L B

pub data Binder (L B : Type 0) : Type 0 where
  BValue : (x : B) (t : Ty L B) → Binder L B
  BType : (a : B) (k : Kind) → Binder L B
  BCo : (c : B) (r : Role) (left right : Ty L B) → Binder L B

mutual
  pub data Expr (L V B : Type 0) : Type 0 where
    EVar : (v : V) → Expr L V B
    ELit : (n : ℤ) → Expr L V B
    EApp : (f : Expr L V B) (a : Arg L V B) → Expr L V B
    ELam : (b : Binder L B) (e : Expr L V B) → Expr L V B
    ELet : (r : Bool) (bs : Binds L V B) (e : Expr L V B) → Expr L V B
    ECase : (e : Expr L V B) (x : B) (xt rt : Ty L B) (alts : Alts L V B) → Expr L V B
    ECast : (e : Expr L V B) (g : Co L B) → Expr L V B
    ECon : (n : Name) (args : Args L V B) → Expr L V B
    EPrim : (op : PrimOp) (es : Exprs L V B) → Expr L V B
    EFail : (t : Ty L B) → Expr L V B
    EJoin : (r : Bool) (t : Ty L B) (js : Joins L V B) (e : Expr L V B) → Expr L V B
    EJump : (j : L) (args : Args L V B) → Expr L V B

  pub data Arg (L V B : Type 0) : Type 0 where
    ATerm : (e : Expr L V B) → Arg L V B
    AType : (t : Ty L B) → Arg L V B
    ACo : (g : Co L B) → Arg L V B

  pub data Bind (L V B : Type 0) : Type 0 where
    Bound : (x : B) (t : Ty L B) (e : Expr L V B) → Bind L V B

  pub data JoinBind (L V B : Type 0) : Type 0 where
    Joined : (j : B) (params : List (Binder L B)) (e : Expr L V B) → JoinBind L V B

  pub data Alt (L V B : Type 0) : Type 0 where
    Branch : (h : Head) (bs : List (Binder L B)) (e : Expr L V B) → Alt L V B

  pub data Exprs (L V B : Type 0) : Type 0 where
    NoExprs : Exprs L V B
    MoreExprs : (e : Expr L V B) (rest : Exprs L V B) → Exprs L V B

  pub data Args (L V B : Type 0) : Type 0 where
    NoArgs : Args L V B
    MoreArgs : (a : Arg L V B) (rest : Args L V B) → Args L V B

  pub data Binds (L V B : Type 0) : Type 0 where
    NoBinds : Binds L V B
    MoreBinds : (b : Bind L V B) (rest : Binds L V B) → Binds L V B

  pub data Joins (L V B : Type 0) : Type 0 where
    NoJoins : Joins L V B
    MoreJoins : (j : JoinBind L V B) (rest : Joins L V B) → Joins L V B

  pub data Alts (L V B : Type 0) : Type 0 where
    NoAlts : Alts L V B
    MoreAlts : (a : Alt L V B) (rest : Alts L V B) → Alts L V B

pub data Param (B : Type 0) : Type 0 where
  ParamOf : (a : B) (k : Kind) (r : Role) → Param B

pub data Plain (B : Type 0) : Type 0 where
  PlainOf : (a : B) (k : Kind) → Plain B

pub data ConDecl (L B : Type 0) : Type 0 where
  ConOf : (n : Word) (bs : List (Binder L B)) (fields : List (Ty L B)) → ConDecl L B

pub data Decl (L V B : Type 0) : Type 0 where
  DData : (n : Word) (ps : List (Param B)) (cs : List (ConDecl L B)) → Decl L V B
  DNew : (n : Word) (ps : List (Param B)) (t : Ty L B) (con : Word) → Decl L V B
  DFamily : (n : Word) (ps : List (Plain B)) (k : Kind) → Decl L V B
  DAxiom : (n : Word) (ps : List (Plain B)) (left right : Ty L B) → Decl L V B
  DDef : (n : Word) (t : Ty L B) (e : Expr L V B) → Decl L V B
  DWrap : (n : Word) (t : Ty L B) (e : Expr L V B) → Decl L V B

pub data Module (L V B : Type 0) : Type 0 where
  ModuleOf : (n : Word) (imports exports hidden : List Word) (decls : List (Decl L V B)) → Module L V B
