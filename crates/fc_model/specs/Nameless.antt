-- The nameless tree: each local variable is its distance to its binder, counted among the binders of its own space (types,
-- terms, coercions, join points), the innermost being 0. Names of declarations keep their module and word. Where several
-- binders stand together, the last is the innermost.
use Rattle.std.specs.Prelude.{ℕ, ℤ, Bool, List}
use Rattle.fc_syntax.specs.declared.ty.Name.{Name}
use Rattle.fc_syntax.specs.declared.ty.Role.{Role}
use Rattle.fc_syntax.specs.declared.expr.Head.{Head}
use Rattle.fc_syntax.specs.declared.expr.PrimOp.{PrimOp}
use Rattle.fc_syntax.specs.Tree.{Word, Kind}

pub data NTy : Type 0 where
  NTVar : (i : ℕ) → NTy
  NTCon : (n : Name) → NTy
  NTInt : NTy
  NTApp : (t u : NTy) → NTy
  NTFun : (t u : NTy) → NTy
  NTForall : (k : Kind) (t : NTy) → NTy
  NTCoForall : (r : Role) (left right t : NTy) → NTy

mutual
  pub data NCo : Type 0 where
    NGVar : (i : ℕ) → NCo
    NGRefl : (r : Role) (t : NTy) → NCo
    NGSym : (g : NCo) → NCo
    NGTrans : (g h : NCo) → NCo
    NGTc : (r : Role) (n : Name) (gs : NCos) → NCo
    NGCapp : (g h : NCo) → NCo
    NGFun : (g h : NCo) → NCo
    NGAll : (k : Kind) (g : NCo) → NCo
    NGCoAll : (r s : Role) (left right g : NCo) → NCo
    NGInst : (g h : NCo) → NCo
    NGNth : (n : ℕ) (g : NCo) → NCo
    NGLeft : (g : NCo) → NCo
    NGRight : (g : NCo) → NCo
    NGSub : (g : NCo) → NCo
    NGAx : (n : Name) (gs : NCos) → NCo
    NGUniv : (t u : NTy) → NCo

  pub data NCos : Type 0 where
    NoNCos : NCos
    MoreNCos : (g : NCo) (rest : NCos) → NCos

pub data NBinder : Type 0 where
  NBValue : (t : NTy) → NBinder
  NBType : (k : Kind) → NBinder
  NBCo : (r : Role) (left right : NTy) → NBinder

mutual
  pub data NExpr : Type 0 where
    NLocal : (i : ℕ) → NExpr
    NVar : (n : Name) → NExpr
    NLit : (n : ℤ) → NExpr
    NApp : (f : NExpr) (a : NArg) → NExpr
    NLam : (b : NBinder) (e : NExpr) → NExpr
    NLet : (r : Bool) (bs : NBinds) (e : NExpr) → NExpr
    NCase : (e : NExpr) (xt rt : NTy) (alts : NAlts) → NExpr
    NCast : (e : NExpr) (g : NCo) → NExpr
    NCon : (n : Name) (args : NArgs) → NExpr
    NPrim : (op : PrimOp) (es : NExprs) → NExpr
    NFail : (t : NTy) → NExpr
    NJoin : (r : Bool) (t : NTy) (js : NJoins) (e : NExpr) → NExpr
    NJump : (i : ℕ) (args : NArgs) → NExpr

  pub data NArg : Type 0 where
    NATerm : (e : NExpr) → NArg
    NAType : (t : NTy) → NArg
    NACo : (g : NCo) → NArg

  pub data NBind : Type 0 where
    NBound : (t : NTy) (e : NExpr) → NBind

  pub data NJoinBind : Type 0 where
    NJoined : (params : List NBinder) (e : NExpr) → NJoinBind

  pub data NAlt : Type 0 where
    NBranch : (h : Head) (bs : List NBinder) (e : NExpr) → NAlt

  pub data NExprs : Type 0 where
    NoNExprs : NExprs
    MoreNExprs : (e : NExpr) (rest : NExprs) → NExprs

  pub data NArgs : Type 0 where
    NoNArgs : NArgs
    MoreNArgs : (a : NArg) (rest : NArgs) → NArgs

  pub data NBinds : Type 0 where
    NoNBinds : NBinds
    MoreNBinds : (b : NBind) (rest : NBinds) → NBinds

  pub data NJoins : Type 0 where
    NoNJoins : NJoins
    MoreNJoins : (j : NJoinBind) (rest : NJoins) → NJoins

  pub data NAlts : Type 0 where
    NoNAlts : NAlts
    MoreNAlts : (a : NAlt) (rest : NAlts) → NAlts

pub data NParam : Type 0 where
  NParamOf : (k : Kind) (r : Role) → NParam

pub data NConDecl : Type 0 where
  NConOf : (n : Word) (bs : List NBinder) (fields : List NTy) → NConDecl

pub data NDecl : Type 0 where
  NData : (n : Word) (ps : List NParam) (cs : List NConDecl) → NDecl
  NNew : (n : Word) (ps : List NParam) (t : NTy) (con : Word) → NDecl
  NFamily : (n : Word) (ps : List Kind) (k : Kind) → NDecl
  NAxiom : (n : Word) (ps : List Kind) (left right : NTy) → NDecl
  NDef : (n : Word) (t : NTy) (e : NExpr) → NDecl
  NWrap : (n : Word) (t : NTy) (e : NExpr) → NDecl

pub data NModule : Type 0 where
  NModuleOf : (n : Word) (imports exports hidden : List Word) (decls : List NDecl) → NModule
