-- The named tree: local variables and binders are words, variables of terms are names.
use Rattle.fc_syntax.specs.declared.ty.Name.{Name}
use Rattle.fc_syntax.specs.GenericTree as tree
pub use Rattle.fc_syntax.specs.GenericTree.{Word, Kind, KStar, KHash, KArrow, TVar, TCon, TInt, TApp, TFun, TForall, TCoForall}
pub use Rattle.fc_syntax.specs.GenericTree.{GVar, GRefl, GSym, GTrans, GTc, GCapp, GFun, GAll, GCoAll, GInst, GNth, GLeft, GRight, GSub, GAx, GUniv, NoCos, MoreCos}
pub use Rattle.fc_syntax.specs.GenericTree.{BValue, BType, BCo, ATerm, AType, ACo, Bound, Joined, Branch}
pub use Rattle.fc_syntax.specs.GenericTree.{EVar, ELit, EApp, ELam, ELet, ECase, ECast, ECon, EPrim, EFail, EJoin, EJump}
pub use Rattle.fc_syntax.specs.GenericTree.{NoExprs, MoreExprs, NoArgs, MoreArgs, NoBinds, MoreBinds, NoJoins, MoreJoins, NoAlts, MoreAlts}
pub use Rattle.fc_syntax.specs.GenericTree.{ParamOf, PlainOf, ConOf, DData, DNew, DFamily, DAxiom, DDef, DWrap, ModuleOf}

abbrev pub Ty : Type 0
Ty = tree.Ty Word Word

abbrev pub Co : Type 0
Co = tree.Co Word Word

abbrev pub Cos : Type 0
Cos = tree.Cos Word Word

abbrev pub Binder : Type 0
Binder = tree.Binder Word Word

abbrev pub Expr : Type 0
Expr = tree.Expr Word Name Word

abbrev pub Arg : Type 0
Arg = tree.Arg Word Name Word

abbrev pub Bind : Type 0
Bind = tree.Bind Word Name Word

abbrev pub JoinBind : Type 0
JoinBind = tree.JoinBind Word Name Word

abbrev pub Alt : Type 0
Alt = tree.Alt Word Name Word

abbrev pub Exprs : Type 0
Exprs = tree.Exprs Word Name Word

abbrev pub Args : Type 0
Args = tree.Args Word Name Word

abbrev pub Binds : Type 0
Binds = tree.Binds Word Name Word

abbrev pub Joins : Type 0
Joins = tree.Joins Word Name Word

abbrev pub Alts : Type 0
Alts = tree.Alts Word Name Word

abbrev pub Param : Type 0
Param = tree.Param Word

abbrev pub Plain : Type 0
Plain = tree.Plain Word

abbrev pub ConDecl : Type 0
ConDecl = tree.ConDecl Word Word

abbrev pub Decl : Type 0
Decl = tree.Decl Word Name Word

abbrev pub Module : Type 0
Module = tree.Module Word Name Word
