-- The types, definitions, constructors and axioms that cases name.
use Rattle.std.specs.Prelude.{codes}
use Rattle.fc_syntax.specs.declared.ty.Name.{Name}
use Rattle.fc_model.specs.Nameless.{NTCon}
use Rattle.fc_model.specs.Nameless.{NVar}
use Rattle.fc_model.specs.Nameless.{NTy, NExpr}
use Rattle.fc_row_cases.specs.CaseTerms.{name_in}

abbrev pub type_Age : NTy
type_Age = NTCon (name_in (codes "M") (codes "Age"))

abbrev pub type_Base_Bx : NTy
type_Base_Bx = NTCon (name_in (codes "Base") (codes "Bx"))

abbrev pub type_Base_Int : NTy
type_Base_Int = NTCon (name_in (codes "Base") (codes "Int"))

abbrev pub type_Base_Pair : NTy
type_Base_Pair = NTCon (name_in (codes "Base") (codes "Pair"))

abbrev pub type_Bool : NTy
type_Bool = NTCon (name_in (codes "M") (codes "Bool"))

abbrev pub type_Box : NTy
type_Box = NTCon (name_in (codes "M") (codes "Box"))

abbrev pub type_Eq : NTy
type_Eq = NTCon (name_in (codes "M") (codes "Eq"))

abbrev pub type_Ex : NTy
type_Ex = NTCon (name_in (codes "M") (codes "Ex"))

abbrev pub type_ExC : NTy
type_ExC = NTCon (name_in (codes "M") (codes "ExC"))

abbrev pub type_F : NTy
type_F = NTCon (name_in (codes "M") (codes "F"))

abbrev pub type_Fn : NTy
type_Fn = NTCon (name_in (codes "M") (codes "Fn"))

abbrev pub type_Int : NTy
type_Int = NTCon (name_in (codes "M") (codes "Int"))

abbrev pub type_List : NTy
type_List = NTCon (name_in (codes "M") (codes "List"))

abbrev pub type_P2 : NTy
type_P2 = NTCon (name_in (codes "M") (codes "P2"))

abbrev pub type_Pair : NTy
type_Pair = NTCon (name_in (codes "M") (codes "Pair"))

abbrev pub type_Poly : NTy
type_Poly = NTCon (name_in (codes "M") (codes "Poly"))

abbrev pub type_U : NTy
type_U = NTCon (name_in (codes "M") (codes "U"))

abbrev pub type_W : NTy
type_W = NTCon (name_in (codes "M") (codes "W"))

abbrev pub def_Base_cpair : NExpr
def_Base_cpair = NVar (name_in (codes "Base") (codes "cpair"))

abbrev pub def_Base_far : NExpr
def_Base_far = NVar (name_in (codes "Base") (codes "far"))

abbrev pub def_Base_idf : NExpr
def_Base_idf = NVar (name_in (codes "Base") (codes "idf"))

abbrev pub def_Base_one : NExpr
def_Base_one = NVar (name_in (codes "Base") (codes "one"))

abbrev pub def_Base_pair : NExpr
def_Base_pair = NVar (name_in (codes "Base") (codes "pair"))

abbrev pub def_Base_rec : NExpr
def_Base_rec = NVar (name_in (codes "Base") (codes "rec"))

abbrev pub def_Base_two : NExpr
def_Base_two = NVar (name_in (codes "Base") (codes "two"))

abbrev pub def_Base_wrec : NExpr
def_Base_wrec = NVar (name_in (codes "Base") (codes "wrec"))

abbrev pub def_big : NExpr
def_big = NVar (name_in (codes "M") (codes "big"))

abbrev pub def_cid : NExpr
def_cid = NVar (name_in (codes "M") (codes "cid"))

abbrev pub def_fst : NExpr
def_fst = NVar (name_in (codes "M") (codes "fst"))

abbrev pub def_idf : NExpr
def_idf = NVar (name_in (codes "M") (codes "idf"))

abbrev pub def_lit : NExpr
def_lit = NVar (name_in (codes "M") (codes "lit"))

abbrev pub def_pair : NExpr
def_pair = NVar (name_in (codes "M") (codes "pair"))

abbrev pub def_rec : NExpr
def_rec = NVar (name_in (codes "M") (codes "rec"))

abbrev pub def_thk : NExpr
def_thk = NVar (name_in (codes "M") (codes "thk"))

abbrev pub def_tid : NExpr
def_tid = NVar (name_in (codes "M") (codes "tid"))

abbrev pub def_two : NExpr
def_two = NVar (name_in (codes "M") (codes "two"))

abbrev pub name_Base_I_hash : Name
name_Base_I_hash = name_in (codes "Base") (codes "I#")

abbrev pub name_Base_MkBx : Name
name_Base_MkBx = name_in (codes "Base") (codes "MkBx")

abbrev pub name_Base_MkPair : Name
name_Base_MkPair = name_in (codes "Base") (codes "MkPair")

abbrev pub name_CoAge : Name
name_CoAge = name_in (codes "M") (codes "CoAge")

abbrev pub name_CoFn : Name
name_CoFn = name_in (codes "M") (codes "CoFn")

abbrev pub name_CoW : Name
name_CoW = name_in (codes "M") (codes "CoW")

abbrev pub name_Cons : Name
name_Cons = name_in (codes "M") (codes "Cons")

abbrev pub name_FI : Name
name_FI = name_in (codes "M") (codes "FI")

abbrev pub name_False : Name
name_False = name_in (codes "M") (codes "False")

abbrev pub name_I_hash : Name
name_I_hash = name_in (codes "M") (codes "I#")

abbrev pub name_MkBox : Name
name_MkBox = name_in (codes "M") (codes "MkBox")

abbrev pub name_MkExC : Name
name_MkExC = name_in (codes "M") (codes "MkExC")

abbrev pub name_MkP2 : Name
name_MkP2 = name_in (codes "M") (codes "MkP2")

abbrev pub name_MkPair : Name
name_MkPair = name_in (codes "M") (codes "MkPair")

abbrev pub name_MkPoly : Name
name_MkPoly = name_in (codes "M") (codes "MkPoly")

abbrev pub name_MkU : Name
name_MkU = name_in (codes "M") (codes "MkU")

abbrev pub name_Nil : Name
name_Nil = name_in (codes "M") (codes "Nil")

abbrev pub name_Pack : Name
name_Pack = name_in (codes "M") (codes "Pack")

abbrev pub name_Refl : Name
name_Refl = name_in (codes "M") (codes "Refl")

abbrev pub name_True : Name
name_True = name_in (codes "M") (codes "True")
