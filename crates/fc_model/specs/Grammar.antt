-- The grammar of the text form, as a table: one row for each of its lines. A row says what a part of a text wants behind its first token,
-- in order, and what tree is given in the end. The first token of a part decides which row it is; a part `..Form` stands behind its
-- opening bracket, where the next word decides. Nested and flattened spellings give one tree. White space, comments and leading zeros
-- are not seen here.
use Rattle.std.specs.Prelude.{ℕ, Bool, true, false, List, [], ◌∷◌, ◌++◌, ◌==◌, codes, map, Option, Some, None, if◌then◌else◌}
use Rattle.std.specs.Str.{bytes_eq}
use Rattle.fc_syntax.specs.declared.ty.Name.{Name}
use Rattle.fc_syntax.specs.declared.ty.Role.{Role}
use Rattle.fc_syntax.specs.declared.ty.Role.TheVariants as role
use Rattle.fc_syntax.specs.declared.expr.Head.TheVariants as head
use Rattle.fc_syntax.specs.declared.expr.PrimOp.{PrimOp}
use Rattle.fc_syntax.specs.declared.expr.PrimOp.TheVariants as op
use Rattle.fc_syntax.specs.declared.keyword.Keyword.{Keyword}
use Rattle.fc_syntax.specs.declared.keyword.Keyword.TheVariants as word
use Rattle.fc_syntax.specs.Keywords.{keyword_text}
use Rattle.fc_syntax.specs.Tree as tree
use Rattle.fc_syntax.specs.Tree.{Word, Kind, KStar, KHash, KArrow, Ty, TVar, TCon, TInt, TApp, TFun, TForall, TCoForall}
use Rattle.fc_syntax.specs.Tree.{Co, GVar, GRefl, GSym, GTrans, GTc, GCapp, GFun, GAll, GCoAll, GInst, GNth, GLeft, GRight, GSub, GAx, GUniv, Cos, NoCos, MoreCos}
use Rattle.fc_syntax.specs.Tree.{Binder, BValue, BType, BCo, Arg, ATerm, Bind, Bound, JoinBind, Joined, Alt, Branch}
use Rattle.fc_syntax.specs.Tree.{Expr, EVar, ELit, EApp, ELam, ELet, ECase, ECast, ECon, EPrim, EFail, EJoin, EJump}
use Rattle.fc_syntax.specs.Tree.{Exprs, NoExprs, MoreExprs, Args, NoArgs, MoreArgs, Binds, NoBinds, MoreBinds, Joins, NoJoins, MoreJoins, Alts, NoAlts, MoreAlts}
use Rattle.fc_syntax.specs.Tree.{Param, ParamOf, Plain, PlainOf, ConDecl, ConOf, Decl, DData, DNew, DFamily, DAxiom, DDef, DWrap, Module, ModuleOf}
use Rattle.fc_syntax.specs.Demands.{Demand, Bottom, Absent, Product, Strict, Lazy, Demands, NoDemands, MoreDemands, Sig, SigOf}
use Rattle.fc_syntax.specs.Tokens.{is_module_part}
use Rattle.fc_model.specs.Words.{Tok, Open, Close, Key, Lower, Upper, LowerOf, UpperOf, Star, Hash, Arrow, Operator, Literal, Number}

infixr 20 ◌▸◌
-- THE PARTS OF A TEXT

pub data Part : Type 0 where
  -- brackets and words
  AnOpen : Part
  AClose : Part
  AWord : (k : Keyword) → Part
  -- a name that is declared or bound, a name of either case, and a name that is used
  ALower : Part
  AnUpper : Part
  AName : Part
  AModuleName : Part
  AnUpperName : Part
  ARole : Part
  AnEqualityRole : Part
  ANumber : Part
  AnOperator : Part
  AKind : Part
  AKindForm : Part
  AType : Part
  ATypeForm : Part
  ACoercion : Part
  ACoercionForm : Part
  ABinder : Part
  ABinderForm : Part
  AnArgument : Part
  AnArgumentForm : Part
  AnExpression : Part
  AnExpressionForm : Part
  ABind : Part
  AJoinBind : Part
  AnAlternative : Part
  AnAlternativeForm : Part
  AParameter : Part
  APlainParameter : Part
  -- the binders of a constructor: its types, then its coercions
  FieldBinders : Part
  FieldBindersForm : Part
  ACoercionField : Part
  AConstructor : Part
  ADeclaration : Part
  ADeclarationForm : Part
  AHeader : Part
  ABody : Part
  ABodyForm : Part
  AModule : Part
  -- of an interface: a name that is this word, and this number
  AThis : (w : Word) → Part
  AThisNumber : (n : ℕ) → Part
  ADemand : Part
  ADemandForm : Part
  ASignature : Part
  -- the demands of a signature, and whether it diverges
  SignatureEnd : Part
  AnUnfolding : Part
  AnUnfoldingForm : Part
  AnItem : Part
  AnItemForm : Part
  AnInterfaceHeader : Part
  AnInterfaceBody : Part
  AnInterfaceBodyForm : Part
  AnInterface : Part
  -- as many of a part as there are, one at least with `Several`, and the closing bracket behind them
  Many : (p : Part) → Part
  Several : (p : Part) → Part

-- the front of a module, up to the names that it exports
pub data Header : Type 0 where
  HeaderOf : (m : Word) (imports exports : List Word) → Header

-- what stands behind the header of a file: its hidden names and its members, which are declarations or items
pub data Body (X : Type 0) : Type 0 where
  BodyOf : (hidden : List Word) (members : List X) → Body X

-- what an interface tells of the right side of a definition
pub data Unfolding : Type 0 where
  Untold : Unfolding
  ToldDef : (e : Expr) → Unfolding
  ToldWrap : (e : Expr) → Unfolding

-- an item of an interface: a declaration of a type or an axiom, or a value with its type, its signature and its unfolding
pub data Item : Type 0 where
  ItemDecl : (d : Decl) → Item
  ItemValue : (x : Word) (t : Ty) (sig : Sig) (u : Unfolding) → Item

-- An interface: a module, where each definition whose right side is not told is a `def` of its type that fails, the signatures of its
-- definitions in order, and for each whether its right side is told.
pub data Interface : Type 0 where
  InterfaceOf : (m : Module) (sigs : List Sig) (told : List Bool) → Interface

-- nothing but that a part was there
pub data Here : Type 0 where
  here : Here

-- what a part gives
abbrev pub Given : Part → Type 0
Given AnOpen = Here
Given AClose = Here
Given (AWord k) = Here
Given ALower = Word
Given AnUpper = Word
Given AName = Word
Given AModuleName = Word
Given AnUpperName = Name
Given ARole = Role
Given AnEqualityRole = Role
Given ANumber = ℕ
Given AnOperator = PrimOp
Given AKind = Kind
Given AKindForm = Kind
Given AType = Ty
Given ATypeForm = Ty
Given ACoercion = Co
Given ACoercionForm = Co
Given ABinder = Binder
Given ABinderForm = Binder
Given AnArgument = Arg
Given AnArgumentForm = Arg
Given AnExpression = Expr
Given AnExpressionForm = Expr
Given ABind = Bind
Given AJoinBind = JoinBind
Given AnAlternative = Alt
Given AnAlternativeForm = Alt
Given AParameter = Param
Given APlainParameter = Plain
Given FieldBinders = List Binder
Given FieldBindersForm = List Binder
Given ACoercionField = Binder
Given AConstructor = ConDecl
Given ADeclaration = Decl
Given ADeclarationForm = Decl
Given AHeader = Header
Given ABody = Body Decl
Given ABodyForm = Body Decl
Given AModule = Module
Given (AThis w) = Here
Given (AThisNumber n) = Here
Given ADemand = Demand
Given ADemandForm = Demand
Given ASignature = Sig
Given SignatureEnd = Sig
Given AnUnfolding = Unfolding
Given AnUnfoldingForm = Unfolding
Given AnItem = Item
Given AnItemForm = Item
Given AnInterfaceHeader = Header
Given AnInterfaceBody = Body Item
Given AnInterfaceBodyForm = Body Item
Given AnInterface = Interface
Given (Many p) = List (Given p)
Given (Several p) = List (Given p)

-- what is still to come, in order, and what it gives in the end
pub data Steps (A : Type 0) : Type 0 where
  gives : (x : A) → Steps A
  ◌▸◌ : (p : Part) → (Given p → Steps A) → Steps A

-- the steps, and then those that what they give asks for
abbrev pub and_then : {A B : Type 0} → Steps A → (A → Steps B) → Steps B
and_then (gives x) f = f x
and_then (p ▸ g) f = p ▸ λ y. and_then (g y) f

-- a row may not be there
abbrev pub row_then : {A B : Type 0} → Option (Steps A) → (A → Steps B) → Option (Steps B)
row_then None f = None
row_then (Some st) f = Some (and_then st f)

-- WHAT SEVERAL PARTS GIVE TOGETHER

-- a word without a dot, as a name
abbrev pub plain_name : Word → Name
plain_name w = record { «module» = None; text = w }

-- a name of a module
abbrev pub name_in : Word → Word → Name
name_in m w = record { «module» = Some m; text = w }

-- from a type to the first of these, and so on: the last is the result
abbrev pub functions : Ty → List Ty → Ty
functions t [] = t
functions t (u ∷ us) = TFun t (functions u us)

-- a type applied to the first of these, then to the next
abbrev pub type_applications : Ty → List Ty → Ty
type_applications t [] = t
type_applications t (u ∷ us) = type_applications (TApp t u) us

-- a head applied to the first of these, then to the next
abbrev pub applications : Expr → List Arg → Expr
applications f [] = f
applications f (a ∷ rest) = applications (EApp f a) rest

-- a lambda inside another for each binder
abbrev pub lambdas : List Binder → Expr → Expr
lambdas [] e = e
lambdas (b ∷ bs) e = ELam b (lambdas bs e)

abbrev pub cos_from : List Co → Cos
cos_from [] = NoCos
cos_from (g ∷ gs) = MoreCos g (cos_from gs)

abbrev pub args_from : List Arg → Args
args_from [] = NoArgs
args_from (a ∷ rest) = MoreArgs a (args_from rest)

abbrev pub exprs_from : List Expr → Exprs
exprs_from [] = NoExprs
exprs_from (e ∷ es) = MoreExprs e (exprs_from es)

abbrev pub binds_from : List Bind → Binds
binds_from [] = NoBinds
binds_from (b ∷ bs) = MoreBinds b (binds_from bs)

abbrev pub joins_from : List JoinBind → Joins
joins_from [] = NoJoins
joins_from (j ∷ js) = MoreJoins j (joins_from js)

abbrev pub alts_from : List Alt → Alts
alts_from [] = NoAlts
alts_from (a ∷ rest) = MoreAlts a (alts_from rest)

abbrev pub module_from : Header → Body Decl → Module
module_from (HeaderOf m imports exports) (BodyOf hidden decls) = ModuleOf m imports exports hidden decls

abbrev pub demands_from : List Demand → Demands
demands_from [] = NoDemands
demands_from (d ∷ ds) = MoreDemands d (demands_from ds)

-- one demand more in front
abbrev pub more_demand : Demand → Sig → Sig
more_demand d (SigOf ds diverges) = SigOf (MoreDemands d ds) diverges

-- the definition of which an interface says this: where its right side is not told, one that fails
abbrev pub definition_of : Word → Ty → Unfolding → Decl
definition_of x t Untold = DDef x t (EFail t)
definition_of x t (ToldDef e) = DDef x t e
definition_of x t (ToldWrap e) = DWrap x t e

-- the declaration that an item stands for
abbrev pub item_decl : Item → Decl
item_decl (ItemDecl d) = d
item_decl (ItemValue x t sig u) = definition_of x t u

abbrev pub item_sigs : List Item → List Sig
item_sigs [] = []
item_sigs (ItemDecl d ∷ items) = item_sigs items
item_sigs (ItemValue x t sig u ∷ items) = sig ∷ item_sigs items

abbrev pub is_told : Unfolding → Bool
is_told Untold = false
is_told (ToldDef e) = true
is_told (ToldWrap e) = true

abbrev pub items_told : List Item → List Bool
items_told [] = []
items_told (ItemDecl d ∷ items) = items_told items
items_told (ItemValue x t sig u ∷ items) = is_told u ∷ items_told items

abbrev pub interface_from : Header → Body Item → Interface
interface_from (HeaderOf m imports exports) (BodyOf hidden items) = InterfaceOf (ModuleOf m imports exports hidden (map item_decl items)) (item_sigs items) (items_told items)

-- THE ROWS

-- the words N, R and P where a role stands
abbrev pub role_row : Word → Option (Steps Role)
role_row w =
    if bytes_eq w (codes "N") then Some (gives role.N) else
    if bytes_eq w (codes "R") then Some (gives role.R) else
    if bytes_eq w (codes "P") then Some (gives role.P) else None

abbrev pub equality_role_row : Word → Option (Steps Role)
equality_role_row w =
    if bytes_eq w (codes "N") then Some (gives role.N) else
    if bytes_eq w (codes "R") then Some (gives role.R) else None

-- M ::= upper names of letters, digits and `_`, joined by dots
abbrev pub module_name_row : Tok → Option (Steps Word)
module_name_row (Upper w) = if is_module_part w then Some (gives w) else None
module_name_row (UpperOf m w) = if is_module_part w then Some (gives (m ++ 46 ∷ w)) else None
module_name_row _ = None

abbrev pub upper_name_row : Tok → Option (Steps Name)
upper_name_row (Upper w) = Some (gives (plain_name w))
upper_name_row (UpperOf m w) = Some (gives (name_in m w))
upper_name_row _ = None

-- op ::= +# | -# | *# | quotInt# | remInt# | ==# | /=# | <# | <=# | ># | >=#
abbrev pub operator_row : Tok → Option (Steps PrimOp)
operator_row (Operator o) = Some (gives o)
operator_row (Key word.Quot) = Some (gives op.Quot)
operator_row (Key word.Rem) = Some (gives op.Rem)
operator_row _ = None

-- kind ::= * | # | (-> kind kind)
abbrev pub kind_row : Tok → Option (Steps Kind)
kind_row Star = Some (gives KStar)
kind_row Hash = Some (gives KHash)
kind_row Open = Some (AKindForm ▸ λ k. gives k)
kind_row _ = None

-- type ::= a | T | Int# | ( ..
abbrev pub type_row : Tok → Option (Steps Ty)
type_row (Lower a) = Some (gives (TVar a))
type_row (Upper w) = Some (gives (TCon (plain_name w)))
type_row (UpperOf m w) = Some (gives (TCon (name_in m w)))
type_row (Key word.IntHash) = Some (gives TInt)
type_row Open = Some (ATypeForm ▸ λ t. gives t)
type_row _ = None

-- ( fun type type+) | forall (a kind) type) | coforall eqrole type type type) | type type+)
abbrev pub type_form_row : Tok → Option (Steps Ty)
type_form_row (Key word.Fun) = Some (AType ▸ λ t. Several AType ▸ λ us. gives (functions t us))
type_form_row (Key word.Forall) = Some (AnOpen ▸ λ _. ALower ▸ λ a. AKind ▸ λ k. AClose ▸ λ _. AType ▸ λ t. AClose ▸ λ _. gives (TForall a k t))
type_form_row (Key word.CoForall) = Some (AnEqualityRole ▸ λ r. AType ▸ λ t. AType ▸ λ u. AType ▸ λ v. AClose ▸ λ _. gives (TCoForall r t u v))
type_form_row t = row_then (type_row t) (λ h. Several AType ▸ λ us. gives (type_applications h us))

-- a coercion of one part, or of two
abbrev pub of_coercion : (Co → Co) → Steps Co
of_coercion f = ACoercion ▸ λ g. AClose ▸ λ _. gives (f g)

abbrev pub of_coercions : (Co → Co → Co) → Steps Co
of_coercions f = ACoercion ▸ λ g. ACoercion ▸ λ h. AClose ▸ λ _. gives (f g h)

-- coercion ::= c | ( ..
abbrev pub coercion_row : Tok → Option (Steps Co)
coercion_row (Lower c) = Some (gives (GVar c))
coercion_row Open = Some (ACoercionForm ▸ λ g. gives g)
coercion_row _ = None

abbrev pub coercion_form_row : Tok → Option (Steps Co)
coercion_form_row (Key word.Refl) = Some (ARole ▸ λ r. AType ▸ λ t. AClose ▸ λ _. gives (GRefl r t))
coercion_form_row (Key word.Sym) = Some (of_coercion GSym)
coercion_form_row (Key word.Trans) = Some (of_coercions GTrans)
coercion_form_row (Key word.Tc) = Some (AnEqualityRole ▸ λ r. AnUpperName ▸ λ n. Several ACoercion ▸ λ gs. gives (GTc r n (cos_from gs)))
coercion_form_row (Key word.Capp) = Some (of_coercions GCapp)
coercion_form_row (Key word.FunCo) = Some (of_coercions GFun)
coercion_form_row (Key word.AllCo) = Some (AnOpen ▸ λ _. ALower ▸ λ a. AKind ▸ λ k. AClose ▸ λ _. ACoercion ▸ λ g. AClose ▸ λ _. gives (GAll a k g))
coercion_form_row (Key word.CoAllCo) =
    Some (AnEqualityRole ▸ λ r. AnEqualityRole ▸ λ s. ACoercion ▸ λ f. ACoercion ▸ λ g. ACoercion ▸ λ h. AClose ▸ λ _. gives (GCoAll r s f g h))
coercion_form_row (Key word.Inst) = Some (of_coercions GInst)
coercion_form_row (Key word.Nth) = Some (ANumber ▸ λ n. ACoercion ▸ λ g. AClose ▸ λ _. gives (GNth n g))
coercion_form_row (Key word.Left) = Some (of_coercion GLeft)
coercion_form_row (Key word.Right) = Some (of_coercion GRight)
coercion_form_row (Key word.Sub) = Some (of_coercion GSub)
coercion_form_row (Key word.Ax) = Some (AnUpperName ▸ λ n. Many ACoercion ▸ λ gs. gives (GAx n (cos_from gs)))
coercion_form_row (Key word.Univ) = Some (AType ▸ λ t. AType ▸ λ u. AClose ▸ λ _. gives (GUniv t u))
coercion_form_row _ = None

-- a kind) | c eqrole type type)   behind the words of a type binder and of a coercion binder
abbrev pub type_binder : Steps Binder
type_binder = ALower ▸ λ a. AKind ▸ λ k. AClose ▸ λ _. gives (BType a k)

abbrev pub coercion_binder : Steps Binder
coercion_binder = ALower ▸ λ c. AnEqualityRole ▸ λ r. AType ▸ λ t. AType ▸ λ u. AClose ▸ λ _. gives (BCo c r t u)

-- binder ::= (x type) | (type a kind) | (co c eqrole type type)
abbrev pub binder_form_row : Tok → Option (Steps Binder)
binder_form_row (Lower x) = Some (AType ▸ λ t. AClose ▸ λ _. gives (BValue x t))
binder_form_row (Key word.Type) = Some type_binder
binder_form_row (Key word.Co) = Some coercion_binder
binder_form_row _ = None

-- expr ::= x | n# | ( ..
abbrev pub expression_row : Tok → Option (Steps Expr)
expression_row (Lower w) = Some (gives (EVar (plain_name w)))
expression_row (LowerOf m w) = Some (gives (EVar (name_in m w)))
expression_row (Literal n) = Some (gives (ELit n))
expression_row Open = Some (AnExpressionForm ▸ λ e. gives e)
expression_row _ = None

abbrev pub expression_form_row : Tok → Option (Steps Expr)
expression_form_row (Key word.App) = Some (AnExpression ▸ λ f. Several AnArgument ▸ λ args. gives (applications f args))
expression_form_row (Key word.Lam) = Some (AnOpen ▸ λ _. Several ABinder ▸ λ bs. AnExpression ▸ λ e. AClose ▸ λ _. gives (lambdas bs e))
expression_form_row (Key word.Let) = Some (ABind ▸ λ b. AnExpression ▸ λ e. AClose ▸ λ _. gives (ELet false (MoreBinds b NoBinds) e))
expression_form_row (Key word.LetRec) = Some (AnOpen ▸ λ _. Several ABind ▸ λ bs. AnExpression ▸ λ e. AClose ▸ λ _. gives (ELet true (binds_from bs) e))
expression_form_row (Key word.Case) =
    Some (AnExpression ▸ λ e. AnOpen ▸ λ _. ALower ▸ λ x. AType ▸ λ t. AClose ▸ λ _. AType ▸ λ u. Many AnAlternative ▸ λ alts. gives (ECase e x t u (alts_from alts)))
expression_form_row (Key word.Cast) = Some (AnExpression ▸ λ e. ACoercion ▸ λ g. AClose ▸ λ _. gives (ECast e g))
expression_form_row (Key word.Con) = Some (AnUpperName ▸ λ k. Many AnArgument ▸ λ args. gives (ECon k (args_from args)))
expression_form_row (Key word.Prim) = Some (AnOperator ▸ λ o. Many AnExpression ▸ λ es. gives (EPrim o (exprs_from es)))
expression_form_row (Key word.Fail) = Some (AType ▸ λ t. AClose ▸ λ _. gives (EFail t))
expression_form_row (Key word.Join) = Some (AType ▸ λ t. AJoinBind ▸ λ j. AnExpression ▸ λ e. AClose ▸ λ _. gives (EJoin false t (MoreJoins j NoJoins) e))
expression_form_row (Key word.JoinRec) =
    Some (AType ▸ λ t. AnOpen ▸ λ _. Several AJoinBind ▸ λ js. AnExpression ▸ λ e. AClose ▸ λ _. gives (EJoin true t (joins_from js) e))
expression_form_row (Key word.Jump) = Some (ALower ▸ λ j. Many AnArgument ▸ λ args. gives (EJump j (args_from args)))
expression_form_row _ = None

-- arg ::= expr | (type type) | (co coercion)
abbrev pub argument_row : Tok → Option (Steps Arg)
argument_row Open = Some (AnArgumentForm ▸ λ a. gives a)
argument_row t = row_then (expression_row t) (λ e. gives (ATerm e))

abbrev pub argument_form_row : Tok → Option (Steps Arg)
argument_form_row (Key word.Type) = Some (AType ▸ λ t. AClose ▸ λ _. gives (tree.AType t))
argument_form_row (Key word.Co) = Some (ACoercion ▸ λ g. AClose ▸ λ _. gives (tree.ACo g))
argument_form_row t = row_then (expression_form_row t) (λ e. gives (ATerm e))

-- (x type expr), (j (binder*) expr)
abbrev pub bind_row : Tok → Option (Steps Bind)
bind_row Open = Some (ALower ▸ λ x. AType ▸ λ t. AnExpression ▸ λ e. AClose ▸ λ _. gives (Bound x t e))
bind_row _ = None

abbrev pub join_bind_row : Tok → Option (Steps JoinBind)
join_bind_row Open = Some (ALower ▸ λ j. AnOpen ▸ λ _. Many ABinder ▸ λ params. AnExpression ▸ λ e. AClose ▸ λ _. gives (Joined j params e))
join_bind_row _ = None

-- alt ::= (default expr) | (n# expr) | (K (binder*) expr)
abbrev pub constructor_alternative : Name → Steps Alt
constructor_alternative k = AnOpen ▸ λ _. Many ABinder ▸ λ bs. AnExpression ▸ λ e. AClose ▸ λ _. gives (Branch (head.Con k) bs e)

abbrev pub alternative_form_row : Tok → Option (Steps Alt)
alternative_form_row (Key word.Default) = Some (AnExpression ▸ λ e. AClose ▸ λ _. gives (Branch head.Default [] e))
alternative_form_row (Literal n) = Some (AnExpression ▸ λ e. AClose ▸ λ _. gives (Branch (head.Lit n) [] e))
alternative_form_row (Upper w) = Some (constructor_alternative (plain_name w))
alternative_form_row (UpperOf m w) = Some (constructor_alternative (name_in m w))
alternative_form_row _ = None

-- (a kind role), (a kind)
abbrev pub parameter_row : Tok → Option (Steps Param)
parameter_row Open = Some (ALower ▸ λ a. AKind ▸ λ k. ARole ▸ λ r. AClose ▸ λ _. gives (ParamOf a k r))
parameter_row _ = None

abbrev pub plain_parameter_row : Tok → Option (Steps Plain)
plain_parameter_row Open = Some (ALower ▸ λ a. AKind ▸ λ k. AClose ▸ λ _. gives (PlainOf a k))
plain_parameter_row _ = None

-- conbind* )   where types stand before coercions; conbind ::= (type a kind) | (co c eqrole type type)
abbrev pub field_binders_row : Tok → Option (Steps (List Binder))
field_binders_row Close = Some (gives [])
field_binders_row Open = Some (FieldBindersForm ▸ λ bs. gives bs)
field_binders_row _ = None

abbrev pub field_binders_form_row : Tok → Option (Steps (List Binder))
field_binders_form_row (Key word.Type) = Some (and_then type_binder (λ b. FieldBinders ▸ λ bs. gives (b ∷ bs)))
field_binders_form_row (Key word.Co) = Some (and_then coercion_binder (λ b. Many ACoercionField ▸ λ bs. gives (b ∷ bs)))
field_binders_form_row _ = None

abbrev pub coercion_field_row : Tok → Option (Steps Binder)
coercion_field_row Open = Some (AWord word.Co ▸ λ _. coercion_binder)
coercion_field_row _ = None

-- (K (conbind*) type*)
abbrev pub constructor_row : Tok → Option (Steps ConDecl)
constructor_row Open = Some (AnUpper ▸ λ k. AnOpen ▸ λ _. FieldBinders ▸ λ bs. Many AType ▸ λ fields. gives (ConOf k bs fields))
constructor_row _ = None

-- decl ::= (data T ((a kind role)*) (K (conbind*) type*)*) | (newtype T ((a kind role)*) type C) | (family F ((a kind)*) kind)
--        | (axiom C ((a kind)*) type type) | (def x type expr) | (wrap x type expr)
abbrev pub declaration_form_row : Tok → Option (Steps Decl)
declaration_form_row (Key word.Data) = Some (AnUpper ▸ λ n. AnOpen ▸ λ _. Many AParameter ▸ λ ps. Many AConstructor ▸ λ cs. gives (DData n ps cs))
declaration_form_row (Key word.NewType) = Some (AnUpper ▸ λ n. AnOpen ▸ λ _. Many AParameter ▸ λ ps. AType ▸ λ t. AnUpper ▸ λ c. AClose ▸ λ _. gives (DNew n ps t c))
declaration_form_row (Key word.Family) = Some (AnUpper ▸ λ n. AnOpen ▸ λ _. Many APlainParameter ▸ λ ps. AKind ▸ λ k. AClose ▸ λ _. gives (DFamily n ps k))
declaration_form_row (Key word.Axiom) = Some (AnUpper ▸ λ n. AnOpen ▸ λ _. Many APlainParameter ▸ λ ps. AType ▸ λ t. AType ▸ λ u. AClose ▸ λ _. gives (DAxiom n ps t u))
declaration_form_row (Key word.Def) = Some (ALower ▸ λ n. AType ▸ λ t. AnExpression ▸ λ e. AClose ▸ λ _. gives (DDef n t e))
declaration_form_row (Key word.Wrap) = Some (ALower ▸ λ n. AType ▸ λ t. AnExpression ▸ λ e. AClose ▸ λ _. gives (DWrap n t e))
declaration_form_row _ = None

-- module ::= (module M (imports M*) (exports n*) [(hidden n*)] decl*)
abbrev pub header_row : Tok → Option (Steps Header)
header_row Open =
    Some (AWord word.Module ▸ λ _. AModuleName ▸ λ m. AnOpen ▸ λ _. AWord word.Imports ▸ λ _. Many AModuleName ▸ λ imports. AnOpen ▸ λ _. AWord word.Exports ▸ λ _. Many AName ▸ λ exports.
    gives (HeaderOf m imports exports))
header_row _ = None

abbrev pub body_row : Tok → Option (Steps (Body Decl))
body_row Close = Some (gives (BodyOf [] []))
body_row Open = Some (ABodyForm ▸ λ b. gives b)
body_row _ = None

abbrev pub body_form_row : Tok → Option (Steps (Body Decl))
body_form_row (Key word.Hidden) = Some (Many AName ▸ λ hidden. Many ADeclaration ▸ λ decls. gives (BodyOf hidden decls))
body_form_row t = row_then (declaration_form_row t) (λ d. Many ADeclaration ▸ λ decls. gives (BodyOf [] (d ∷ decls)))

-- demand ::= B | A | S | L | (P K demand*)
abbrev pub demand_word_row : Word → Option (Steps Demand)
demand_word_row w =
    if bytes_eq w (codes "B") then Some (gives Bottom) else
    if bytes_eq w (codes "A") then Some (gives Absent) else
    if bytes_eq w (codes "S") then Some (gives Strict) else
    if bytes_eq w (codes "L") then Some (gives Lazy) else None

abbrev pub demand_row : Tok → Option (Steps Demand)
demand_row (Upper w) = demand_word_row w
demand_row Open = Some (ADemandForm ▸ λ d. gives d)
demand_row _ = None

abbrev pub demand_form_row : Tok → Option (Steps Demand)
demand_form_row (Upper w) = if bytes_eq w (codes "P") then Some (AnUpperName ▸ λ k. Many ADemand ▸ λ ds. gives (Product k (demands_from ds))) else None
demand_form_row _ = None

-- (sig demand* [diverges])
abbrev pub signature_row : Tok → Option (Steps Sig)
signature_row Open = Some (AThis (codes "sig") ▸ λ _. SignatureEnd ▸ λ s. gives s)
signature_row _ = None

abbrev pub signature_end_row : Tok → Option (Steps Sig)
signature_end_row Close = Some (gives (SigOf NoDemands false))
signature_end_row (Key word.Diverges) = Some (AClose ▸ λ _. gives (SigOf NoDemands true))
signature_end_row t = row_then (demand_row t) (λ d. SignatureEnd ▸ λ s. gives (more_demand d s))

-- unfolding ::= none | (def expr) | (wrap expr)
abbrev pub unfolding_row : Tok → Option (Steps Unfolding)
unfolding_row (Key word.None) = Some (gives Untold)
unfolding_row Open = Some (AnUnfoldingForm ▸ λ u. gives u)
unfolding_row _ = None

abbrev pub unfolding_form_row : Tok → Option (Steps Unfolding)
unfolding_form_row (Key word.Def) = Some (AnExpression ▸ λ e. AClose ▸ λ _. gives (ToldDef e))
unfolding_form_row (Key word.Wrap) = Some (AnExpression ▸ λ e. AClose ▸ λ _. gives (ToldWrap e))
unfolding_form_row _ = None

-- item ::= a declaration of a type or an axiom | (value x type (sig demand* [diverges]) unfolding)
abbrev pub item_form_row : Tok → Option (Steps Item)
item_form_row (Lower w) = if bytes_eq w (codes "value") then Some (ALower ▸ λ x. AType ▸ λ t. ASignature ▸ λ s. AnUnfolding ▸ λ u. AClose ▸ λ _. gives (ItemValue x t s u)) else None
item_form_row (Key word.Def) = None
item_form_row (Key word.Wrap) = None
item_form_row t = row_then (declaration_form_row t) (λ d. gives (ItemDecl d))

-- interface ::= (interface 1 M (imports M*) (exports n*) [(hidden n*)] item*)
abbrev pub interface_header_row : Tok → Option (Steps Header)
interface_header_row Open =
    Some (AThis (codes "interface") ▸ λ _. AThisNumber 1 ▸ λ _. AModuleName ▸ λ m. AnOpen ▸ λ _. AWord word.Imports ▸ λ _. Many AModuleName ▸ λ imports. AnOpen ▸ λ _. AWord word.Exports ▸ λ _. Many AName ▸ λ exports.
    gives (HeaderOf m imports exports))
interface_header_row _ = None

abbrev pub interface_body_row : Tok → Option (Steps (Body Item))
interface_body_row Close = Some (gives (BodyOf [] []))
interface_body_row Open = Some (AnInterfaceBodyForm ▸ λ b. gives b)
interface_body_row _ = None

abbrev pub interface_body_form_row : Tok → Option (Steps (Body Item))
interface_body_form_row (Key word.Hidden) = Some (Many AName ▸ λ hidden. Many AnItem ▸ λ items. gives (BodyOf hidden items))
interface_body_form_row t = row_then (item_form_row t) (λ i. Many AnItem ▸ λ items. gives (BodyOf [] (i ∷ items)))

abbrev pub at_bracket : {A : Type 0} → Tok → Steps A → Option (Steps A)
at_bracket Open st = Some st
at_bracket _ st = None

abbrev pub row_of : (p : Part) → Tok → Option (Steps (Given p))
row_of AnOpen Open = Some (gives here)
row_of AClose Close = Some (gives here)
row_of (AWord k) (Key l) = if bytes_eq (keyword_text l) (keyword_text k) then Some (gives here) else None
row_of ALower (Lower w) = Some (gives w)
row_of AnUpper (Upper w) = Some (gives w)
row_of AName (Lower w) = Some (gives w)
row_of AName (Upper w) = Some (gives w)
row_of AModuleName t = module_name_row t
row_of AnUpperName t = upper_name_row t
row_of ARole (Upper w) = role_row w
row_of AnEqualityRole (Upper w) = equality_role_row w
row_of ANumber (Number n) = Some (gives n)
row_of AnOperator t = operator_row t
row_of AKind t = kind_row t
row_of AKindForm Arrow = Some (AKind ▸ λ k. AKind ▸ λ l. AClose ▸ λ _. gives (KArrow k l))
row_of AType t = type_row t
row_of ATypeForm t = type_form_row t
row_of ACoercion t = coercion_row t
row_of ACoercionForm t = coercion_form_row t
row_of ABinder t = at_bracket t (ABinderForm ▸ λ b. gives b)
row_of ABinderForm t = binder_form_row t
row_of AnArgument t = argument_row t
row_of AnArgumentForm t = argument_form_row t
row_of AnExpression t = expression_row t
row_of AnExpressionForm t = expression_form_row t
row_of ABind t = bind_row t
row_of AJoinBind t = join_bind_row t
row_of AnAlternative t = at_bracket t (AnAlternativeForm ▸ λ a. gives a)
row_of AnAlternativeForm t = alternative_form_row t
row_of AParameter t = parameter_row t
row_of APlainParameter t = plain_parameter_row t
row_of FieldBinders t = field_binders_row t
row_of FieldBindersForm t = field_binders_form_row t
row_of ACoercionField t = coercion_field_row t
row_of AConstructor t = constructor_row t
row_of ADeclaration t = at_bracket t (ADeclarationForm ▸ λ d. gives d)
row_of ADeclarationForm t = declaration_form_row t
row_of AHeader t = header_row t
row_of ABody t = body_row t
row_of ABodyForm t = body_form_row t
row_of AModule t = row_then (header_row t) (λ h. ABody ▸ λ b. gives (module_from h b))
row_of (AThis w) (Lower v) = if bytes_eq v w then Some (gives here) else None
row_of (AThisNumber n) (Number m) = if m == n then Some (gives here) else None
row_of ADemand t = demand_row t
row_of ADemandForm t = demand_form_row t
row_of ASignature t = signature_row t
row_of SignatureEnd t = signature_end_row t
row_of AnUnfolding t = unfolding_row t
row_of AnUnfoldingForm t = unfolding_form_row t
row_of AnItem t = at_bracket t (AnItemForm ▸ λ i. gives i)
row_of AnItemForm t = item_form_row t
row_of AnInterfaceHeader t = interface_header_row t
row_of AnInterfaceBody t = interface_body_row t
row_of AnInterfaceBodyForm t = interface_body_form_row t
row_of AnInterface t = row_then (interface_header_row t) (λ h. AnInterfaceBody ▸ λ b. gives (interface_from h b))
row_of (Many p) Close = Some (gives [])
row_of (Many p) t = row_then (row_of p t) (λ x. Many p ▸ λ xs. gives (x ∷ xs))
row_of (Several p) t = row_then (row_of p t) (λ x. Many p ▸ λ xs. gives (x ∷ xs))
row_of _ _ = None
