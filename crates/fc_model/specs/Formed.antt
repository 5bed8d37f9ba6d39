-- When a tree is one of the text form: every word is one of its form, and every group has a size that can be written.
use Rattle.std.specs.Prelude.{◌≡◌, ⊤, ◌+◌, ◌-◌, ◌^◌, ℕ, ℤ, pos, negsuc, int_lt, nat_lt, Bool, true, false, not, ◌&&◌, List, [], ◌∷◌, length, Option, Some, None, is_none}
use Rattle.std.specs.List.{list_all}
use Rattle.fc_syntax.specs.declared.ty.Name.{Name}
use Rattle.fc_syntax.specs.declared.ty.Role.{Role}
use Rattle.fc_syntax.specs.declared.ty.Role.TheVariants as role
use Rattle.fc_syntax.specs.declared.expr.Head.{Head}
use Rattle.fc_syntax.specs.declared.expr.Head.TheVariants as head
use Rattle.fc_syntax.specs.declared.ty.Ref.{Ref}
use Rattle.fc_syntax.specs.declared.ty.Ref.TheVariants as ref
use Rattle.fc_syntax.specs.GenericTree as generic
use Rattle.fc_syntax.specs.Tree.{Word, Ty, TVar, TCon, TInt, TApp, TFun, TForall, TCoForall}
use Rattle.fc_syntax.specs.Tree.{Co, GVar, GRefl, GSym, GTrans, GTc, GCapp, GFun, GAll, GCoAll, GInst, GNth, GLeft, GRight, GSub, GAx, GUniv, Cos, NoCos, MoreCos}
use Rattle.fc_syntax.specs.Tree.{Binder, BValue, BType, BCo, Arg, ATerm, Bind, Bound, JoinBind, Joined, Alt, Branch}
use Rattle.fc_syntax.specs.Tree.{Expr, EVar, ELit, EApp, ELam, ELet, ECase, ECast, ECon, EPrim, EFail, EJoin, EJump}
use Rattle.fc_syntax.specs.Tree.{Exprs, NoExprs, MoreExprs, Args, NoArgs, MoreArgs, Binds, NoBinds, MoreBinds, Joins, NoJoins, MoreJoins, Alts, NoAlts, MoreAlts}
use Rattle.fc_syntax.specs.Tree.{Param, ParamOf, Plain, PlainOf, ConDecl, ConOf, Decl, DData, DNew, DFamily, DAxiom, DDef, DWrap, Module, ModuleOf}
use Rattle.fc_syntax.specs.Tokens.{is_lower_name, is_module_name, is_plain_name, is_upper_name}
use Rattle.fc_syntax.specs.Demands.{Demand, Product, Demands, NoDemands, MoreDemands, Sig, SigOf}
use Rattle.fc_model.specs.Grammar.{Interface, InterfaceOf}
use Rattle.fc_model.specs.Words.{keyword_of}

-- WORDS

-- a name that is no word of a form, of either case, lower or upper
abbrev pub is_word : Word → Bool
is_word w = is_plain_name w && is_none (keyword_of w)

abbrev pub is_lower_word : Word → Bool
is_lower_word w = is_lower_name w && is_none (keyword_of w)

abbrev pub is_upper_word : Word → Bool
is_upper_word w = is_upper_name w && is_none (keyword_of w)

abbrev pub is_module_formed : Option Word → Bool
is_module_formed None = true
is_module_formed (Some m) = is_module_name m

-- names that are used, which may be those of a module
abbrev pub is_lower_formed : Name → Bool
is_lower_formed n = is_module_formed n.module && is_lower_word n.text

abbrev pub is_upper_formed : Name → Bool
is_upper_formed n = is_module_formed n.module && is_upper_word n.text

-- from -2^63 to 2^63 - 1
abbrev pub is_literal_formed : ℤ → Bool
is_literal_formed n = not (int_lt n (negsuc (2 ^ 63 - 1))) && int_lt n (pos (2 ^ 63))

-- an equality is at N or at R
abbrev pub is_equality_role : Role → Bool
is_equality_role role.N = true
is_equality_role role.R = true
is_equality_role role.P = false

-- WHAT THE WORDS IN A TREE HAVE TO BE

-- of variables of types, coercions and join points, of variables of terms, and of what binders keep
pub record WordTests (L V B : Type 0) : Type 0 where
  pub variable : L → Bool
  pub name : V → Bool
  pub binder : B → Bool

-- in the named tree each is a word
abbrev pub named_words : WordTests Word Name Word
named_words = record { variable = is_lower_word; name = is_lower_formed; binder = is_lower_word }

-- in the nameless tree a variable is a distance or a name, and a binder keeps a word
abbrev pub is_ref_formed : Ref → Bool
is_ref_formed (ref.Local i) = true
is_ref_formed (ref.Top n) = is_lower_formed n

abbrev pub nameless_words : WordTests ℕ Ref Word
nameless_words = record { variable = λ i. true; name = is_ref_formed; binder = is_lower_word }

-- TYPES AND COERCIONS

abbrev pub type_formed : {L V B : Type 0} → WordTests L V B → generic.Ty L B → Bool
type_formed w (TVar a) = w.variable a
type_formed w (TCon n) = is_upper_formed n
type_formed w TInt = true
type_formed w (TApp t u) = type_formed w t && type_formed w u
type_formed w (TFun t u) = type_formed w t && type_formed w u
type_formed w (TForall a k t) = w.binder a && type_formed w t
type_formed w (TCoForall r t u v) = is_equality_role r && (type_formed w t && (type_formed w u && type_formed w v))

abbrev pub are_some_cos : {L B : Type 0} → generic.Cos L B → Bool
are_some_cos NoCos = false
are_some_cos (MoreCos g gs) = true

-- a type constructor has one part at least, and a part's number nine digits
abbrev mutual
  pub co_formed : {L V B : Type 0} → WordTests L V B → generic.Co L B → Bool
  co_formed w (GVar c) = w.variable c
  co_formed w (GRefl r t) = type_formed w t
  co_formed w (GSym g) = co_formed w g
  co_formed w (GTrans g h) = co_formed w g && co_formed w h
  co_formed w (GTc r n gs) = is_equality_role r && (is_upper_formed n && (are_some_cos gs && cos_formed w gs))
  co_formed w (GCapp g h) = co_formed w g && co_formed w h
  co_formed w (GFun g h) = co_formed w g && co_formed w h
  co_formed w (GAll a k g) = w.binder a && co_formed w g
  co_formed w (GCoAll r s f g h) = (is_equality_role r && is_equality_role s) && (co_formed w f && (co_formed w g && co_formed w h))
  co_formed w (GInst g h) = co_formed w g && co_formed w h
  co_formed w (GNth n g) = nat_lt n (10 ^ 9) && co_formed w g
  co_formed w (GLeft g) = co_formed w g
  co_formed w (GRight g) = co_formed w g
  co_formed w (GSub g) = co_formed w g
  co_formed w (GAx n gs) = is_upper_formed n && cos_formed w gs
  co_formed w (GUniv t u) = type_formed w t && type_formed w u

  pub cos_formed : {L V B : Type 0} → WordTests L V B → generic.Cos L B → Bool
  cos_formed w NoCos = true
  cos_formed w (MoreCos g gs) = co_formed w g && cos_formed w gs

abbrev pub binder_formed : {L V B : Type 0} → WordTests L V B → generic.Binder L B → Bool
binder_formed w (BValue x t) = w.binder x && type_formed w t
binder_formed w (BType a k) = w.binder a
binder_formed w (BCo c r t u) = w.binder c && (is_equality_role r && (type_formed w t && type_formed w u))

-- EXPRESSIONS

abbrev pub is_one_bind : {L V B : Type 0} → generic.Binds L V B → Bool
is_one_bind NoBinds = false
is_one_bind (MoreBinds b NoBinds) = true
is_one_bind (MoreBinds b (MoreBinds c bs)) = false

abbrev pub are_some_binds : {L V B : Type 0} → generic.Binds L V B → Bool
are_some_binds NoBinds = false
are_some_binds (MoreBinds b bs) = true

abbrev pub is_one_join : {L V B : Type 0} → generic.Joins L V B → Bool
is_one_join NoJoins = false
is_one_join (MoreJoins j NoJoins) = true
is_one_join (MoreJoins j (MoreJoins k js)) = false

abbrev pub are_some_joins : {L V B : Type 0} → generic.Joins L V B → Bool
are_some_joins NoJoins = false
are_some_joins (MoreJoins j js) = true

-- one bind where it is not recursive, and one at least where it is
abbrev pub is_bind_group : {L V B : Type 0} → Bool → generic.Binds L V B → Bool
is_bind_group false bs = is_one_bind bs
is_bind_group true bs = are_some_binds bs

abbrev pub is_join_group : {L V B : Type 0} → Bool → generic.Joins L V B → Bool
is_join_group false js = is_one_join js
is_join_group true js = are_some_joins js

abbrev pub is_empty_list : {X : Type 0} → List X → Bool
is_empty_list [] = true
is_empty_list (x ∷ xs) = false

-- only the alternative of a constructor has binders
abbrev pub head_formed : {L V B : Type 0} → WordTests L V B → Head → List (generic.Binder L B) → Bool
head_formed w head.Default bs = is_empty_list bs
head_formed w (head.Lit n) bs = is_literal_formed n && is_empty_list bs
head_formed w (head.Con n) bs = is_upper_formed n && list_all (binder_formed w) bs

abbrev mutual
  pub expr_formed : {L V B : Type 0} → WordTests L V B → generic.Expr L V B → Bool
  expr_formed w (EVar n) = w.name n
  expr_formed w (ELit n) = is_literal_formed n
  expr_formed w (EApp f a) = expr_formed w f && arg_formed w a
  expr_formed w (ELam b e) = binder_formed w b && expr_formed w e
  expr_formed w (ELet r bs e) = is_bind_group r bs && (binds_formed w bs && expr_formed w e)
  expr_formed w (ECase e x t u alts) = expr_formed w e && ((w.binder x && (type_formed w t && type_formed w u)) && alts_formed w alts)
  expr_formed w (ECast e g) = expr_formed w e && co_formed w g
  expr_formed w (ECon n args) = is_upper_formed n && args_formed w args
  expr_formed w (EPrim op es) = exprs_formed w es
  expr_formed w (EFail t) = type_formed w t
  expr_formed w (EJoin r t js e) = is_join_group r js && (type_formed w t && (joins_formed w js && expr_formed w e))
  expr_formed w (EJump j args) = w.variable j && args_formed w args

  pub arg_formed : {L V B : Type 0} → WordTests L V B → generic.Arg L V B → Bool
  arg_formed w (ATerm e) = expr_formed w e
  arg_formed w (generic.AType t) = type_formed w t
  arg_formed w (generic.ACo g) = co_formed w g

  pub args_formed : {L V B : Type 0} → WordTests L V B → generic.Args L V B → Bool
  args_formed w NoArgs = true
  args_formed w (MoreArgs a rest) = arg_formed w a && args_formed w rest

  pub exprs_formed : {L V B : Type 0} → WordTests L V B → generic.Exprs L V B → Bool
  exprs_formed w NoExprs = true
  exprs_formed w (MoreExprs e es) = expr_formed w e && exprs_formed w es

  pub bind_formed : {L V B : Type 0} → WordTests L V B → generic.Bind L V B → Bool
  bind_formed w (Bound x t e) = w.binder x && (type_formed w t && expr_formed w e)

  pub binds_formed : {L V B : Type 0} → WordTests L V B → generic.Binds L V B → Bool
  binds_formed w NoBinds = true
  binds_formed w (MoreBinds b bs) = bind_formed w b && binds_formed w bs

  pub join_formed : {L V B : Type 0} → WordTests L V B → generic.JoinBind L V B → Bool
  join_formed w (Joined j params e) = w.binder j && (list_all (binder_formed w) params && expr_formed w e)

  pub joins_formed : {L V B : Type 0} → WordTests L V B → generic.Joins L V B → Bool
  joins_formed w NoJoins = true
  joins_formed w (MoreJoins j js) = join_formed w j && joins_formed w js

  pub alt_formed : {L V B : Type 0} → WordTests L V B → generic.Alt L V B → Bool
  alt_formed w (Branch h bs e) = head_formed w h bs && expr_formed w e

  pub alts_formed : {L V B : Type 0} → WordTests L V B → generic.Alts L V B → Bool
  alts_formed w NoAlts = true
  alts_formed w (MoreAlts a rest) = alt_formed w a && alts_formed w rest

-- DECLARATIONS

abbrev pub param_formed : {L V B : Type 0} → WordTests L V B → generic.Param B → Bool
param_formed w (ParamOf a k r) = w.binder a

abbrev pub plain_formed : {L V B : Type 0} → WordTests L V B → generic.Plain B → Bool
plain_formed w (PlainOf a k) = w.binder a

-- the coercions of a constructor, and its types before them
abbrev pub field_coercions_formed : {L V B : Type 0} → WordTests L V B → List (generic.Binder L B) → Bool
field_coercions_formed w [] = true
field_coercions_formed w (BValue x t ∷ bs) = false
field_coercions_formed w (BType a k ∷ bs) = false
field_coercions_formed w (BCo c r t u ∷ bs) = binder_formed w (BCo c r t u) && field_coercions_formed w bs

abbrev pub field_binders_formed : {L V B : Type 0} → WordTests L V B → List (generic.Binder L B) → Bool
field_binders_formed w [] = true
field_binders_formed w (BValue x t ∷ bs) = false
field_binders_formed w (BType a k ∷ bs) = w.binder a && field_binders_formed w bs
field_binders_formed w (BCo c r t u ∷ bs) = binder_formed w (BCo c r t u) && field_coercions_formed w bs

abbrev pub con_formed : {L V B : Type 0} → WordTests L V B → generic.ConDecl L B → Bool
con_formed w (ConOf n bs fields) = is_upper_word n && (field_binders_formed w bs && list_all (type_formed w) fields)

abbrev pub decl_formed : {L V B : Type 0} → WordTests L V B → generic.Decl L V B → Bool
decl_formed w (DData n ps cs) = is_upper_word n && (list_all (param_formed w) ps && list_all (con_formed w) cs)
decl_formed w (DNew n ps t c) = (is_upper_word n && is_upper_word c) && (list_all (param_formed w) ps && type_formed w t)
decl_formed w (DFamily n ps k) = is_upper_word n && list_all (plain_formed w) ps
decl_formed w (DAxiom n ps t u) = is_upper_word n && (list_all (plain_formed w) ps && (type_formed w t && type_formed w u))
decl_formed w (DDef n t e) = is_lower_word n && (type_formed w t && expr_formed w e)
decl_formed w (DWrap n t e) = is_lower_word n && (type_formed w t && expr_formed w e)

abbrev pub module_formed : {L V B : Type 0} → WordTests L V B → generic.Module L V B → Bool
module_formed w (ModuleOf m imports exports hidden ds) =
    (is_module_name m && list_all is_module_name imports) && ((list_all is_word exports && list_all is_word hidden) && list_all (decl_formed w) ds)

-- THE NAMED TREE

abbrev pub is_type_formed : Ty → Bool
is_type_formed = type_formed named_words

abbrev pub is_co_formed : Co → Bool
is_co_formed = co_formed named_words

abbrev pub are_cos_formed : Cos → Bool
are_cos_formed = cos_formed named_words

abbrev pub is_binder_formed : Binder → Bool
is_binder_formed = binder_formed named_words

abbrev pub is_head_formed : Head → List Binder → Bool
is_head_formed = head_formed named_words

abbrev pub is_expr_formed : Expr → Bool
is_expr_formed = expr_formed named_words

abbrev pub is_arg_formed : Arg → Bool
is_arg_formed = arg_formed named_words

abbrev pub are_args_formed : Args → Bool
are_args_formed = args_formed named_words

abbrev pub are_exprs_formed : Exprs → Bool
are_exprs_formed = exprs_formed named_words

abbrev pub is_bind_formed : Bind → Bool
is_bind_formed = bind_formed named_words

abbrev pub are_binds_formed : Binds → Bool
are_binds_formed = binds_formed named_words

abbrev pub is_join_formed : JoinBind → Bool
is_join_formed = join_formed named_words

abbrev pub are_joins_formed : Joins → Bool
are_joins_formed = joins_formed named_words

abbrev pub is_alt_formed : Alt → Bool
is_alt_formed = alt_formed named_words

abbrev pub are_alts_formed : Alts → Bool
are_alts_formed = alts_formed named_words

abbrev pub is_param_formed : Param → Bool
is_param_formed = param_formed named_words

abbrev pub is_plain_formed : Plain → Bool
is_plain_formed = plain_formed named_words

abbrev pub are_field_coercions : List Binder → Bool
are_field_coercions = field_coercions_formed named_words

abbrev pub are_field_binders : List Binder → Bool
are_field_binders = field_binders_formed named_words

abbrev pub is_con_formed : ConDecl → Bool
is_con_formed = con_formed named_words

abbrev pub is_decl_formed : Decl → Bool
is_decl_formed = decl_formed named_words

abbrev pub is_formed : Module → Bool
is_formed = module_formed named_words

abbrev pub IsFormed : Module → Type 0
IsFormed m = is_formed m ≡ true

-- INTERFACES

abbrev mutual
  pub is_demand_formed : Demand → Bool
  is_demand_formed (Product k fields) = is_upper_formed k && are_demands_formed fields
  is_demand_formed d = true

  pub are_demands_formed : Demands → Bool
  are_demands_formed NoDemands = true
  are_demands_formed (MoreDemands d rest) = is_demand_formed d && are_demands_formed rest

abbrev pub is_sig_formed : Sig → Bool
is_sig_formed (SigOf args diverges) = are_demands_formed args

-- how many definitions are among declarations
abbrev pub definition_count : List Decl → ℕ
definition_count [] = 0
definition_count (DDef x t e ∷ ds) = 1 + definition_count ds
definition_count (DWrap x t e ∷ ds) = 1 + definition_count ds
definition_count (d ∷ ds) = definition_count ds

-- one truth value for each definition, and each that is not told is a `def` of its type that fails
abbrev pub FailUntold : List Decl → List Bool → Type 0
FailUntold [] [] = ⊤
FailUntold [] (b ∷ told) = ⊥
FailUntold (DDef x t e ∷ ds) [] = ⊥
FailUntold (DDef x t e ∷ ds) (true ∷ told) = FailUntold ds told
FailUntold (DDef x t e ∷ ds) (false ∷ told) = (e ≡ EFail t) × FailUntold ds told
FailUntold (DWrap x t e ∷ ds) [] = ⊥
FailUntold (DWrap x t e ∷ ds) (true ∷ told) = FailUntold ds told
FailUntold (DWrap x t e ∷ ds) (false ∷ told) = ⊥
FailUntold (d ∷ ds) told = FailUntold ds told

-- the parts of an interface: the module, which has these declarations, their signatures, and which right sides are told
pub record AreInterfaceParts (m : Module) (ds : List Decl) (sigs : List Sig) (told : List Bool) : Type 0 where
  pub formed : IsFormed m
  pub one_sig : length sigs ≡ definition_count ds
  pub demands : list_all is_sig_formed sigs ≡ true
  pub untold : FailUntold ds told

abbrev pub IsInterfaceFormed : Interface → Type 0
IsInterfaceFormed (InterfaceOf (ModuleOf m imports exports hidden ds) sigs told) = AreInterfaceParts (ModuleOf m imports exports hidden ds) ds sigs told

-- THE NAMELESS TREE

-- the same of a nameless module, whose binders keep words
abbrev pub IsNamelessFormed : generic.Module ℕ Ref Word → Type 0
IsNamelessFormed m = module_formed nameless_words m ≡ true
