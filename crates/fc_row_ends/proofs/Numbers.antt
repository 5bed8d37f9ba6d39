-- Six numbers of an expression, and of a module, that are compared from the first on: its nodes; its cases, lambdas over types and applications to types; the terms among
-- arguments of constructors that are no variable and no literal; its lets and their binds; its lets, each as often as an application, a case, a bind or a cast stands around it;
-- and its casts.
use Rattle.std.proofs.Common.{◌+◌, ℕ, suc, Bool, true, false, List, [], ◌∷◌}
use Rattle.fc_model.specs.Nameless.{NBinder, NBValue, NBType, NBCo, NArg, NATerm, NAType, NACo, NBind, NBound, NJoinBind, NJoined, NAlt, NBranch}
use Rattle.fc_model.specs.Nameless.{NExpr, NLocal, NVar, NLit, NApp, NLam, NLet, NCase, NCast, NCon, NPrim, NFail, NJoin, NJump}
use Rattle.fc_model.specs.Nameless.{NArgs, NoNArgs, MoreNArgs, NExprs, NoNExprs, MoreNExprs, NBinds, NoNBinds, MoreNBinds, NJoins, NoNJoins, MoreNJoins, NAlts, NoNAlts, MoreNAlts}
use Rattle.fc_model.specs.Nameless.{NDecl, NData, NNew, NFamily, NAxiom, NDef, NWrap, NModule, NModuleOf}
use Rattle.fc_model.specs.Typing.{is_atom}
use Rattle.fc_rows.specs.Shrinking.{is_trivial}
use Rattle.fc_row_nodes.specs.Nodes.{alternative_count, counted_binders, field_extra}

pub data Number : Type 0 where
  Nodes : Number
  Forms : Number
  Fields : Number
  Lets : Number
  Around : Number
  Casts : Number

-- WHAT FORMS ADD

-- a part of the nodes
abbrev pub own : Number → ℕ → ℕ
own Nodes k = k
own n k = 0

abbrev pub of_case : Number → ℕ
of_case Nodes = 1
of_case Forms = 1
of_case n = 0

-- an application to a type, and a lambda over one
abbrev pub of_type : Number → ℕ
of_type Forms = 1
of_type n = 0

abbrev pub of_let : Number → ℕ
of_let Lets = 1
of_let n = 0

abbrev pub of_bind : Number → ℕ
of_bind Nodes = 1
of_bind Lets = 1
of_bind n = 0

abbrev pub of_cast : Number → ℕ
of_cast Casts = 1
of_cast n = 0

-- what is no variable and no literal, as an argument of a constructor
abbrev pub plain_extra : Bool → ℕ
plain_extra true = 0
plain_extra false = 1

abbrev pub extra : Number → Bool → Bool → ℕ
extra Nodes atom trivial = field_extra trivial
extra Fields atom trivial = plain_extra atom
extra n atom trivial = 0

-- what is known of what stands around: for one number, how many of what counts stands there
abbrev pub Level : Number → Type 0
Level Around = ℕ
Level n = Unit {0}

abbrev pub outermost : (n : Number) → Level n
outermost Nodes = tt
outermost Forms = tt
outermost Fields = tt
outermost Lets = tt
outermost Around = 0
outermost Casts = tt

abbrev pub further : (n : Number) → Level n → Level n
further Nodes l = l
further Forms l = l
further Fields l = l
further Lets l = l
further Around l = suc l
further Casts l = l

abbrev pub around : (n : Number) → Level n → ℕ
around Nodes l = 0
around Forms l = 0
around Fields l = 0
around Lets l = 0
around Around l = l
around Casts l = 0

abbrev pub lambda : Number → NBinder → ℕ
lambda n (NBValue t) = own n 1
lambda n (NBType k) = of_type n
lambda n (NBCo r t u) = own n 1

-- EXPRESSIONS

module _ (n : Number) where
  abbrev mutual
    pub count : Level n → NExpr → ℕ
    count l (NLocal i) = own n 1
    count l (NVar x) = own n 1
    count l (NLit z) = own n 1
    count l (NApp f a) = applied (further n l) a + count (further n l) f
    count l (NLam b e) = lambda n b + count l e
    count l (NLet r bs e) = (of_let n + around n l) + (in_binds (further n l) bs + count l e)
    count l (NCase e t u alts) = of_case n + (count (further n l) e + in_alts (further n l) alts)
    count l (NCast e g) = of_cast n + count (further n l) e
    count l (NCon k args) = own n 1 + in_fields l args
    count l (NPrim op es) = own n 1 + in_exprs l es
    count l (NFail t) = own n 1
    count l (NJoin r t js e) = own n 1 + (in_joins l js + count l e)
    count l (NJump j args) = own n 1 + in_args l args

    pub applied : Level n → NArg → ℕ
    applied l (NATerm e) = own n 1 + count l e
    applied l (NAType t) = of_type n
    applied l (NACo g) = own n 2

    pub in_arg : Level n → NArg → ℕ
    in_arg l (NATerm e) = count l e
    in_arg l (NAType t) = 0
    in_arg l (NACo g) = own n 1

    pub in_field : Level n → NArg → ℕ
    in_field l (NATerm e) = count l e + extra n (is_atom e) (is_trivial e)
    in_field l (NAType t) = 0
    in_field l (NACo g) = own n 1

    pub in_bind : Level n → NBind → ℕ
    in_bind l (NBound t e) = of_bind n + count l e

    pub in_join : Level n → NJoinBind → ℕ
    in_join l (NJoined ps e) = own n (1 + counted_binders ps) + count l e

    pub in_alt : Level n → NAlt → ℕ
    in_alt l (NBranch h bs e) = own n (alternative_count h bs) + count l e

    pub in_exprs : Level n → NExprs → ℕ
    in_exprs l NoNExprs = 0
    in_exprs l (MoreNExprs e es) = count l e + in_exprs l es

    pub in_args : Level n → NArgs → ℕ
    in_args l NoNArgs = 0
    in_args l (MoreNArgs a rest) = in_arg l a + in_args l rest

    pub in_fields : Level n → NArgs → ℕ
    in_fields l NoNArgs = 0
    in_fields l (MoreNArgs a rest) = in_field l a + in_fields l rest

    pub in_binds : Level n → NBinds → ℕ
    in_binds l NoNBinds = 0
    in_binds l (MoreNBinds b bs) = in_bind l b + in_binds l bs

    pub in_joins : Level n → NJoins → ℕ
    in_joins l NoNJoins = 0
    in_joins l (MoreNJoins j js) = in_join l j + in_joins l js

    pub in_alts : Level n → NAlts → ℕ
    in_alts l NoNAlts = 0
    in_alts l (MoreNAlts a rest) = in_alt l a + in_alts l rest

  -- as an argument of a constructor
  abbrev pub as_field : Level n → NExpr → ℕ
  as_field l e = count l e + extra n (is_atom e) (is_trivial e)

  -- MODULES

  abbrev pub in_decl : NDecl → ℕ
  in_decl (NData x ps cs) = 0
  in_decl (NNew x ps t con) = 0
  in_decl (NFamily x ps k) = 0
  in_decl (NAxiom x ps t u) = 0
  in_decl (NDef x t e) = own n 1 + count (outermost n) e
  in_decl (NWrap x t e) = own n 1 + count (outermost n) e

  abbrev pub in_decls : List NDecl → ℕ
  in_decls [] = 0
  in_decls (d ∷ ds) = in_decl d + in_decls ds

  abbrev pub in_module : NModule → ℕ
  in_module (NModuleOf m imports exports hidden ds) = in_decls ds
