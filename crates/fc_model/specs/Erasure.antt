-- Erasure: what is left of an expression when its types are gone. Casts, type lambdas and applications to types vanish. Lambdas
-- over coercions take an unlifted argument, and a coercion as an argument is the literal 0. A join point becomes a let, or a
-- recursive group, with a lifted binder; its parameters become lambdas, and a jump becomes applications. A primitive has two operands.
use Rattle.std.specs.Prelude.{ℕ, zero, suc, pos, true, false, List, [], ◌∷◌, if◌then◌else◌}
use Rattle.fc_syntax.specs.declared.expr.Head.{Head}
use Rattle.fc_syntax.specs.declared.expr.Head.TheVariants as head
use Rattle.fc_model.specs.Calling.{is_unlifted}
use Rattle.fc_model.specs.Nameless.{NTy, NBinder, NBValue, NBType, NBCo}
use Rattle.fc_model.specs.Nameless.{NExpr, NLocal, NVar, NLit, NApp, NLam, NLet, NCase, NCast, NCon, NPrim, NFail, NJoin, NJump}
use Rattle.fc_model.specs.Nameless.{NATerm, NAType, NACo, NBound, NJoined, NBranch}
use Rattle.fc_model.specs.Nameless.{NoNExprs, MoreNExprs, NArgs, NoNArgs, MoreNArgs, NBinds, NoNBinds, MoreNBinds, NJoins, NoNJoins, MoreNJoins, NAlts, NoNAlts, MoreNAlts}
use Rattle.fc_model.specs.Terms as term
use Rattle.fc_model.specs.Terms.{Sort, Lifted, Unlifted, Term, Lit, Var, Global, Fail, App, Lam, Let, Rec, Case, Con, Prim, Terms, Nil, Cons, Alts, NoAlt, Alt, upr}

-- SORTS

-- a value's binder has the sort of its type
abbrev pub sort_of_type : NTy → Sort
sort_of_type t = if is_unlifted t then Unlifted else Lifted

-- SCOPES

-- Where the binder of each variable and of each join point stands among all binders of the term, and the sort of each variable.
pub record Scope : Type 0 where
  pub values : ℕ → ℕ
  pub sorts : ℕ → Sort
  pub joins : ℕ → ℕ

-- a closed expression has none
abbrev pub no_scope : Scope
no_scope = record { values = λ n. n; sorts = λ n. Lifted; joins = λ n. n }

abbrev pub later : (ℕ → ℕ) → ℕ → ℕ
later v n = suc (v n)

abbrev pub with_sort : Sort → (ℕ → Sort) → ℕ → Sort
with_sort s ss zero = s
with_sort s ss (suc n) = ss n

-- below the binder of a value
abbrev pub below_value : Sort → Scope → Scope
below_value s c = record { values = upr c.values; sorts = with_sort s c.sorts; joins = later c.joins }

-- below a binder that no variable and no jump names, as that of a coercion
abbrev pub below_unnamed : Scope → Scope
below_unnamed c = record { values = later c.values; sorts = c.sorts; joins = later c.joins }

abbrev pub below_join : Scope → Scope
below_join c = record { values = later c.values; sorts = c.sorts; joins = upr c.joins }

abbrev pub below : NBinder → Scope → Scope
below (NBValue t) c = below_value (sort_of_type t) c
below (NBType k) c = c
below (NBCo r t u) c = below_unnamed c

abbrev pub below_all : List NBinder → Scope → Scope
below_all [] c = c
below_all (b ∷ bs) c = below_all bs (below b c)

abbrev pub below_binds : NBinds → Scope → Scope
below_binds NoNBinds c = c
below_binds (MoreNBinds (NBound t e) rest) c = below_binds rest (below_value (sort_of_type t) c)

abbrev pub below_joins : NJoins → Scope → Scope
below_joins NoNJoins c = c
below_joins (MoreNJoins j rest) c = below_joins rest (below_join c)

-- BINDERS AND ARGUMENTS

-- the sorts of the binders that are left
abbrev pub binder_sorts : List NBinder → List Sort
binder_sorts [] = []
binder_sorts (NBValue t ∷ bs) = sort_of_type t ∷ binder_sorts bs
binder_sorts (NBType k ∷ bs) = binder_sorts bs
binder_sorts (NBCo r t u ∷ bs) = Unlifted ∷ binder_sorts bs

-- lambdas over binders of these sorts
abbrev pub lambdas : List Sort → Term → Term
lambdas [] t = t
lambdas (s ∷ ss) t = Lam s (lambdas ss t)

abbrev pub erased_head : Head → List NBinder → term.Head
erased_head head.Default bs = term.Default
erased_head (head.Lit n) bs = term.OfLit n
erased_head (head.Con n) bs = term.OfCon n (binder_sorts bs)

-- the sort of a place is read off the atom that stands there: a literal, and a variable with an unlifted binder, are unlifted
abbrev pub sort_of : Scope → NExpr → Sort
sort_of c (NLocal i) = c.sorts i
sort_of c (NVar n) = Lifted
sort_of c (NLit n) = Unlifted
sort_of c (NApp f a) = Lifted
sort_of c (NLam b e) = Lifted
sort_of c (NLet r bs e) = Lifted
sort_of c (NCase e xt rt alts) = Lifted
sort_of c (NCast e g) = Lifted
sort_of c (NCon n args) = Lifted
sort_of c (NPrim op es) = Lifted
sort_of c (NFail t) = Lifted
sort_of c (NJoin r t js e) = Lifted
sort_of c (NJump i args) = Lifted

-- the sorts of the arguments that are left
abbrev pub arg_sorts : Scope → NArgs → List Sort
arg_sorts c NoNArgs = []
arg_sorts c (MoreNArgs (NATerm e) rest) = sort_of c e ∷ arg_sorts c rest
arg_sorts c (MoreNArgs (NAType t) rest) = arg_sorts c rest
arg_sorts c (MoreNArgs (NACo g) rest) = Unlifted ∷ arg_sorts c rest

-- a coercion as an argument
abbrev pub coercion_token : Term
coercion_token = Lit (pos 0)

-- EXPRESSIONS

abbrev mutual
  pub erased : Scope → NExpr → Term
  erased c (NLocal i) = Var (c.values i)
  erased c (NVar n) = Global n
  erased c (NLit n) = Lit n
  erased c (NApp f (NATerm a)) = App (sort_of c a) (erased c f) (erased c a)
  erased c (NApp f (NAType t)) = erased c f
  erased c (NApp f (NACo g)) = App Unlifted (erased c f) coercion_token
  erased c (NLam (NBValue t) e) = Lam (sort_of_type t) (erased (below_value (sort_of_type t) c) e)
  erased c (NLam (NBType k) e) = erased c e
  erased c (NLam (NBCo r t u) e) = Lam Unlifted (erased (below_unnamed c) e)
  erased c (NLet true bs e) = Rec (erased_rights (below_binds bs c) bs) (erased (below_binds bs c) e)
  erased c (NLet false bs e) = erased_lets c bs (erased (below_binds bs c) e)
  erased c (NCase e xt rt alts) = Case (sort_of_type xt) (erased c e) (erased_alts (below_value (sort_of_type xt) c) alts)
  erased c (NCast e g) = erased c e
  erased c (NCon n args) = Con n (arg_sorts c args) (erased_args c args)
  erased c (NPrim op (MoreNExprs a (MoreNExprs b NoNExprs))) = Prim op (erased c a) (erased c b)
  erased c (NPrim op es) = Fail
  erased c (NFail t) = Fail
  erased c (NJoin true t js e) = Rec (erased_joins (below_joins js c) js) (erased (below_joins js c) e)
  erased c (NJoin false t js e) = erased_join_lets c js (erased (below_joins js c) e)
  erased c (NJump i args) = applied c (Var (c.joins i)) args

  -- terms and coercions of a constructor
  pub erased_args : Scope → NArgs → Terms
  erased_args c NoNArgs = Nil
  erased_args c (MoreNArgs (NATerm e) rest) = Cons (erased c e) (erased_args c rest)
  erased_args c (MoreNArgs (NAType t) rest) = erased_args c rest
  erased_args c (MoreNArgs (NACo g) rest) = Cons coercion_token (erased_args c rest)

  -- a head applied to arguments
  pub applied : Scope → Term → NArgs → Term
  applied c t NoNArgs = t
  applied c t (MoreNArgs (NATerm e) rest) = applied c (App (sort_of c e) t (erased c e)) rest
  applied c t (MoreNArgs (NAType u) rest) = applied c t rest
  applied c t (MoreNArgs (NACo g) rest) = applied c (App Unlifted t coercion_token) rest

  -- lets, one inside another, around a body; the right sides stand outside of all
  pub erased_lets : Scope → NBinds → Term → Term
  erased_lets c NoNBinds body = body
  erased_lets c (MoreNBinds (NBound t d) rest) body = Let (sort_of_type t) (erased c d) (erased_lets (below_unnamed c) rest body)

  pub erased_rights : Scope → NBinds → Terms
  erased_rights c NoNBinds = Nil
  erased_rights c (MoreNBinds (NBound t d) rest) = Cons (erased c d) (erased_rights c rest)

  -- the same of join points
  pub erased_join_lets : Scope → NJoins → Term → Term
  erased_join_lets c NoNJoins body = body
  erased_join_lets c (MoreNJoins (NJoined ps d) rest) body =
      Let Lifted (lambdas (binder_sorts ps) (erased (below_all ps c) d)) (erased_join_lets (below_unnamed c) rest body)

  pub erased_joins : Scope → NJoins → Terms
  erased_joins c NoNJoins = Nil
  erased_joins c (MoreNJoins (NJoined ps d) rest) = Cons (lambdas (binder_sorts ps) (erased (below_all ps c) d)) (erased_joins c rest)

  pub erased_alts : Scope → NAlts → Alts
  erased_alts c NoNAlts = NoAlt
  erased_alts c (MoreNAlts (NBranch h bs e) rest) = Alt (erased_head h bs) (erased (below_all bs c) e) (erased_alts c rest)
