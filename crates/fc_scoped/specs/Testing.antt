-- Whether a nameless module is scoped, as a test.
use Rattle.std.specs.Prelude.{◌&&◌, ◌≡◌, nat_lt, Bool, true, false, not, List, [], ◌∷◌, Option, Some, None, if◌then◌else◌}
use Rattle.std.specs.Str.{bytes_eq}
use Rattle.fc_syntax.specs.declared.ty.Name.{Name}
use Rattle.fc_syntax.specs.declared.expr.Head.{Head}
use Rattle.fc_syntax.specs.declared.expr.Head.TheVariants as head
use Rattle.fc_syntax.specs.Tree.{Word}
use Rattle.fc_model.specs.Declaring.{ncoercion_words, nterm_words, ntype_words, nwords_by}
use Rattle.fc_model.specs.Nameless.{NTy, NTVar, NTCon, NTInt, NTApp, NTFun, NTForall, NTCoForall}
use Rattle.fc_model.specs.Nameless.{NCo, NGVar, NGRefl, NGSym, NGTrans, NGTc, NGCapp, NGFun, NGAll, NGCoAll, NGInst, NGNth, NGLeft, NGRight, NGSub, NGAx, NGUniv, NCos, NoNCos, MoreNCos}
use Rattle.fc_model.specs.Nameless.{NBinder, NBValue, NBType, NBCo, NArg, NATerm, NAType, NACo, NBind, NBound, NJoinBind, NJoined, NAlt, NBranch}
use Rattle.fc_model.specs.Nameless.{NExpr, NLocal, NVar, NLit, NApp, NLam, NLet, NCase, NCast, NCon, NPrim, NFail, NJoin, NJump}
use Rattle.fc_model.specs.Nameless.{NExprs, NoNExprs, MoreNExprs, NArgs, NoNArgs, MoreNArgs, NBinds, NoNBinds, MoreNBinds, NJoins, NoNJoins, MoreNJoins, NAlts, NoNAlts, MoreNAlts}
use Rattle.fc_model.specs.Nameless.{NConDecl, NConOf, NDecl, NData, NNew, NFamily, NAxiom, NDef, NWrap, NModule, NModuleOf}
use Rattle.fc_model.specs.Resolution.{Top, WordSet, Words, no_words, ntop_of, plus}
use Rattle.fc_used_words.specs.Scoped.{Counts, IsScoped, in_binder, in_binders, in_group, in_joins, in_parameters, in_type, in_value, nothing_around}

-- NAMES

-- a name is of this module, which has its word among these, or of one that is imported
abbrev pub word_scoped : Top → WordSet → Option Word → Word → Bool
word_scoped top words None w = false
word_scoped top words (Some m) w = if bytes_eq m top.own then words w else top.imports m

abbrev pub name_scoped : Top → WordSet → Name → Bool
name_scoped top words n = word_scoped top words n.module n.text

-- TYPES

abbrev pub ty_scoped : Top → Counts → NTy → Bool
ty_scoped top k (NTVar i) = nat_lt i k.types
ty_scoped top k (NTCon n) = name_scoped top top.types n
ty_scoped top k NTInt = true
ty_scoped top k (NTApp t u) = ty_scoped top k t && ty_scoped top k u
ty_scoped top k (NTFun t u) = ty_scoped top k t && ty_scoped top k u
ty_scoped top k (NTForall a t) = ty_scoped top (in_type k) t
ty_scoped top k (NTCoForall r t u v) = ty_scoped top k t && (ty_scoped top k u && ty_scoped top k v)

abbrev pub tys_scoped : Top → Counts → List NTy → Bool
tys_scoped top k [] = true
tys_scoped top k (t ∷ ts) = ty_scoped top k t && tys_scoped top k ts

-- COERCIONS

abbrev mutual
  pub co_scoped : Top → Counts → NCo → Bool
  co_scoped top k (NGVar i) = nat_lt i k.coercions
  co_scoped top k (NGRefl r t) = ty_scoped top k t
  co_scoped top k (NGSym g) = co_scoped top k g
  co_scoped top k (NGTrans g h) = co_scoped top k g && co_scoped top k h
  co_scoped top k (NGTc r n gs) = name_scoped top top.types n && cos_scoped top k gs
  co_scoped top k (NGCapp g h) = co_scoped top k g && co_scoped top k h
  co_scoped top k (NGFun g h) = co_scoped top k g && co_scoped top k h
  co_scoped top k (NGAll a g) = co_scoped top (in_type k) g
  co_scoped top k (NGCoAll r s f g h) = co_scoped top k f && (co_scoped top k g && co_scoped top k h)
  co_scoped top k (NGInst g h) = co_scoped top k g && co_scoped top k h
  co_scoped top k (NGNth n g) = co_scoped top k g
  co_scoped top k (NGLeft g) = co_scoped top k g
  co_scoped top k (NGRight g) = co_scoped top k g
  co_scoped top k (NGSub g) = co_scoped top k g
  co_scoped top k (NGAx n gs) = name_scoped top top.coercions n && cos_scoped top k gs
  co_scoped top k (NGUniv t u) = ty_scoped top k t && ty_scoped top k u

  pub cos_scoped : Top → Counts → NCos → Bool
  cos_scoped top k NoNCos = true
  cos_scoped top k (MoreNCos g gs) = co_scoped top k g && cos_scoped top k gs

-- BINDERS

abbrev pub binder_scoped : Top → Counts → NBinder → Bool
binder_scoped top k (NBValue t) = ty_scoped top k t
binder_scoped top k (NBType a) = true
binder_scoped top k (NBCo r t u) = ty_scoped top k t && ty_scoped top k u

-- each below those before it
abbrev pub binders_scoped : Top → Counts → List NBinder → Bool
binders_scoped top k [] = true
binders_scoped top k (b ∷ bs) = binder_scoped top k b && binders_scoped top (in_binder b k) bs

-- EXPRESSIONS

abbrev pub head_scoped : Top → Head → Bool
head_scoped top head.Default = true
head_scoped top (head.Lit n) = true
head_scoped top (head.Con n) = name_scoped top top.terms n

abbrev mutual
  pub expr_scoped : Top → Counts → NExpr → Bool
  expr_scoped top k (NLocal i) = nat_lt i k.values
  expr_scoped top k (NVar n) = name_scoped top top.terms n
  expr_scoped top k (NLit n) = true
  expr_scoped top k (NApp f a) = expr_scoped top k f && arg_scoped top k a
  expr_scoped top k (NLam b e) = binder_scoped top k b && expr_scoped top (in_binder b k) e
  expr_scoped top k (NLet r bs e) = binds_scoped top (if r then in_group bs k else k) bs && expr_scoped top (in_group bs k) e
  expr_scoped top k (NCase e t u alts) = expr_scoped top k e && (ty_scoped top k t && (ty_scoped top k u && alts_scoped top (in_value k) alts))
  expr_scoped top k (NCast e g) = expr_scoped top k e && co_scoped top k g
  expr_scoped top k (NCon n args) = name_scoped top top.terms n && args_scoped top k args
  expr_scoped top k (NPrim op es) = exprs_scoped top k es
  expr_scoped top k (NFail t) = ty_scoped top k t
  expr_scoped top k (NJoin r t js e) = ty_scoped top k t && (joins_scoped top (if r then in_joins js k else k) js && expr_scoped top (in_joins js k) e)
  expr_scoped top k (NJump i args) = nat_lt i k.joins && args_scoped top k args

  pub arg_scoped : Top → Counts → NArg → Bool
  arg_scoped top k (NATerm e) = expr_scoped top k e
  arg_scoped top k (NAType t) = ty_scoped top k t
  arg_scoped top k (NACo g) = co_scoped top k g

  pub args_scoped : Top → Counts → NArgs → Bool
  args_scoped top k NoNArgs = true
  args_scoped top k (MoreNArgs a rest) = arg_scoped top k a && args_scoped top k rest

  pub exprs_scoped : Top → Counts → NExprs → Bool
  exprs_scoped top k NoNExprs = true
  exprs_scoped top k (MoreNExprs e rest) = expr_scoped top k e && exprs_scoped top k rest

  pub bind_scoped : Top → Counts → NBind → Bool
  bind_scoped top k (NBound t e) = ty_scoped top k t && expr_scoped top k e

  pub binds_scoped : Top → Counts → NBinds → Bool
  binds_scoped top k NoNBinds = true
  binds_scoped top k (MoreNBinds b rest) = bind_scoped top k b && binds_scoped top k rest

  pub join_scoped : Top → Counts → NJoinBind → Bool
  join_scoped top k (NJoined bs e) = binders_scoped top k bs && expr_scoped top (in_binders bs k) e

  pub joins_scoped : Top → Counts → NJoins → Bool
  joins_scoped top k NoNJoins = true
  joins_scoped top k (MoreNJoins j rest) = join_scoped top k j && joins_scoped top k rest

  pub alt_scoped : Top → Counts → NAlt → Bool
  alt_scoped top k (NBranch h bs e) = head_scoped top h && (binders_scoped top k bs && expr_scoped top (in_binders bs k) e)

  pub alts_scoped : Top → Counts → NAlts → Bool
  alts_scoped top k NoNAlts = true
  alts_scoped top k (MoreNAlts a rest) = alt_scoped top k a && alts_scoped top k rest

-- DECLARATIONS

abbrev pub con_scoped : Top → Counts → NConDecl → Bool
con_scoped top k (NConOf n bs ts) = binders_scoped top k bs && tys_scoped top (in_binders bs k) ts

abbrev pub cons_scoped : Top → Counts → List NConDecl → Bool
cons_scoped top k [] = true
cons_scoped top k (c ∷ cs) = con_scoped top k c && cons_scoped top k cs

abbrev pub decl_scoped : Top → NDecl → Bool
decl_scoped top (NData n ps cs) = cons_scoped top (in_parameters ps nothing_around) cs
decl_scoped top (NNew n ps t con) = ty_scoped top (in_parameters ps nothing_around) t
decl_scoped top (NFamily n ps a) = true
decl_scoped top (NAxiom n ps t u) = ty_scoped top (in_parameters ps nothing_around) t && ty_scoped top (in_parameters ps nothing_around) u
decl_scoped top (NDef n t e) = ty_scoped top nothing_around t && expr_scoped top nothing_around e
decl_scoped top (NWrap n t e) = ty_scoped top nothing_around t && expr_scoped top nothing_around e

abbrev pub decls_scoped : Top → List NDecl → Bool
decls_scoped top [] = true
decls_scoped top (d ∷ ds) = decl_scoped top d && decls_scoped top ds

-- WORDS

-- each is new behind those before it, and not one of the earlier ones
abbrev pub are_distinct : WordSet → List Word → Bool
are_distinct earlier [] = true
are_distinct earlier (w ∷ ws) = not (earlier w) && are_distinct (plus w earlier) ws

-- the words of declarations, in each space, behind those of others
abbrev pub declare_distinct : Words → List NDecl → Bool
declare_distinct earlier ds =
    are_distinct earlier.types (nwords_by ntype_words ds) && (are_distinct earlier.terms (nwords_by nterm_words ds) && are_distinct earlier.coercions (nwords_by ncoercion_words ds))

-- MODULES

-- words are declared once in each space, and every name means something
abbrev pub scoped : NModule → Bool
scoped (NModuleOf m imports exports hidden ds) = declare_distinct no_words ds && decls_scoped (ntop_of (NModuleOf m imports exports hidden ds)) ds

-- the test tells what is scoped
abbrev pub ScopedIsTested : Type 0
ScopedIsTested = (n : NModule) → (IsScoped n → scoped n ≡ true) × (scoped n ≡ true → IsScoped n)
