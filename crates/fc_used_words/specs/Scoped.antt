-- The nameless modules whose names all mean something: each distance reaches a binder, and each name is known.
use Rattle.std.specs.Prelude.{◌&&◌, ◌≡◌, ℕ, suc, ◌<◌, true, List, [], ◌∷◌, Option, Some, None, if◌then◌else◌}
use Rattle.std.specs.Str.{bytes_eq}
use Rattle.fc_syntax.specs.declared.ty.Name.{Name}
use Rattle.fc_syntax.specs.declared.expr.Head.{Head}
use Rattle.fc_syntax.specs.declared.expr.Head.TheVariants as head
use Rattle.fc_syntax.specs.Tree.{Word}
use Rattle.fc_model.specs.Nameless.{NTy, NTVar, NTCon, NTInt, NTApp, NTFun, NTForall, NTCoForall}
use Rattle.fc_model.specs.Nameless.{NCo, NGVar, NGRefl, NGSym, NGTrans, NGTc, NGCapp, NGFun, NGAll, NGCoAll, NGInst, NGNth, NGLeft, NGRight, NGSub, NGAx, NGUniv, NCos, NoNCos, MoreNCos}
use Rattle.fc_model.specs.Nameless.{NBinder, NBValue, NBType, NBCo, NArg, NATerm, NAType, NACo, NBind, NBound, NJoinBind, NJoined, NAlt, NBranch}
use Rattle.fc_model.specs.Nameless.{NExpr, NLocal, NVar, NLit, NApp, NLam, NLet, NCase, NCast, NCon, NPrim, NFail, NJoin, NJump}
use Rattle.fc_model.specs.Nameless.{NExprs, NoNExprs, MoreNExprs, NArgs, NoNArgs, MoreNArgs, NBinds, NoNBinds, MoreNBinds, NJoins, NoNJoins, MoreNJoins, NAlts, NoNAlts, MoreNAlts}
use Rattle.fc_model.specs.Nameless.{NConDecl, NConOf, NDecl, NData, NNew, NFamily, NAxiom, NDef, NWrap, NModule, NModuleOf}
use Rattle.fc_model.specs.Declaring.{ncoercion_words, nterm_words, ntype_words, nwords_by}
use Rattle.fc_model.specs.Resolution.{Top, WordSet, no_word, ntop_of}
use Rattle.fc_model.specs.ResolutionRules.{AreDistinct}

-- BINDERS AROUND A PIECE

-- how many binders of each space are around a piece
pub record Counts : Type 0 where
  pub types : ℕ
  pub values : ℕ
  pub joins : ℕ
  pub coercions : ℕ

abbrev pub nothing_around : Counts
nothing_around = record { types = 0; values = 0; joins = 0; coercions = 0 }

abbrev pub in_type : Counts → Counts
in_type k = record k { types = suc k.types }

abbrev pub in_value : Counts → Counts
in_value k = record k { values = suc k.values }

abbrev pub in_join : Counts → Counts
in_join k = record k { joins = suc k.joins }

abbrev pub in_coercion : Counts → Counts
in_coercion k = record k { coercions = suc k.coercions }

abbrev pub in_binder : NBinder → Counts → Counts
in_binder (NBValue t) k = in_value k
in_binder (NBType a) k = in_type k
in_binder (NBCo r t u) k = in_coercion k

abbrev pub in_binders : List NBinder → Counts → Counts
in_binders [] k = k
in_binders (b ∷ bs) k = in_binders bs (in_binder b k)

abbrev pub in_group : NBinds → Counts → Counts
in_group NoNBinds k = k
in_group (MoreNBinds b bs) k = in_group bs (in_value k)

abbrev pub in_joins : NJoins → Counts → Counts
in_joins NoNJoins k = k
in_joins (MoreNJoins j js) k = in_joins js (in_join k)

abbrev pub in_parameters : {X : Type 0} → List X → Counts → Counts
in_parameters [] k = k
in_parameters (p ∷ ps) k = in_parameters ps (in_type k)

-- WHAT HOLDS OF THE NAMES OF A TREE

-- what is said of each name: of a distance, below so many binders of its space, and of a name of a declaration
pub record Saying : Type 1 where
  pub type_at : ℕ → ℕ → Type 0
  pub value_at : ℕ → ℕ → Type 0
  pub join_at : ℕ → ℕ → Type 0
  pub coercion_at : ℕ → ℕ → Type 0
  pub type_name : Name → Type 0
  pub axiom_name : Name → Type 0
  pub constructor : Name → Type 0
  pub definition : Name → Type 0

-- it holds of each name in a type
abbrev pub HoldsTy : Saying → Counts → NTy → Type 0
HoldsTy P k (NTVar i) = P.type_at k.types i
HoldsTy P k (NTCon n) = P.type_name n
HoldsTy P k NTInt = Unit {0}
HoldsTy P k (NTApp t u) = HoldsTy P k t × HoldsTy P k u
HoldsTy P k (NTFun t u) = HoldsTy P k t × HoldsTy P k u
HoldsTy P k (NTForall a t) = HoldsTy P (in_type k) t
HoldsTy P k (NTCoForall r t u v) = HoldsTy P k t × HoldsTy P k u × HoldsTy P k v

abbrev pub HoldsTys : Saying → Counts → List NTy → Type 0
HoldsTys P k [] = Unit {0}
HoldsTys P k (t ∷ ts) = HoldsTy P k t × HoldsTys P k ts

abbrev mutual
  pub HoldsCo : Saying → Counts → NCo → Type 0
  HoldsCo P k (NGVar i) = P.coercion_at k.coercions i
  HoldsCo P k (NGRefl r t) = HoldsTy P k t
  HoldsCo P k (NGSym g) = HoldsCo P k g
  HoldsCo P k (NGTrans g h) = HoldsCo P k g × HoldsCo P k h
  HoldsCo P k (NGTc r n gs) = P.type_name n × HoldsCos P k gs
  HoldsCo P k (NGCapp g h) = HoldsCo P k g × HoldsCo P k h
  HoldsCo P k (NGFun g h) = HoldsCo P k g × HoldsCo P k h
  HoldsCo P k (NGAll a g) = HoldsCo P (in_type k) g
  HoldsCo P k (NGCoAll r s f g h) = HoldsCo P k f × HoldsCo P k g × HoldsCo P k h
  HoldsCo P k (NGInst g h) = HoldsCo P k g × HoldsCo P k h
  HoldsCo P k (NGNth n g) = HoldsCo P k g
  HoldsCo P k (NGLeft g) = HoldsCo P k g
  HoldsCo P k (NGRight g) = HoldsCo P k g
  HoldsCo P k (NGSub g) = HoldsCo P k g
  HoldsCo P k (NGAx n gs) = P.axiom_name n × HoldsCos P k gs
  HoldsCo P k (NGUniv t u) = HoldsTy P k t × HoldsTy P k u

  pub HoldsCos : Saying → Counts → NCos → Type 0
  HoldsCos P k NoNCos = Unit {0}
  HoldsCos P k (MoreNCos g gs) = HoldsCo P k g × HoldsCos P k gs

abbrev pub HoldsBinder : Saying → Counts → NBinder → Type 0
HoldsBinder P k (NBValue t) = HoldsTy P k t
HoldsBinder P k (NBType a) = Unit {0}
HoldsBinder P k (NBCo r t u) = HoldsTy P k t × HoldsTy P k u

-- in binders, each below those before it
abbrev pub HoldsBinders : Saying → Counts → List NBinder → Type 0
HoldsBinders P k [] = Unit {0}
HoldsBinders P k (b ∷ bs) = HoldsBinder P k b × HoldsBinders P (in_binder b k) bs

abbrev pub HoldsHead : Saying → Head → Type 0
HoldsHead P head.Default = Unit {0}
HoldsHead P (head.Lit n) = Unit {0}
HoldsHead P (head.Con n) = P.constructor n

abbrev mutual
  -- in an expression; the right sides of a group that is recursive are inside of it
  pub HoldsExpr : Saying → Counts → NExpr → Type 0
  HoldsExpr P k (NLocal i) = P.value_at k.values i
  HoldsExpr P k (NVar n) = P.definition n
  HoldsExpr P k (NLit n) = Unit {0}
  HoldsExpr P k (NApp f a) = HoldsExpr P k f × HoldsArg P k a
  HoldsExpr P k (NLam b e) = HoldsBinder P k b × HoldsExpr P (in_binder b k) e
  HoldsExpr P k (NLet r bs e) = HoldsBinds P (if r then in_group bs k else k) bs × HoldsExpr P (in_group bs k) e
  HoldsExpr P k (NCase e t u alts) = HoldsExpr P k e × HoldsTy P k t × HoldsTy P k u × HoldsAlts P (in_value k) alts
  HoldsExpr P k (NCast e g) = HoldsExpr P k e × HoldsCo P k g
  HoldsExpr P k (NCon n args) = P.constructor n × HoldsArgs P k args
  HoldsExpr P k (NPrim op es) = HoldsExprs P k es
  HoldsExpr P k (NFail t) = HoldsTy P k t
  HoldsExpr P k (NJoin r t js e) = HoldsTy P k t × HoldsJoins P (if r then in_joins js k else k) js × HoldsExpr P (in_joins js k) e
  HoldsExpr P k (NJump i args) = P.join_at k.joins i × HoldsArgs P k args

  pub HoldsArg : Saying → Counts → NArg → Type 0
  HoldsArg P k (NATerm e) = HoldsExpr P k e
  HoldsArg P k (NAType t) = HoldsTy P k t
  HoldsArg P k (NACo g) = HoldsCo P k g

  pub HoldsArgs : Saying → Counts → NArgs → Type 0
  HoldsArgs P k NoNArgs = Unit {0}
  HoldsArgs P k (MoreNArgs a rest) = HoldsArg P k a × HoldsArgs P k rest

  pub HoldsExprs : Saying → Counts → NExprs → Type 0
  HoldsExprs P k NoNExprs = Unit {0}
  HoldsExprs P k (MoreNExprs e rest) = HoldsExpr P k e × HoldsExprs P k rest

  pub HoldsBind : Saying → Counts → NBind → Type 0
  HoldsBind P k (NBound t e) = HoldsTy P k t × HoldsExpr P k e

  pub HoldsBinds : Saying → Counts → NBinds → Type 0
  HoldsBinds P k NoNBinds = Unit {0}
  HoldsBinds P k (MoreNBinds b rest) = HoldsBind P k b × HoldsBinds P k rest

  pub HoldsJoin : Saying → Counts → NJoinBind → Type 0
  HoldsJoin P k (NJoined bs e) = HoldsBinders P k bs × HoldsExpr P (in_binders bs k) e

  pub HoldsJoins : Saying → Counts → NJoins → Type 0
  HoldsJoins P k NoNJoins = Unit {0}
  HoldsJoins P k (MoreNJoins j rest) = HoldsJoin P k j × HoldsJoins P k rest

  pub HoldsAlt : Saying → Counts → NAlt → Type 0
  HoldsAlt P k (NBranch h bs e) = HoldsHead P h × HoldsBinders P k bs × HoldsExpr P (in_binders bs k) e

  pub HoldsAlts : Saying → Counts → NAlts → Type 0
  HoldsAlts P k NoNAlts = Unit {0}
  HoldsAlts P k (MoreNAlts a rest) = HoldsAlt P k a × HoldsAlts P k rest

abbrev pub HoldsCon : Saying → Counts → NConDecl → Type 0
HoldsCon P k (NConOf n bs ts) = HoldsBinders P k bs × HoldsTys P (in_binders bs k) ts

abbrev pub HoldsCons : Saying → Counts → List NConDecl → Type 0
HoldsCons P k [] = Unit {0}
HoldsCons P k (c ∷ cs) = HoldsCon P k c × HoldsCons P k cs

abbrev pub HoldsDecl : Saying → NDecl → Type 0
HoldsDecl P (NData n ps cs) = HoldsCons P (in_parameters ps nothing_around) cs
HoldsDecl P (NNew n ps t con) = HoldsTy P (in_parameters ps nothing_around) t
HoldsDecl P (NFamily n ps a) = Unit {0}
HoldsDecl P (NAxiom n ps t u) = HoldsTy P (in_parameters ps nothing_around) t × HoldsTy P (in_parameters ps nothing_around) u
HoldsDecl P (NDef n t e) = HoldsTy P nothing_around t × HoldsExpr P nothing_around e
HoldsDecl P (NWrap n t e) = HoldsTy P nothing_around t × HoldsExpr P nothing_around e

abbrev pub HoldsDecls : Saying → List NDecl → Type 0
HoldsDecls P [] = Unit {0}
HoldsDecls P (d ∷ ds) = HoldsDecl P d × HoldsDecls P ds

-- NAMES THAT MEAN SOMETHING

-- a name is known: its module is this one, which declares its word among these, or one that is imported and has the word for others
abbrev pub IsKnownIn : Top → WordSet → (Word → WordSet) → Option Word → Word → Type 0
IsKnownIn top words offered None w = ⊥
IsKnownIn top words offered (Some m) w = (if bytes_eq m top.own then words w else top.imports m && offered m w) ≡ true

abbrev pub IsKnown : Top → WordSet → (Word → WordSet) → Name → Type 0
IsKnown top words offered n = IsKnownIn top words offered n.module n.text

-- a distance is below the number of binders of its space, and a name is known in its space
abbrev pub is_meant : Top → Saying
is_meant top = record {
  type_at = λ many i. i < many;
  value_at = λ many i. i < many;
  join_at = λ many i. i < many;
  coercion_at = λ many i. i < many;
  type_name = IsKnown top top.types top.offers.types;
  axiom_name = IsKnown top top.coercions top.offers.coercions;
  constructor = IsKnown top top.terms top.offers.terms;
  definition = IsKnown top top.terms top.offers.terms;
}

-- words are declared once in each space, and every name means something
abbrev pub IsScoped : NModule → Type 0
IsScoped (NModuleOf m imports exports hidden ds) =
    AreDistinct no_word (nwords_by ntype_words ds) × AreDistinct no_word (nwords_by nterm_words ds) × AreDistinct no_word (nwords_by ncoercion_words ds)
    × HoldsDecls (is_meant (ntop_of (NModuleOf m imports exports hidden ds))) ds
