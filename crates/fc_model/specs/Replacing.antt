-- Expressions in place of the variables of an expression, with types in place of its type variables, coercions in place of its coercion
-- variables and join points in place of its join points, all at once. What is put in below binders keeps its own variables: it goes past
-- the binders, so that none is captured.
use Rattle.std.specs.Prelude.{ℕ, zero, suc, if◌then◌else◌, List, [], ◌∷◌}
use Rattle.fc_model.specs.Nameless.{NTy, NTVar, NCo, NGVar, NGRefl, NGSym, NGTrans, NGTc, NGCapp, NGFun, NGAll, NGCoAll, NGInst, NGNth, NGLeft, NGRight, NGSub, NGAx}
use Rattle.fc_model.specs.Nameless.{NGUniv, NCos, NoNCos, MoreNCos}
use Rattle.fc_model.specs.Nameless.{NBinder, NBValue, NBType, NBCo, NArg, NATerm, NAType, NACo, NBind, NBound, NJoinBind, NJoined, NAlt, NBranch}
use Rattle.fc_model.specs.Nameless.{NExpr, NLocal, NVar, NLit, NApp, NLam, NLet, NCase, NCast, NCon, NPrim, NFail, NJoin, NJump}
use Rattle.fc_model.specs.Nameless.{NArgs, NoNArgs, MoreNArgs, NExprs, NoNExprs, MoreNExprs, NBinds, NoNBinds, MoreNBinds, NJoins, NoNJoins, MoreNJoins, NAlts, NoNAlts, MoreNAlts}
use Rattle.fc_model.specs.Substituting.{renaming_below, substituted_type, type_before, type_for_innermost, types_below}

-- so many times, one after the other
abbrev pub times : {X : Type 0} → ℕ → (X → X) → X → X
times zero f x = x
times (suc m) f x = times m f (f x)

-- how many binds, and how many join points
abbrev pub bind_count : NBinds → ℕ
bind_count NoNBinds = 0
bind_count (MoreNBinds b rest) = suc (bind_count rest)

abbrev pub join_count : NJoins → ℕ
join_count NoNJoins = 0
join_count (MoreNJoins j rest) = suc (join_count rest)

-- COERCIONS

-- What stands in place of a coercion variable, seen as a coercion; the innermost variable itself; and what stands in place of a variable
-- past a binder of a type and of a coercion.
pub record StandingCoercion (W : Type 0) : Type 0 where
  pub coercion : W → NCo
  pub innermost : W
  pub past_type : W → W
  pub past_coercion : W → W

-- types in place of the type variables of a coercion, and others in place of its coercion variables
module _ {W : Type 0} (how : StandingCoercion W) where
  abbrev mutual
    pub put_in_coercion : (ℕ → NTy) → (ℕ → W) → NCo → NCo
    put_in_coercion s r (NGVar i) = how.coercion (r i)
    put_in_coercion s r (NGRefl o t) = NGRefl o (substituted_type s t)
    put_in_coercion s r (NGSym g) = NGSym (put_in_coercion s r g)
    put_in_coercion s r (NGTrans g h) = NGTrans (put_in_coercion s r g) (put_in_coercion s r h)
    put_in_coercion s r (NGTc o n gs) = NGTc o n (put_in_coercions s r gs)
    put_in_coercion s r (NGCapp g h) = NGCapp (put_in_coercion s r g) (put_in_coercion s r h)
    put_in_coercion s r (NGFun g h) = NGFun (put_in_coercion s r g) (put_in_coercion s r h)
    put_in_coercion s r (NGAll k g) = NGAll k (put_in_coercion (types_below s) (λ i. how.past_type (r i)) g)
    put_in_coercion s r (NGCoAll o q f g h) = NGCoAll o q (put_in_coercion s r f) (put_in_coercion s r g) (put_in_coercion s r h)
    put_in_coercion s r (NGInst g h) = NGInst (put_in_coercion s r g) (put_in_coercion s r h)
    put_in_coercion s r (NGNth n g) = NGNth n (put_in_coercion s r g)
    put_in_coercion s r (NGLeft g) = NGLeft (put_in_coercion s r g)
    put_in_coercion s r (NGRight g) = NGRight (put_in_coercion s r g)
    put_in_coercion s r (NGSub g) = NGSub (put_in_coercion s r g)
    put_in_coercion s r (NGAx n gs) = NGAx n (put_in_coercions s r gs)
    put_in_coercion s r (NGUniv t u) = NGUniv (substituted_type s t) (substituted_type s u)

    pub put_in_coercions : (ℕ → NTy) → (ℕ → W) → NCos → NCos
    put_in_coercions s r NoNCos = NoNCos
    put_in_coercions s r (MoreNCos g rest) = MoreNCos (put_in_coercion s r g) (put_in_coercions s r rest)

  abbrev pub coercions_below : (ℕ → W) → ℕ → W
  coercions_below r zero = how.innermost
  coercions_below r (suc i) = how.past_coercion (r i)

  abbrev pub coercions_behind : NBinder → (ℕ → W) → ℕ → W
  coercions_behind (NBValue t) r = r
  coercions_behind (NBType k) r = λ i. how.past_type (r i)
  coercions_behind (NBCo o t u) r = coercions_below r

  abbrev pub coercions_behind_all : List NBinder → (ℕ → W) → ℕ → W
  coercions_behind_all [] r = r
  coercions_behind_all (b ∷ bs) r = coercions_behind_all bs (coercions_behind b r)

-- variables in place of coercion variables
abbrev pub coercion_variables : StandingCoercion ℕ
coercion_variables = record { coercion = λ i. NGVar i; innermost = 0; past_type = λ i. i; past_coercion = λ i. suc i }

abbrev pub renamed_coercion : (ℕ → NTy) → (ℕ → ℕ) → NCo → NCo
renamed_coercion s r g = put_in_coercion coercion_variables s r g

-- coercions in place of coercion variables
abbrev pub whole_coercions : StandingCoercion NCo
whole_coercions = record {
  coercion = λ g. g;
  innermost = NGVar 0;
  past_type = renamed_coercion (λ i. NTVar (suc i)) (λ i. i);
  past_coercion = renamed_coercion (λ i. NTVar i) (λ i. suc i);
}

abbrev pub replaced_coercion : (ℕ → NTy) → (ℕ → NCo) → NCo → NCo
replaced_coercion s r g = put_in_coercion whole_coercions s r g

-- BINDERS

abbrev pub replaced_binder : (ℕ → NTy) → NBinder → NBinder
replaced_binder s (NBValue t) = NBValue (substituted_type s t)
replaced_binder s (NBType k) = NBType k
replaced_binder s (NBCo r t u) = NBCo r (substituted_type s t) (substituted_type s u)

-- types behind a binder
abbrev pub types_behind : NBinder → (ℕ → NTy) → ℕ → NTy
types_behind (NBValue t) s = s
types_behind (NBType k) s = types_below s
types_behind (NBCo r t u) s = s

abbrev pub types_behind_all : List NBinder → (ℕ → NTy) → ℕ → NTy
types_behind_all [] s = s
types_behind_all (b ∷ bs) s = types_behind_all bs (types_behind b s)

-- binders that stand together, the last one innermost
abbrev pub replaced_binders : (ℕ → NTy) → List NBinder → List NBinder
replaced_binders s [] = []
replaced_binders s (b ∷ bs) = replaced_binder s b ∷ replaced_binders (types_behind b s) bs

-- WHAT IS PUT IN

-- What stands in place of a variable, seen as an expression; the innermost variable itself; and what stands in place of a variable
-- past a binder of a type, of a coercion, of a value and of a join point.
pub record Standing (V : Type 0) : Type 0 where
  pub expression : V → NExpr
  pub innermost : V
  pub past_type : V → V
  pub past_coercion : V → V
  pub past_value : V → V
  pub past_join : V → V

-- what is put in for each type variable, each coercion variable, each variable of a value and each join point
pub record Replacement (V W : Type 0) : Type 0 where
  pub types : ℕ → NTy
  pub coercions : ℕ → W
  pub values : ℕ → V
  pub joins : ℕ → ℕ

module _ {V W : Type 0} (how : Standing V) (proofs : StandingCoercion W) where
  abbrev pub values_below : (ℕ → V) → ℕ → V
  values_below s zero = how.innermost
  values_below s (suc i) = how.past_value (s i)

  abbrev pub values_behind : NBinder → (ℕ → V) → ℕ → V
  values_behind (NBValue t) s = values_below s
  values_behind (NBType k) s = λ i. how.past_type (s i)
  values_behind (NBCo r t u) s = λ i. how.past_coercion (s i)

  abbrev pub values_behind_all : List NBinder → (ℕ → V) → ℕ → V
  values_behind_all [] s = s
  values_behind_all (b ∷ bs) s = values_behind_all bs (values_behind b s)

  abbrev pub below_binder : NBinder → Replacement V W → Replacement V W
  below_binder b r = record { types = types_behind b r.types; coercions = coercions_behind proofs b r.coercions; values = values_behind b r.values; joins = r.joins }

  abbrev pub below_binders : List NBinder → Replacement V W → Replacement V W
  below_binders bs r = record { types = types_behind_all bs r.types; coercions = coercions_behind_all proofs bs r.coercions; values = values_behind_all bs r.values; joins = r.joins }

  -- below this many values
  abbrev pub below_values : ℕ → Replacement V W → Replacement V W
  below_values m r = record { types = r.types; coercions = r.coercions; values = times m values_below r.values; joins = r.joins }

  -- below this many join points
  abbrev pub below_joins : ℕ → Replacement V W → Replacement V W
  below_joins m r = record { types = r.types; coercions = r.coercions; values = times m (λ s i. how.past_join (s i)) r.values; joins = times m renaming_below r.joins }

  -- EXPRESSIONS

  abbrev mutual
    pub put_in : Replacement V W → NExpr → NExpr
    put_in r (NLocal i) = how.expression (r.values i)
    put_in r (NVar n) = NVar n
    put_in r (NLit n) = NLit n
    put_in r (NApp f a) = NApp (put_in r f) (put_in_arg r a)
    put_in r (NLam b e) = NLam (replaced_binder r.types b) (put_in (below_binder b r) e)
    put_in r (NLet o bs e) = NLet o (put_in_binds (if o then below_values (bind_count bs) r else r) bs) (put_in (below_values (bind_count bs) r) e)
    put_in r (NCase e t u alts) = NCase (put_in r e) (substituted_type r.types t) (substituted_type r.types u) (put_in_alts (below_values 1 r) alts)
    put_in r (NCast e g) = NCast (put_in r e) (put_in_coercion proofs r.types r.coercions g)
    put_in r (NCon n args) = NCon n (put_in_args r args)
    put_in r (NPrim op es) = NPrim op (put_in_exprs r es)
    put_in r (NFail t) = NFail (substituted_type r.types t)
    put_in r (NJoin o t js e) =
        NJoin o (substituted_type r.types t) (put_in_joins (if o then below_joins (join_count js) r else r) js) (put_in (below_joins (join_count js) r) e)
    put_in r (NJump i args) = NJump (r.joins i) (put_in_args r args)

    pub put_in_arg : Replacement V W → NArg → NArg
    put_in_arg r (NATerm e) = NATerm (put_in r e)
    put_in_arg r (NAType t) = NAType (substituted_type r.types t)
    put_in_arg r (NACo g) = NACo (put_in_coercion proofs r.types r.coercions g)

    pub put_in_args : Replacement V W → NArgs → NArgs
    put_in_args r NoNArgs = NoNArgs
    put_in_args r (MoreNArgs a rest) = MoreNArgs (put_in_arg r a) (put_in_args r rest)

    pub put_in_exprs : Replacement V W → NExprs → NExprs
    put_in_exprs r NoNExprs = NoNExprs
    put_in_exprs r (MoreNExprs e rest) = MoreNExprs (put_in r e) (put_in_exprs r rest)

    pub put_in_bind : Replacement V W → NBind → NBind
    put_in_bind r (NBound t e) = NBound (substituted_type r.types t) (put_in r e)

    pub put_in_binds : Replacement V W → NBinds → NBinds
    put_in_binds r NoNBinds = NoNBinds
    put_in_binds r (MoreNBinds b rest) = MoreNBinds (put_in_bind r b) (put_in_binds r rest)

    pub put_in_join : Replacement V W → NJoinBind → NJoinBind
    put_in_join r (NJoined ps e) = NJoined (replaced_binders r.types ps) (put_in (below_binders ps r) e)

    pub put_in_joins : Replacement V W → NJoins → NJoins
    put_in_joins r NoNJoins = NoNJoins
    put_in_joins r (MoreNJoins j rest) = MoreNJoins (put_in_join r j) (put_in_joins r rest)

    pub put_in_alt : Replacement V W → NAlt → NAlt
    put_in_alt r (NBranch h bs e) = NBranch h (replaced_binders r.types bs) (put_in (below_binders bs r) e)

    pub put_in_alts : Replacement V W → NAlts → NAlts
    put_in_alts r NoNAlts = NoNAlts
    put_in_alts r (MoreNAlts a rest) = MoreNAlts (put_in_alt r a) (put_in_alts r rest)

-- VARIABLES IN PLACE OF VARIABLES

abbrev pub variables : Standing ℕ
variables = record { expression = λ i. NLocal i; innermost = 0; past_type = λ i. i; past_coercion = λ i. i; past_value = λ i. suc i; past_join = λ i. i }

abbrev pub Renaming : Type 0
Renaming = Replacement ℕ ℕ

-- other variables in place of those of an expression, of coercions too, and types in place of its type variables
abbrev pub renamed : Renaming → NExpr → NExpr
renamed r e = put_in variables coercion_variables r e

-- each variable itself
abbrev pub themselves : Renaming
themselves = record { types = λ i. NTVar i; coercions = λ i. i; values = λ i. i; joins = λ i. i }

-- past one binder more of a type, of a coercion, of a value and of a join point
abbrev pub past_a_type : Renaming
past_a_type = record { types = λ i. NTVar (suc i); coercions = λ i. i; values = λ i. i; joins = λ i. i }

abbrev pub past_a_coercion : Renaming
past_a_coercion = record { types = λ i. NTVar i; coercions = λ i. suc i; values = λ i. i; joins = λ i. i }

abbrev pub past_a_value : Renaming
past_a_value = record { types = λ i. NTVar i; coercions = λ i. i; values = λ i. suc i; joins = λ i. i }

abbrev pub past_a_join : Renaming
past_a_join = record { types = λ i. NTVar i; coercions = λ i. i; values = λ i. i; joins = λ i. suc i }

-- EXPRESSIONS IN PLACE OF VARIABLES

abbrev pub expressions : Standing NExpr
expressions = record {
  expression = λ e. e;
  innermost = NLocal 0;
  past_type = renamed past_a_type;
  past_coercion = renamed past_a_coercion;
  past_value = renamed past_a_value;
  past_join = renamed past_a_join;
}

abbrev pub Substitution : Type 0
Substitution = Replacement NExpr NCo

abbrev pub replaced : Substitution → NExpr → NExpr
replaced r e = put_in expressions whole_coercions r e

-- a type for the innermost type variable; the others stand one binder further in than what they refer to
abbrev pub type_alone : NTy → Renaming
type_alone u = record { types = type_for_innermost u; coercions = λ i. i; values = λ i. i; joins = λ i. i }

-- each variable itself
abbrev pub unchanged : Substitution
unchanged = record { types = λ i. NTVar i; coercions = λ i. NGVar i; values = λ i. NLocal i; joins = λ i. i }

-- an expression, and a coercion, for the innermost variable; what stood for the others stands for them one binder further in
abbrev pub value_before : NExpr → (ℕ → NExpr) → ℕ → NExpr
value_before e s zero = e
value_before e s (suc i) = s i

abbrev pub coercion_before : NCo → (ℕ → NCo) → ℕ → NCo
coercion_before g s zero = g
coercion_before g s (suc i) = s i

abbrev pub with_argument : NArg → Substitution → Substitution
with_argument (NATerm e) r = record { types = r.types; coercions = r.coercions; values = value_before e r.values; joins = r.joins }
with_argument (NAType t) r = record { types = type_before t r.types; coercions = r.coercions; values = r.values; joins = r.joins }
with_argument (NACo g) r = record { types = r.types; coercions = coercion_before g r.coercions; values = r.values; joins = r.joins }

-- arguments for binders that stand together, the last one innermost
abbrev pub with_arguments : NArgs → Substitution → Substitution
with_arguments NoNArgs r = r
with_arguments (MoreNArgs a rest) r = with_arguments rest (with_argument a r)

-- an expression, and a coercion, for the innermost variable alone
abbrev pub value_alone : NExpr → Substitution
value_alone a = with_argument (NATerm a) unchanged

abbrev pub coercion_alone : NCo → Substitution
coercion_alone g = with_argument (NACo g) unchanged
