-- What a row reads around the part that it replaces: the context of the part, what is known of the variables in scope, and what the part is
-- applied to.
use Rattle.std.specs.Prelude.{ℕ, zero, suc, ◌+◌, Bool, true, false, nat_eq, if◌then◌else◌, List, [], ◌∷◌}
use Rattle.fc_syntax.specs.declared.ty.Name.{Name}
use Rattle.fc_syntax.specs.declared.expr.Head.{Head}
use Rattle.fc_syntax.specs.declared.expr.Head.TheVariants as head
use Rattle.fc_model.specs.Calling.{type_arguments, type_count}
use Rattle.fc_model.specs.Coercing.{ends}
use Rattle.fc_model.specs.Kinding.{Modules, same_name}
use Rattle.fc_model.specs.Nameless.{NTy, NTVar, NGVar, NBinder, NBValue, NBType, NBCo, NArg, NATerm, NAType, NACo, NBound, NBranch, NDecl, NData, NNew, NFamily, NAxiom, NDef, NWrap}
use Rattle.fc_model.specs.Nameless.{NExpr, NLocal, NVar, NLit, NApp, NLam, NLet, NCase, NCast, NCon, NPrim, NFail, NJoin, NJump}
use Rattle.fc_model.specs.Nameless.{NArgs, NoNArgs, MoreNArgs, NBinds, NoNBinds, MoreNBinds, NJoins, NoNJoins, MoreNJoins, NJoined, NAlts, NoNAlts, MoreNAlts}
use Rattle.fc_model.specs.Replacing.{Renaming, below_binders, bind_count, coercion_variables, join_count, past_a_coercion, past_a_type, past_a_value, renamed, replaced_binders, variables}
use Rattle.fc_model.specs.Substituting.{raised_type}
use Rattle.fc_model.specs.Typing.{Context, no_context, with_binds, with_coercion, with_joins, with_type, with_value, without_joins}
use Rattle.std.specs.Str.{bytes_eq}

-- PAST SEVERAL BINDERS

-- past n binders more of values, and of join points
abbrev pub past_values : ℕ → Renaming
past_values n = record { types = λ i. NTVar i; coercions = λ i. i; values = λ i. i + n; joins = λ i. i }

abbrev pub past_joins : ℕ → Renaming
past_joins n = record { types = λ i. NTVar i; coercions = λ i. i; values = λ i. i; joins = λ i. i + n }

-- VALUES

-- a constructor, a lambda over a value or a coercion, one over a type around a value, or a cast of a value
abbrev pub is_value : NExpr → Bool
is_value (NLocal i) = false
is_value (NVar n) = false
is_value (NLit n) = false
is_value (NApp f a) = false
is_value (NLam (NBValue t) e) = true
is_value (NLam (NBType k) e) = is_value e
is_value (NLam (NBCo r t u) e) = true
is_value (NLet r bs e) = false
is_value (NCase e xt rt alts) = false
is_value (NCast e g) = is_value e
is_value (NCon n args) = true
is_value (NPrim op es) = false
is_value (NFail t) = false
is_value (NJoin r t js e) = false
is_value (NJump i args) = false

-- KNOWN VALUES

-- what is known of a variable: the value that it is, or heads of alternatives that it is not
pub data Known : Type 0 where
  Unknown : Known
  Is : (e : NExpr) → Known
  IsNot : (hs : List Head) → Known

abbrev pub moved_known : Renaming → Known → Known
moved_known r Unknown = Unknown
moved_known r (Is e) = Is (renamed r e)
moved_known r (IsNot hs) = IsNot hs

-- what is known of a variable that is bound to an expression
abbrev pub known_of : NExpr → Known
known_of e = if is_value e then Is e else Unknown

abbrev pub known_before : Known → (ℕ → Known) → ℕ → Known
known_before k f zero = k
known_before k f (suc i) = f i

-- KNOWN JOIN POINTS

-- what is known of a join point: its parameters and its right side, which stands behind them; of a recursive one nothing
pub data Point : Type 0 where
  NoPoint : Point
  PointOf : (ps : List NBinder) (e : NExpr) → Point

abbrev pub moved_point : Renaming → Point → Point
moved_point r NoPoint = NoPoint
moved_point r (PointOf ps e) = PointOf (replaced_binders r.types ps) (renamed (below_binders variables coercion_variables ps r) e)

abbrev pub point_before : Point → (ℕ → Point) → ℕ → Point
point_before k f zero = k
point_before k f (suc i) = f i

-- SURROUNDINGS

-- the types, kinds and coercions in scope and the join points in tail reach; what is known of local variables, by distance, of top-level
-- names and of join points; the right sides of variables that lets bind that are not recursive, values or not; and the arguments that the
-- part is applied to, the first first
pub record Surroundings : Type 0 where
  pub context : Context
  pub locals : ℕ → Known
  pub rights : ℕ → Known
  pub names : Name → Known
  pub points : ℕ → Point
  pub arguments : NArgs

abbrev pub no_points : ℕ → Point
no_points i = NoPoint

-- where what is answered is not the answer of the whole
abbrev pub apart : Surroundings → Surroundings
apart s = record { context = without_joins s.context; locals = s.locals; rights = s.rights; names = s.names; points = no_points; arguments = NoNArgs }

abbrev pub at_head : NArg → Surroundings → Surroundings
at_head a s = record { context = without_joins s.context; locals = s.locals; rights = s.rights; names = s.names; points = no_points; arguments = MoreNArgs a s.arguments }

-- behind a value of which this is known
abbrev pub behind_value : NTy → Known → Surroundings → Surroundings
behind_value t k s = record {
  context = with_value t s.context;
  locals = known_before k (λ i. moved_known past_a_value (s.locals i));
  rights = known_before Unknown (λ i. moved_known past_a_value (s.rights i));
  names = λ n. moved_known past_a_value (s.names n);
  points = λ i. moved_point past_a_value (s.points i);
  arguments = NoNArgs;
}

abbrev pub behind_binder : NBinder → Surroundings → Surroundings
behind_binder (NBValue t) s = behind_value t Unknown s
behind_binder (NBType k) s = record {
  context = with_type k s.context;
  locals = λ i. moved_known past_a_type (s.locals i);
  rights = λ i. moved_known past_a_type (s.rights i);
  names = λ n. moved_known past_a_type (s.names n);
  points = λ i. moved_point past_a_type (s.points i);
  arguments = NoNArgs;
}
behind_binder (NBCo r t u) s = record {
  context = with_coercion (ends r t u) s.context;
  locals = λ i. moved_known past_a_coercion (s.locals i);
  rights = λ i. moved_known past_a_coercion (s.rights i);
  names = λ n. moved_known past_a_coercion (s.names n);
  points = λ i. moved_point past_a_coercion (s.points i);
  arguments = NoNArgs;
}

abbrev pub behind_binders : List NBinder → Surroundings → Surroundings
behind_binders [] s = s
behind_binders (b ∷ bs) s = behind_binders bs (behind_binder b s)

-- what is known of the binders of a group of n, before others; the right sides of one that is not recursive stand outside of it
abbrev pub known_in_group : Bool → ℕ → NBinds → (ℕ → Known) → ℕ → Known
known_in_group r n NoNBinds f = f
known_in_group r n (MoreNBinds (NBound t e) rest) f =
    known_in_group r n rest (known_before (if r then known_of e else moved_known (past_values n) (known_of e)) f)

-- the right sides of a group of n that is not recursive, before others
abbrev pub rights_in_group : Bool → ℕ → NBinds → (ℕ → Known) → ℕ → Known
rights_in_group r n NoNBinds f = f
rights_in_group r n (MoreNBinds (NBound t e) rest) f = rights_in_group r n rest (known_before (if r then Unknown else Is (renamed (past_values n) e)) f)

abbrev pub behind_binds : Bool → NBinds → Surroundings → Surroundings
behind_binds r bs s = record {
  context = with_binds bs s.context;
  locals = known_in_group r (bind_count bs) bs (λ i. moved_known (past_values (bind_count bs)) (s.locals i));
  rights = rights_in_group r (bind_count bs) bs (λ i. moved_known (past_values (bind_count bs)) (s.rights i));
  names = λ n. moved_known (past_values (bind_count bs)) (s.names n);
  points = λ i. moved_point (past_values (bind_count bs)) (s.points i);
  arguments = NoNArgs;
}

-- where the right sides of a group stand
abbrev pub at_right_sides : Bool → NBinds → Surroundings → Surroundings
at_right_sides true bs s = apart (behind_binds true bs s)
at_right_sides false bs s = apart s

-- what is known of the join points of a group of n, before others
abbrev pub points_in_group : Bool → ℕ → NJoins → (ℕ → Point) → ℕ → Point
points_in_group r n NoNJoins f = f
points_in_group r n (MoreNJoins (NJoined ps e) rest) f =
    points_in_group r n rest (point_before (if r then NoPoint else moved_point (past_joins n) (PointOf ps e)) f)

abbrev pub behind_joins : Bool → NTy → NJoins → Surroundings → Surroundings
behind_joins r t js s = record {
  context = with_joins t js s.context;
  locals = λ i. moved_known (past_joins (join_count js)) (s.locals i);
  rights = λ i. moved_known (past_joins (join_count js)) (s.rights i);
  names = λ n. moved_known (past_joins (join_count js)) (s.names n);
  points = points_in_group r (join_count js) js (λ i. moved_point (past_joins (join_count js)) (s.points i));
  arguments = NoNArgs;
}

-- where the right sides of join points stand
abbrev pub at_join_sides : Bool → NTy → NJoins → Surroundings → Surroundings
at_join_sides true t js s = behind_joins true t js s
at_join_sides false t js s = record s { arguments = NoNArgs }

-- ALTERNATIVES

abbrev pub value_count : List NBinder → ℕ
value_count [] = 0
value_count (NBValue t ∷ bs) = suc (value_count bs)
value_count (NBType k ∷ bs) = value_count bs
value_count (NBCo r t u ∷ bs) = value_count bs

abbrev pub coercion_count : List NBinder → ℕ
coercion_count [] = 0
coercion_count (NBValue t ∷ bs) = coercion_count bs
coercion_count (NBType k ∷ bs) = coercion_count bs
coercion_count (NBCo r t u ∷ bs) = suc (coercion_count bs)

-- binders that stand together as arguments behind them
abbrev pub as_arguments : List NBinder → NArgs
as_arguments [] = NoNArgs
as_arguments (NBValue t ∷ bs) = MoreNArgs (NATerm (NLocal (value_count bs))) (as_arguments bs)
as_arguments (NBType k ∷ bs) = MoreNArgs (NAType (NTVar (type_count bs))) (as_arguments bs)
as_arguments (NBCo r t u ∷ bs) = MoreNArgs (NACo (NGVar (coercion_count bs))) (as_arguments bs)

-- types past m type variables as arguments, before others
abbrev pub types_as_arguments : ℕ → List NTy → NArgs → NArgs
types_as_arguments m [] rest = rest
types_as_arguments m (t ∷ ts) rest = MoreNArgs (NAType (raised_type m t)) (types_as_arguments m ts rest)

-- the heads of alternatives, but for the default
abbrev pub listed_heads : NAlts → List Head
listed_heads NoNAlts = []
listed_heads (MoreNAlts (NBranch head.Default bs e) rest) = listed_heads rest
listed_heads (MoreNAlts (NBranch (head.Lit n) bs e) rest) = head.Lit n ∷ listed_heads rest
listed_heads (MoreNAlts (NBranch (head.Con n) bs e) rest) = head.Con n ∷ listed_heads rest

-- what is known in an alternative of the scrutinee, of type t: its constructor, at the types that t is at, with the binders; its literal; or, in
-- the default, that it is none of the listed heads
abbrev pub known_in_alternative : NTy → List Head → Head → List NBinder → Known
known_in_alternative t hs head.Default bs = IsNot hs
known_in_alternative t hs (head.Lit n) bs = Is (NLit n)
known_in_alternative t hs (head.Con n) bs = Is (NCon n (types_as_arguments (type_count bs) (type_arguments t) (as_arguments bs)))

abbrev pub known_at : ℕ → Known → (ℕ → Known) → ℕ → Known
known_at i k f j = if nat_eq j i then k else f j

-- this is known of a scrutinee that is a variable, past m values more, or a top-level name
abbrev pub scrutinee_local : NExpr → ℕ → Known → (ℕ → Known) → ℕ → Known
scrutinee_local (NLocal i) m k f = known_at (i + m) k f
scrutinee_local e m k f = f

abbrev pub scrutinee_name : NExpr → Known → (Name → Known) → Name → Known
scrutinee_name (NVar n) k f = λ m. if same_name m n then k else f m
scrutinee_name e k f = f

-- in an alternative of a case: behind the case binder, of type t, and the binders of the alternative
abbrev pub in_alternative : NExpr → NTy → List Head → Head → List NBinder → Surroundings → Surroundings
in_alternative e t hs h bs s =
    let k = known_in_alternative t hs h bs in
    let inner = behind_binders bs (behind_value t Unknown s) in
    record {
      context = inner.context;
      locals = scrutinee_local e (suc (value_count bs)) k (known_at (value_count bs) k inner.locals);
      rights = inner.rights;
      names = scrutinee_name e k inner.names;
      points = inner.points;
      arguments = NoNArgs;
    }

-- a default and a literal bind nothing
abbrev pub head_binds : Head → List NBinder → Bool
head_binds head.Default [] = true
head_binds head.Default (b ∷ bs) = false
head_binds (head.Lit n) [] = true
head_binds (head.Lit n) (b ∷ bs) = false
head_binds (head.Con n) bs = true

-- DEFINITIONS

-- what is known of the first definition of a word
abbrev pub known_definition : List NDecl → List ℕ → Known
known_definition [] w = Unknown
known_definition (NData n ps cs ∷ ds) w = known_definition ds w
known_definition (NNew n ps t con ∷ ds) w = known_definition ds w
known_definition (NFamily n ps k ∷ ds) w = known_definition ds w
known_definition (NAxiom n ps t u ∷ ds) w = known_definition ds w
known_definition (NDef n t e ∷ ds) w = if bytes_eq n w then known_of e else known_definition ds w
known_definition (NWrap n t e ∷ ds) w = if bytes_eq n w then known_of e else known_definition ds w

-- outside of all binders of a definition, against what modules declare; of an import the right sides that are not told are failures
abbrev pub outside : Modules → Surroundings
outside ms = record {
  context = no_context;
  locals = λ i. Unknown;
  rights = λ i. Unknown;
  names = λ n. known_definition (ms n.module) n.text;
  points = no_points;
  arguments = NoNArgs;
}
