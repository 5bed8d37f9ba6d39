-- In a formed expression, what the surroundings of each part say is formed: the context, what is known of variables, names and join points, and right sides.
use Rattle.std.proofs.Common.{ℕ, zero, suc, ◌+◌, Bool, true, false, nat_eq, if◌then◌else◌, List, [], ◌∷◌, sym, subst}
use Rattle.std.specs.Str.{bytes_eq}
use Rattle.fc_syntax.specs.declared.expr.Head.{Head}
use Rattle.fc_syntax.specs.declared.expr.Head.TheVariants as head
use Rattle.fc_syntax.specs.declared.ty.Name.{Name}
use Rattle.fc_syntax.specs.Tree.{Word}
use Rattle.fc_model.specs.Calling.{type_arguments, type_count}
use Rattle.fc_model.specs.Coercing.{ends}
use Rattle.fc_model.specs.Kinding.{Modules, same_name}
use Rattle.fc_model.specs.Nameless.{NTy, NBinder, NBValue, NBType, NBCo, NExpr, NLocal, NVar, NArg, NBound, NJoined, NArgs, NBinds, NoNBinds, MoreNBinds, NJoins, NoNJoins, MoreNJoins}
use Rattle.fc_model.specs.Nameless.{NDecl, NData, NNew, NFamily, NAxiom, NDef, NWrap}
use Rattle.fc_model.specs.Replacing.{Renaming, below_binders, bind_count, coercion_variables, join_count, past_a_coercion, past_a_type, past_a_value, renamed, variables}
use Rattle.fc_rows.specs.Surroundings.{Is, IsNot, Known, NoPoint, Point, PointOf, Surroundings, Unknown, apart, as_arguments, at_head, at_join_sides, at_right_sides, behind_binder}
use Rattle.fc_rows.specs.Surroundings.{behind_binders, behind_binds, behind_joins, behind_value, in_alternative, is_value, known_at, known_before, known_definition, known_in_alternative}
use Rattle.fc_rows.specs.Surroundings.{known_in_group, known_of, moved_known, moved_point, outside, past_joins, past_values, point_before, points_in_group, rights_in_group}
use Rattle.fc_rows.specs.Surroundings.{scrutinee_local, scrutinee_name, types_as_arguments, value_count}
use Rattle.fc_formed.specs.FormedTrees.{IsFormedTy, AreFormedTys, IsFormedBinder, AreFormedBinders, IsFormedHead, IsFormedExpr, AreFormedArgs, AreFormedBinds, AreFormedJoins}
use Rattle.fc_formed.specs.FormedTrees.{AreFormedDecls}
use Rattle.fc_rows_formed.proofs.Answered.{either}
use Rattle.fc_rows_formed.proofs.DeclarationsFormed.{AreDeclaredFormed}
use Rattle.fc_rows_formed.proofs.ExpressionsFormed.{binders_put}
use Rattle.fc_rows_formed.proofs.PutFormed.{expression_renamed, images_behind_all}
use Rattle.fc_rows_formed.proofs.ReadOffFormed.{IsContextFormed, no_context_formed, with_binds_formed, with_coercion_formed, with_joins_formed, with_type_formed, with_value_formed}
use Rattle.fc_rows_formed.proofs.ReadOffFormed.{without_joins_formed}
use Rattle.fc_rows_formed.proofs.TypesFormed.{AreImagesFormed, type_arguments_formed, type_renamed}

-- WHAT IS KNOWN

-- what a variable or a name is known to be, and the right side of a variable that a let binds
abbrev pub IsKnownFormed : Known → Type 0
IsKnownFormed Unknown = Unit {0}
IsKnownFormed (Is e) = IsFormedExpr e
IsKnownFormed (IsNot hs) = Unit {0}

-- the parameters and the right side of a join point
abbrev pub IsPointFormed : Point → Type 0
IsPointFormed NoPoint = Unit {0}
IsPointFormed (PointOf ps e) = AreFormedBinders ps × IsFormedExpr e

-- all that surroundings say
pub record AreFormed (s : Surroundings) : Type 0 where
  pub context : IsContextFormed s.context
  pub locals : (i : ℕ) → IsKnownFormed (s.locals i)
  pub rights : (i : ℕ) → IsKnownFormed (s.rights i)
  pub names : (n : Name) → IsKnownFormed (s.names n)
  pub points : (i : ℕ) → IsPointFormed (s.points i)

-- EACH WAY TO KNOW

bound_known : (e : NExpr) → IsFormedExpr e → IsKnownFormed (known_of e)
bound_known e w = either IsKnownFormed (is_value e) (Is e) Unknown w tt

known_moved : (r : Renaming) → AreImagesFormed r.types → (k : Known) → IsKnownFormed k → IsKnownFormed (moved_known r k)
known_moved r f Unknown w = tt
known_moved r f (Is e) w = expression_renamed r f e w
known_moved r f (IsNot hs) w = tt

point_moved : (r : Renaming) → AreImagesFormed r.types → (k : Point) → IsPointFormed k → IsPointFormed (moved_point r k)
point_moved r f NoPoint w = tt
point_moved r f (PointOf ps e) w =
    (binders_put r.types f ps w.0, expression_renamed (below_binders variables coercion_variables ps r) (images_behind_all ps r.types f) e w.1)

first_known : (k : Known) (f : ℕ → Known) → IsKnownFormed k → ((i : ℕ) → IsKnownFormed (f i)) → (i : ℕ) → IsKnownFormed (known_before k f i)
first_known k f p g zero = p
first_known k f p g (suc i) = g i

first_point : (k : Point) (f : ℕ → Point) → IsPointFormed k → ((i : ℕ) → IsPointFormed (f i)) → (i : ℕ) → IsPointFormed (point_before k f i)
first_point k f p g zero = p
first_point k f p g (suc i) = g i

-- PARTS

pub apart_formed : (s : Surroundings) → AreFormed s → AreFormed (apart s)
apart_formed s g = record { context = without_joins_formed s.context g.context; locals = g.locals; rights = g.rights; names = g.names; points = λ i. tt }

pub at_head_formed : (a : NArg) (s : Surroundings) → AreFormed s → AreFormed (at_head a s)
at_head_formed a s g = record { context = without_joins_formed s.context g.context; locals = g.locals; rights = g.rights; names = g.names; points = λ i. tt }

behind_value_formed : (t : NTy) (s : Surroundings) → IsFormedTy t → AreFormed s → AreFormed (behind_value t Unknown s)
behind_value_formed t s w g = record {
  context = with_value_formed t s.context w g.context;
  locals = first_known Unknown (λ i. moved_known past_a_value (s.locals i)) tt (λ i. known_moved past_a_value (λ j. tt) (s.locals i) (g.locals i));
  rights = first_known Unknown (λ i. moved_known past_a_value (s.rights i)) tt (λ i. known_moved past_a_value (λ j. tt) (s.rights i) (g.rights i));
  names = λ n. known_moved past_a_value (λ j. tt) (s.names n) (g.names n);
  points = λ i. point_moved past_a_value (λ j. tt) (s.points i) (g.points i);
}

pub behind_binder_formed : (b : NBinder) (s : Surroundings) → IsFormedBinder b → AreFormed s → AreFormed (behind_binder b s)
behind_binder_formed (NBValue t) s w g = behind_value_formed t s w g
behind_binder_formed (NBType k) s w g = record {
  context = with_type_formed k s.context g.context;
  locals = λ i. known_moved past_a_type (λ j. tt) (s.locals i) (g.locals i);
  rights = λ i. known_moved past_a_type (λ j. tt) (s.rights i) (g.rights i);
  names = λ n. known_moved past_a_type (λ j. tt) (s.names n) (g.names n);
  points = λ i. point_moved past_a_type (λ j. tt) (s.points i) (g.points i);
}
behind_binder_formed (NBCo r t u) s w g = record {
  context = with_coercion_formed (ends r t u) s.context (w.1, w.2) g.context;
  locals = λ i. known_moved past_a_coercion (λ j. tt) (s.locals i) (g.locals i);
  rights = λ i. known_moved past_a_coercion (λ j. tt) (s.rights i) (g.rights i);
  names = λ n. known_moved past_a_coercion (λ j. tt) (s.names n) (g.names n);
  points = λ i. point_moved past_a_coercion (λ j. tt) (s.points i) (g.points i);
}

pub behind_binders_formed : (bs : List NBinder) (s : Surroundings) → AreFormedBinders bs → AreFormed s → AreFormed (behind_binders bs s)
behind_binders_formed [] s w g = g
behind_binders_formed (b ∷ bs) s w g = behind_binders_formed bs (behind_binder b s) w.1 (behind_binder_formed b s w.0 g)

-- BINDS

bind_known : (r : Bool) (n : ℕ) (e : NExpr) → IsFormedExpr e → IsKnownFormed (if r then known_of e else moved_known (past_values n) (known_of e))
bind_known true n e w = bound_known e w
bind_known false n e w = known_moved (past_values n) (λ j. tt) (known_of e) (bound_known e w)

group_known : (r : Bool) (n : ℕ) (bs : NBinds) (f : ℕ → Known) → AreFormedBinds bs → ((i : ℕ) → IsKnownFormed (f i)) → (i : ℕ) → IsKnownFormed (known_in_group r n bs f i)
group_known r n NoNBinds f w g = g
group_known r n (MoreNBinds (NBound t e) rest) f w g =
    let k : Known = if r then known_of e else moved_known (past_values n) (known_of e) in
    group_known r n rest (known_before k f) w.1 (first_known k f (bind_known r n e w.0.1) g)

bind_right : (r : Bool) (n : ℕ) (e : NExpr) → IsFormedExpr e → IsKnownFormed (if r then Unknown else Is (renamed (past_values n) e))
bind_right true n e w = tt
bind_right false n e w = expression_renamed (past_values n) (λ j. tt) e w

group_rights : (r : Bool) (n : ℕ) (bs : NBinds) (f : ℕ → Known) → AreFormedBinds bs → ((i : ℕ) → IsKnownFormed (f i)) → (i : ℕ) → IsKnownFormed (rights_in_group r n bs f i)
group_rights r n NoNBinds f w g = g
group_rights r n (MoreNBinds (NBound t e) rest) f w g =
    let k : Known = if r then Unknown else Is (renamed (past_values n) e) in
    group_rights r n rest (known_before k f) w.1 (first_known k f (bind_right r n e w.0.1) g)

pub behind_binds_formed : (r : Bool) (bs : NBinds) (s : Surroundings) → AreFormedBinds bs → AreFormed s → AreFormed (behind_binds r bs s)
behind_binds_formed r bs s w g =
    let q = past_values (bind_count bs) in
    record {
      context = with_binds_formed bs s.context w g.context;
      locals = group_known r (bind_count bs) bs (λ i. moved_known q (s.locals i)) w (λ i. known_moved q (λ j. tt) (s.locals i) (g.locals i));
      rights = group_rights r (bind_count bs) bs (λ i. moved_known q (s.rights i)) w (λ i. known_moved q (λ j. tt) (s.rights i) (g.rights i));
      names = λ n. known_moved q (λ j. tt) (s.names n) (g.names n);
      points = λ i. point_moved q (λ j. tt) (s.points i) (g.points i);
    }

pub right_sides_formed : (r : Bool) (bs : NBinds) (s : Surroundings) → AreFormedBinds bs → AreFormed s → AreFormed (at_right_sides r bs s)
right_sides_formed true bs s w g = apart_formed (behind_binds true bs s) (behind_binds_formed true bs s w g)
right_sides_formed false bs s w g = apart_formed s g

-- JOIN POINTS

join_known : (r : Bool) (n : ℕ) (ps : List NBinder) (e : NExpr) → AreFormedBinders ps → IsFormedExpr e → IsPointFormed (if r then NoPoint else moved_point (past_joins n) (PointOf ps e))
join_known true n ps e v w = tt
join_known false n ps e v w = point_moved (past_joins n) (λ j. tt) (PointOf ps e) (v, w)

group_points : (r : Bool) (n : ℕ) (js : NJoins) (f : ℕ → Point) → AreFormedJoins js → ((i : ℕ) → IsPointFormed (f i)) → (i : ℕ) → IsPointFormed (points_in_group r n js f i)
group_points r n NoNJoins f w g = g
group_points r n (MoreNJoins (NJoined ps e) rest) f w g =
    let k : Point = if r then NoPoint else moved_point (past_joins n) (PointOf ps e) in
    group_points r n rest (point_before k f) w.1 (first_point k f (join_known r n ps e w.0.0 w.0.1) g)

pub behind_joins_formed : (r : Bool) (t : NTy) (js : NJoins) (s : Surroundings) → IsFormedTy t → AreFormedJoins js → AreFormed s → AreFormed (behind_joins r t js s)
behind_joins_formed r t js s v w g =
    let q = past_joins (join_count js) in
    record {
      context = with_joins_formed t js s.context v w g.context;
      locals = λ i. known_moved q (λ j. tt) (s.locals i) (g.locals i);
      rights = λ i. known_moved q (λ j. tt) (s.rights i) (g.rights i);
      names = λ n. known_moved q (λ j. tt) (s.names n) (g.names n);
      points = group_points r (join_count js) js (λ i. moved_point q (s.points i)) w (λ i. point_moved q (λ j. tt) (s.points i) (g.points i));
    }

pub join_sides_formed : (r : Bool) (t : NTy) (js : NJoins) (s : Surroundings) → IsFormedTy t → AreFormedJoins js → AreFormed s → AreFormed (at_join_sides r t js s)
join_sides_formed true t js s v w g = behind_joins_formed true t js s v w g
join_sides_formed false t js s v w g = record { context = g.context; locals = g.locals; rights = g.rights; names = g.names; points = g.points }

-- ALTERNATIVES

binders_as_formed : (bs : List NBinder) → AreFormedArgs (as_arguments bs)
binders_as_formed [] = tt
binders_as_formed (NBValue t ∷ bs) = (tt, binders_as_formed bs)
binders_as_formed (NBType k ∷ bs) = (tt, binders_as_formed bs)
binders_as_formed (NBCo r t u ∷ bs) = (tt, binders_as_formed bs)

types_before_formed : (m : ℕ) (ts : List NTy) (rest : NArgs) → AreFormedTys ts → AreFormedArgs rest → AreFormedArgs (types_as_arguments m ts rest)
types_before_formed m [] rest v w = w
types_before_formed m (t ∷ ts) rest v w = (type_renamed _ t v.0, types_before_formed m ts rest v.1 w)

-- the scrutinee, of type t, in an alternative
scrutinee_known : (t : NTy) (hs : List Head) (h : Head) (bs : List NBinder) → IsFormedTy t → IsFormedHead h bs → IsKnownFormed (known_in_alternative t hs h bs)
scrutinee_known t hs head.Default bs v w = tt
scrutinee_known t hs (head.Lit n) bs v w = w.0
scrutinee_known t hs (head.Con n) bs v w =
    (w.0, types_before_formed (type_count bs) (type_arguments t) (as_arguments bs) (type_arguments_formed t v) (binders_as_formed bs))

-- the binders of an alternative
binders_of_formed : (h : Head) (bs : List NBinder) → IsFormedHead h bs → AreFormedBinders bs
binders_of_formed head.Default bs w = subst AreFormedBinders (sym w) tt
binders_of_formed (head.Lit n) bs w = subst AreFormedBinders (sym w.1) tt
binders_of_formed (head.Con n) bs w = w.1

at_known : (i : ℕ) (k : Known) (f : ℕ → Known) → IsKnownFormed k → ((j : ℕ) → IsKnownFormed (f j)) → (j : ℕ) → IsKnownFormed (known_at i k f j)
at_known i k f w g j = either IsKnownFormed (nat_eq j i) k (f j) w (g j)

local_known : (e : NExpr) (m : ℕ) (k : Known) (f : ℕ → Known) → IsKnownFormed k → ((j : ℕ) → IsKnownFormed (f j)) → (j : ℕ) → IsKnownFormed (scrutinee_local e m k f j)
local_known (NLocal i) m k f w g = at_known (i + m) k f w g
local_known e m k f w g = g

name_known : (e : NExpr) (k : Known) (f : Name → Known) → IsKnownFormed k → ((n : Name) → IsKnownFormed (f n)) → (n : Name) → IsKnownFormed (scrutinee_name e k f n)
name_known (NVar n) k f w g m = either IsKnownFormed (same_name m n) k (f m) w (g m)
name_known e k f w g m = g m

pub alternative_formed : (e : NExpr) (t : NTy) (hs : List Head) (h : Head) (bs : List NBinder) (s : Surroundings) → IsFormedTy t → IsFormedHead h bs → AreFormed s
    → AreFormed (in_alternative e t hs h bs s)
alternative_formed e t hs h bs s v w g =
    let inner = behind_binders bs (behind_value t Unknown s) in
    let f = behind_binders_formed bs (behind_value t Unknown s) (binders_of_formed h bs w) (behind_value_formed t s v g) in
    let k = known_in_alternative t hs h bs in
    let known = scrutinee_known t hs h bs v w in
    record {
      context = f.context;
      locals = local_known e (suc (value_count bs)) k (known_at (value_count bs) k inner.locals) known (at_known (value_count bs) k inner.locals known f.locals);
      rights = f.rights;
      names = name_known e k inner.names known f.names;
      points = f.points;
    }

-- OUTSIDE OF ALL BINDERS

definition_known : (ds : List NDecl) (w : Word) → AreFormedDecls ds → IsKnownFormed (known_definition ds w)
definition_known [] w g = tt
definition_known (NData n ps cs ∷ ds) w g = definition_known ds w g.1
definition_known (NNew n ps t con ∷ ds) w g = definition_known ds w g.1
definition_known (NFamily n ps k ∷ ds) w g = definition_known ds w g.1
definition_known (NAxiom n ps t u ∷ ds) w g = definition_known ds w g.1
definition_known (NDef n t e ∷ ds) w g = either IsKnownFormed (bytes_eq n w) (known_of e) (known_definition ds w) (bound_known e g.0.2) (definition_known ds w g.1)
definition_known (NWrap n t e ∷ ds) w g = either IsKnownFormed (bytes_eq n w) (known_of e) (known_definition ds w) (bound_known e g.0.2) (definition_known ds w g.1)

pub outside_formed : (ms : Modules) → AreDeclaredFormed ms → AreFormed (outside ms)
outside_formed ms f =
    record { context = no_context_formed; locals = λ i. tt; rights = λ i. tt; names = λ n. definition_known (ms n.module) n.text (f n.module); points = λ i. tt }
