-- In a written expression, what the surroundings of each part say is written: each literal is in range, each alternative has binders of its own, and what
-- is not recursive has one binder.
use Rattle.std.proofs.Common.{ℕ, zero, suc, ◌+◌, Bool, true, false, nat_eq, if◌then◌else◌, List, [], ◌∷◌, Option}
use Rattle.std.specs.Str.{bytes_eq}
use Rattle.fc_syntax.specs.Tree.{Word}
use Rattle.fc_syntax.specs.declared.expr.Head.{Head}
use Rattle.fc_syntax.specs.declared.expr.Head.TheVariants as head
use Rattle.fc_syntax.specs.declared.ty.Name.{Name}
use Rattle.fc_model.specs.Calling.{type_arguments, type_count}
use Rattle.fc_model.specs.Kinding.{Modules, same_name}
use Rattle.fc_model.specs.Nameless.{NTy, NBinder, NBValue, NBType, NBCo, NArg, NExpr, NLocal, NVar, NLit, NArgs, NBinds, NoNBinds, MoreNBinds, NBound, NJoins, NoNJoins, MoreNJoins, NJoined}
use Rattle.fc_model.specs.Nameless.{NDecl, NData, NNew, NFamily, NAxiom, NDef, NWrap}
use Rattle.fc_model.specs.Replacing.{Renaming, below_binders, bind_count, coercion_variables, join_count, past_a_coercion, past_a_type, past_a_value, renamed, variables}
use Rattle.fc_rows.specs.Surroundings.{Known, Unknown, Is, IsNot, Point, NoPoint, PointOf, Surroundings, apart, as_arguments, at_head, at_join_sides, at_right_sides, behind_binder}
use Rattle.fc_rows.specs.Surroundings.{behind_binders, behind_binds, behind_joins, behind_value, in_alternative, is_value, known_at, known_before, known_definition, known_in_alternative}
use Rattle.fc_rows.specs.Surroundings.{known_in_group, known_of, moved_known, moved_point, outside, past_joins, past_values, point_before, points_in_group, rights_in_group, scrutinee_local}
use Rattle.fc_rows.specs.Surroundings.{scrutinee_name, types_as_arguments, value_count}
use Rattle.fc_meaning.proofs.WrittenExpressions.{AreArgsWritten, AreBindsWritten, AreDeclsWritten, AreJoinsWritten, IsWritten}
use Rattle.fc_erased.proofs.ErasedReplacements.{written_renamed}

-- WHAT IS KNOWN

-- What a variable or a name is known to be. The literal of an alternative may be any, so that nothing is said of a literal.
abbrev pub IsKnownWritten : Known → Type 0
IsKnownWritten Unknown = Unit {0}
IsKnownWritten (Is (NLit n)) = Unit {0}
IsKnownWritten (Is e) = IsWritten e
IsKnownWritten (IsNot hs) = Unit {0}

-- the right side of a variable that a let binds
abbrev pub IsRightWritten : Known → Type 0
IsRightWritten Unknown = Unit {0}
IsRightWritten (Is e) = IsWritten e
IsRightWritten (IsNot hs) = Unit {0}

-- the right side of a join point
abbrev pub IsPointWritten : Point → Type 0
IsPointWritten NoPoint = Unit {0}
IsPointWritten (PointOf ps e) = IsWritten e

-- all that surroundings say
pub record AreWritten (s : Surroundings) : Type 0 where
  pub locals : (i : ℕ) → IsKnownWritten (s.locals i)
  pub rights : (i : ℕ) → IsRightWritten (s.rights i)
  pub names : (n : Name) → IsKnownWritten (s.names n)
  pub points : (i : ℕ) → IsPointWritten (s.points i)

-- EACH WAY TO KNOW

value_known : (e : NExpr) → IsWritten e → IsKnownWritten (Is e)
value_known (NLit n) w = tt
value_known e w = w

pub either : {X : Type 0} (P : X → Type 0) (b : Bool) (x y : X) → P x → P y → P (if b then x else y)
either P true x y p q = p
either P false x y p q = q

bound_known : (e : NExpr) → IsWritten e → IsKnownWritten (known_of e)
bound_known e w = either IsKnownWritten (is_value e) (Is e) Unknown (value_known e w) tt

known_moved : (r : Renaming) (k : Known) → IsKnownWritten k → IsKnownWritten (moved_known r k)
known_moved r Unknown w = tt
known_moved r (Is (NLit n)) w = tt
known_moved r (Is e) w = written_renamed r e w
known_moved r (IsNot hs) w = tt

right_moved : (r : Renaming) (k : Known) → IsRightWritten k → IsRightWritten (moved_known r k)
right_moved r Unknown w = tt
right_moved r (Is e) w = written_renamed r e w
right_moved r (IsNot hs) w = tt

point_moved : (r : Renaming) (k : Point) → IsPointWritten k → IsPointWritten (moved_point r k)
point_moved r NoPoint w = tt
point_moved r (PointOf ps e) w = written_renamed (below_binders variables coercion_variables ps r) e w

first_known : (P : Known → Type 0) (k : Known) (f : ℕ → Known) → P k → ((i : ℕ) → P (f i)) → (i : ℕ) → P (known_before k f i)
first_known P k f p g zero = p
first_known P k f p g (suc i) = g i

first_point : (k : Point) (f : ℕ → Point) → IsPointWritten k → ((i : ℕ) → IsPointWritten (f i)) → (i : ℕ) → IsPointWritten (point_before k f i)
first_point k f p g zero = p
first_point k f p g (suc i) = g i

-- PARTS

pub apart_written : (s : Surroundings) → AreWritten s → AreWritten (apart s)
apart_written s g = record { locals = g.locals; rights = g.rights; names = g.names; points = λ i. tt }

pub head_written : (a : NArg) (s : Surroundings) → AreWritten s → AreWritten (at_head a s)
head_written a s g = record { locals = g.locals; rights = g.rights; names = g.names; points = λ i. tt }

value_written : (t : NTy) (s : Surroundings) → AreWritten s → AreWritten (behind_value t Unknown s)
value_written t s g = record {
  locals = first_known IsKnownWritten Unknown (λ i. moved_known past_a_value (s.locals i)) tt (λ i. known_moved past_a_value (s.locals i) (g.locals i));
  rights = first_known IsRightWritten Unknown (λ i. moved_known past_a_value (s.rights i)) tt (λ i. right_moved past_a_value (s.rights i) (g.rights i));
  names = λ n. known_moved past_a_value (s.names n) (g.names n);
  points = λ i. point_moved past_a_value (s.points i) (g.points i);
}

pub binder_written : (b : NBinder) (s : Surroundings) → AreWritten s → AreWritten (behind_binder b s)
binder_written (NBValue t) s g = value_written t s g
binder_written (NBType k) s g = record {
  locals = λ i. known_moved past_a_type (s.locals i) (g.locals i);
  rights = λ i. right_moved past_a_type (s.rights i) (g.rights i);
  names = λ n. known_moved past_a_type (s.names n) (g.names n);
  points = λ i. point_moved past_a_type (s.points i) (g.points i);
}
binder_written (NBCo r t u) s g = record {
  locals = λ i. known_moved past_a_coercion (s.locals i) (g.locals i);
  rights = λ i. right_moved past_a_coercion (s.rights i) (g.rights i);
  names = λ n. known_moved past_a_coercion (s.names n) (g.names n);
  points = λ i. point_moved past_a_coercion (s.points i) (g.points i);
}

pub binders_written : (bs : List NBinder) (s : Surroundings) → AreWritten s → AreWritten (behind_binders bs s)
binders_written [] s g = g
binders_written (b ∷ bs) s g = binders_written bs (behind_binder b s) (binder_written b s g)

-- BINDS

bind_known : (r : Bool) (n : ℕ) (e : NExpr) → IsWritten e → IsKnownWritten (if r then known_of e else moved_known (past_values n) (known_of e))
bind_known true n e w = bound_known e w
bind_known false n e w = known_moved (past_values n) (known_of e) (bound_known e w)

group_known : (r : Bool) (n : ℕ) (bs : NBinds) (f : ℕ → Known) → AreBindsWritten bs → ((i : ℕ) → IsKnownWritten (f i)) → (i : ℕ) → IsKnownWritten (known_in_group r n bs f i)
group_known r n NoNBinds f w g = g
group_known r n (MoreNBinds (NBound t e) rest) f w g =
    let k : Known = if r then known_of e else moved_known (past_values n) (known_of e) in
    group_known r n rest (known_before k f) w.1 (first_known IsKnownWritten k f (bind_known r n e w.0) g)

bind_right : (r : Bool) (n : ℕ) (e : NExpr) → IsWritten e → IsRightWritten (if r then Unknown else Is (renamed (past_values n) e))
bind_right true n e w = tt
bind_right false n e w = written_renamed (past_values n) e w

group_rights : (r : Bool) (n : ℕ) (bs : NBinds) (f : ℕ → Known) → AreBindsWritten bs → ((i : ℕ) → IsRightWritten (f i)) → (i : ℕ) → IsRightWritten (rights_in_group r n bs f i)
group_rights r n NoNBinds f w g = g
group_rights r n (MoreNBinds (NBound t e) rest) f w g =
    let k : Known = if r then Unknown else Is (renamed (past_values n) e) in
    group_rights r n rest (known_before k f) w.1 (first_known IsRightWritten k f (bind_right r n e w.0) g)

pub binds_written : (r : Bool) (bs : NBinds) (s : Surroundings) → AreWritten s → AreBindsWritten bs → AreWritten (behind_binds r bs s)
binds_written r bs s g w =
    let q = past_values (bind_count bs) in
    record {
      locals = group_known r (bind_count bs) bs (λ i. moved_known q (s.locals i)) w (λ i. known_moved q (s.locals i) (g.locals i));
      rights = group_rights r (bind_count bs) bs (λ i. moved_known q (s.rights i)) w (λ i. right_moved q (s.rights i) (g.rights i));
      names = λ n. known_moved q (s.names n) (g.names n);
      points = λ i. point_moved q (s.points i) (g.points i);
    }

pub right_sides_written : (r : Bool) (bs : NBinds) (s : Surroundings) → AreWritten s → AreBindsWritten bs → AreWritten (at_right_sides r bs s)
right_sides_written true bs s g w = apart_written (behind_binds true bs s) (binds_written true bs s g w)
right_sides_written false bs s g w = apart_written s g

-- JOIN POINTS

join_known : (r : Bool) (n : ℕ) (ps : List NBinder) (e : NExpr) → IsWritten e → IsPointWritten (if r then NoPoint else moved_point (past_joins n) (PointOf ps e))
join_known true n ps e w = tt
join_known false n ps e w = point_moved (past_joins n) (PointOf ps e) w

group_points : (r : Bool) (n : ℕ) (js : NJoins) (f : ℕ → Point) → AreJoinsWritten js → ((i : ℕ) → IsPointWritten (f i)) → (i : ℕ) → IsPointWritten (points_in_group r n js f i)
group_points r n NoNJoins f w g = g
group_points r n (MoreNJoins (NJoined ps e) rest) f w g =
    let k : Point = if r then NoPoint else moved_point (past_joins n) (PointOf ps e) in
    group_points r n rest (point_before k f) w.1 (first_point k f (join_known r n ps e w.0) g)

pub joins_written : (r : Bool) (t : NTy) (js : NJoins) (s : Surroundings) → AreWritten s → AreJoinsWritten js → AreWritten (behind_joins r t js s)
joins_written r t js s g w =
    let q = past_joins (join_count js) in
    record {
      locals = λ i. known_moved q (s.locals i) (g.locals i);
      rights = λ i. right_moved q (s.rights i) (g.rights i);
      names = λ n. known_moved q (s.names n) (g.names n);
      points = group_points r (join_count js) js (λ i. moved_point q (s.points i)) w (λ i. point_moved q (s.points i) (g.points i));
    }

pub join_sides_written : (r : Bool) (t : NTy) (js : NJoins) (s : Surroundings) → AreWritten s → AreJoinsWritten js → AreWritten (at_join_sides r t js s)
join_sides_written true t js s g w = joins_written true t js s g w
join_sides_written false t js s g w = record { locals = g.locals; rights = g.rights; names = g.names; points = g.points }

-- ALTERNATIVES

binders_as_written : (bs : List NBinder) → AreArgsWritten (as_arguments bs)
binders_as_written [] = tt
binders_as_written (NBValue t ∷ bs) = (tt, binders_as_written bs)
binders_as_written (NBType k ∷ bs) = (tt, binders_as_written bs)
binders_as_written (NBCo r t u ∷ bs) = (tt, binders_as_written bs)

types_before : (m : ℕ) (ts : List NTy) (rest : NArgs) → AreArgsWritten rest → AreArgsWritten (types_as_arguments m ts rest)
types_before m [] rest w = w
types_before m (t ∷ ts) rest w = (tt, types_before m ts rest w)

scrutinee_known : (t : NTy) (hs : List Head) (h : Head) (bs : List NBinder) → IsKnownWritten (known_in_alternative t hs h bs)
scrutinee_known t hs head.Default bs = tt
scrutinee_known t hs (head.Lit n) bs = tt
scrutinee_known t hs (head.Con n) bs = types_before (type_count bs) (type_arguments t) (as_arguments bs) (binders_as_written bs)

at_known : (i : ℕ) (k : Known) (f : ℕ → Known) → IsKnownWritten k → ((j : ℕ) → IsKnownWritten (f j)) → (j : ℕ) → IsKnownWritten (known_at i k f j)
at_known i k f w g j = either IsKnownWritten (nat_eq j i) k (f j) w (g j)

local_known : (e : NExpr) (m : ℕ) (k : Known) (f : ℕ → Known) → IsKnownWritten k → ((j : ℕ) → IsKnownWritten (f j)) → (j : ℕ) → IsKnownWritten (scrutinee_local e m k f j)
local_known (NLocal i) m k f w g = at_known (i + m) k f w g
local_known e m k f w g = g

name_known : (e : NExpr) (k : Known) (f : Name → Known) → IsKnownWritten k → ((n : Name) → IsKnownWritten (f n)) → (n : Name) → IsKnownWritten (scrutinee_name e k f n)
name_known (NVar n) k f w g m = either IsKnownWritten (same_name m n) k (f m) w (g m)
name_known e k f w g m = g m

pub alternative_written : (e : NExpr) (t : NTy) (hs : List Head) (h : Head) (bs : List NBinder) (s : Surroundings) → AreWritten s → AreWritten (in_alternative e t hs h bs s)
alternative_written e t hs h bs s g =
    let inner = behind_binders bs (behind_value t Unknown s) in
    let w = binders_written bs (behind_value t Unknown s) (value_written t s g) in
    let k = known_in_alternative t hs h bs in
    let known = scrutinee_known t hs h bs in
    record {
      locals = local_known e (suc (value_count bs)) k (known_at (value_count bs) k inner.locals) known (at_known (value_count bs) k inner.locals known w.locals);
      rights = w.rights;
      names = name_known e k inner.names known w.names;
      points = w.points;
    }

-- OUTSIDE OF ALL BINDERS

definition_known : (ds : List NDecl) (w : Word) → AreDeclsWritten ds → IsKnownWritten (known_definition ds w)
definition_known [] w g = tt
definition_known (NData n ps cs ∷ ds) w g = definition_known ds w g.1
definition_known (NNew n ps t con ∷ ds) w g = definition_known ds w g.1
definition_known (NFamily n ps k ∷ ds) w g = definition_known ds w g.1
definition_known (NAxiom n ps t u ∷ ds) w g = definition_known ds w g.1
definition_known (NDef n t e ∷ ds) w g = either IsKnownWritten (bytes_eq n w) (known_of e) (known_definition ds w) (bound_known e g.0) (definition_known ds w g.1)
definition_known (NWrap n t e ∷ ds) w g = either IsKnownWritten (bytes_eq n w) (known_of e) (known_definition ds w) (bound_known e g.0) (definition_known ds w g.1)

pub outside_written : (ms : Modules) → ((o : Option Word) → AreDeclsWritten (ms o)) → AreWritten (outside ms)
outside_written ms g = record { locals = λ i. tt; rights = λ i. tt; names = λ n. definition_known (ms n.module) n.text (g n.module); points = λ i. tt }
