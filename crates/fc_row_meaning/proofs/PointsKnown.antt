-- What surroundings say of join points is known at their place.
use Rattle.std.proofs.Common.{◌≡◌, ℕ, zero, suc, ◌+◌, true, List, [], ◌∷◌, sym, subst, arith}
use Rattle.fc_model.specs.Kinding.{Modules}
use Rattle.fc_model.specs.Nameless.{NBinder, NBValue, NBType, NBCo, NJoined, NJoins, NoNJoins, MoreNJoins, NExpr}
use Rattle.fc_model.specs.Replacing.{Renaming, past_a_coercion, past_a_join, past_a_type, past_a_value, bind_count, join_count}
use Rattle.fc_rows.specs.Surroundings.{Point, NoPoint, PointOf, Surroundings, Unknown, behind_binder, behind_binders, behind_value, moved_point, past_joins, past_values}
use Rattle.fc_rows.specs.Surroundings.{point_before, points_in_group}
use Rattle.fc_row_places.specs.NamelessFacts.{below_past_binders, moved_below, moved_params, params_past_binders, past_one, NKnowsJoin, join_below, join_here, join_past_alternative, join_past_group}
use Rattle.fc_row_places.specs.NamelessFacts.{join_past_join, join_past_joins, join_past_let, join_past_parameters}
use Rattle.fc_row_places.specs.NamelessPlaces.{NPlace, NBelow, NBelowAll, NPastLet, NPastGroup, NPastJoin, NPastJoins, NInAlt}
use Rattle.fc_row_meaning.specs.PlacedRows.{Around, around_all, around_alternative, around_apart, around_below, around_group, around_head, around_join, around_joins, around_let, around_parameters}
use Rattle.fc_row_meaning.specs.PlacedRows.{around_unapplied}
use Rattle.fc_row_meaning.proofs.PlacesChanged.{own_binders_of}
use Rattle.fc_row_meaning.proofs.Renamings.{one_join_past, one_value_past}
use Rattle.fc_row_meaning.proofs.ValuesKept.{shared_count}

-- what is known of join points, by distance
abbrev Joins : Type 1
Joins = ℕ → List NBinder → NExpr → Type 0

-- what is told of a join point is known of it
data PointTold (J : Joins) (i : ℕ) : Point → Type 0 where
  no_point_told : PointTold J i NoPoint
  point_told : {ps : List NBinder} {e : NExpr} → J i ps e → PointTold J i (PointOf ps e)

known_told : (J : Joins) (i : ℕ) (ps : List NBinder) (e : NExpr) → PointTold J i (PointOf ps e) → J i ps e
known_told J i ps e (point_told w) = w

-- MOVED

point_moved : (J L : Joins) (r : Renaming) (i j : ℕ) → ((ps : List NBinder) (e : NExpr) → J i ps e → L j (moved_params r ps) (moved_below r ps e)) → (k : Point) → PointTold J i k
    → PointTold L j (moved_point r k)
point_moved J L r i j go _ no_point_told = no_point_told
point_moved J L r i j go _ (point_told {ps = ps} {e = e} w) = point_told (go ps e w)

point_as : (J L : Joins) (i : ℕ) → ((ps : List NBinder) (e : NExpr) → J i ps e → L i ps e) → (k : Point) → PointTold J i k → PointTold L i k
point_as J L i go _ no_point_told = no_point_told
point_as J L i go _ (point_told {ps = ps} {e = e} w) = point_told (go ps e w)

-- BELOW BINDERS

points_below : (b : NBinder) (J L : Joins) → ((i : ℕ) (ps : List NBinder) (e : NExpr) → J i ps e → L i (moved_params (past_one b) ps) (moved_below (past_one b) ps e)) → (s : Surroundings)
    → ((i : ℕ) → PointTold J i (s.points i)) → (i : ℕ) → PointTold L i ((behind_binder b s).points i)
points_below (NBValue t) J L go s h i = point_moved J L past_a_value i i (go i) (s.points i) (h i)
points_below (NBType k) J L go s h i = point_moved J L past_a_type i i (go i) (s.points i) (h i)
points_below (NBCo r t u) J L go s h i = point_moved J L past_a_coercion i i (go i) (s.points i) (h i)

points_below_all : (bs : List NBinder) (J L : Joins) → ((i : ℕ) (ps : List NBinder) (e : NExpr) → J i ps e → L i (params_past_binders bs ps) (below_past_binders bs ps e)) → (s : Surroundings)
    → ((i : ℕ) → PointTold J i (s.points i)) → (i : ℕ) → PointTold L i ((behind_binders bs s).points i)
points_below_all [] J L go s h i = point_as J L i (go i) (s.points i) (h i)
points_below_all (b ∷ bs) J L go s h i =
    let M : Joins = λ i ps e. L i (params_past_binders bs ps) (below_past_binders bs ps e) in
    points_below_all bs M L (λ i ps e w. w) (behind_binder b s) (points_below b J M go s h) i

-- nothing is told of recursive ones, and of the others further out
points_beyond : (L : Joins) (n : ℕ) (js : NJoins) (f : ℕ → Point) → ((i : ℕ) → PointTold L (i + join_count js) (f i)) → (i : ℕ) → PointTold L i (points_in_group true n js f i)
points_beyond L n NoNJoins f h i = let e : i + 0 ≡ i = omega arith in subst (λ j. PointTold L j (f i)) e (h i)
points_beyond L n (MoreNJoins (NJoined ps d) js) f h i = points_beyond L n js (point_before NoPoint f) beyond i
  where
    beyond : (i : ℕ) → PointTold L (i + join_count js) (point_before NoPoint f i)
    beyond zero = no_point_told
    beyond (suc i) = let there : i + suc (join_count js) ≡ suc i + join_count js = omega arith in subst (λ j. PointTold L j (f i)) there (h i)

-- ALL PLACES

points_told : (ms : Modules) (s : Surroundings) (c : NPlace) → Around ms s c → (i : ℕ) → PointTold (NKnowsJoin c) i (s.points i)
points_told ms _ _ around_all i = no_point_told
points_told ms _ _ (around_apart a) i = no_point_told
points_told ms _ _ (around_head a) i = no_point_told
points_told ms _ _ (around_unapplied {s = s} {c = c} a) i = points_told ms s c a i
points_told ms _ _ (around_below {s = s} {c = c} {b = b} a) i = points_below b (NKnowsJoin c) (NKnowsJoin (NBelow b c)) (λ i ps e w. join_below ps e w) s (points_told ms s c a) i
points_told ms _ _ (around_parameters {s = s} {c = c} {ps = bs} a) i =
    points_below_all bs (NKnowsJoin c) (NKnowsJoin (NBelowAll bs c)) (λ i ps e w. join_past_parameters ps e w) s (points_told ms s c a) i
points_told ms _ _ (around_let {s = s} {c = c} {t = t} {a = d} w a) i =
    let L = NKnowsJoin (NPastLet t d d c) in
    subst (λ r. PointTold L i (moved_point r (s.points i))) (sym one_value_past) (point_moved (NKnowsJoin c) L past_a_value i i (λ ps e k. join_past_let ps e k) (s.points i) (points_told ms s c a i))
points_told ms _ _ (around_group {s = s} {c = c} {bs = bs} {cs = cs} w all a) i =
    point_moved (NKnowsJoin c) (NKnowsJoin (NPastGroup bs cs c)) (past_values (bind_count bs)) i i (λ ps e k. join_past_group ps e (shared_count all) k) (s.points i) (points_told ms s c a i)
points_told ms _ _ (around_join {c = c} t {ps = ps} {a = d} w a) zero =
    subst (λ r. PointTold (NKnowsJoin (NPastJoin ps d d c)) 0 (moved_point r (PointOf ps d))) (sym one_join_past) (point_told (join_here ps d w))
points_told ms _ _ (around_join {s = s} {c = c} t {ps = qs} {a = d} w a) (suc i) =
    let L = NKnowsJoin (NPastJoin qs d d c) in
    subst (λ r. PointTold L (suc i) (moved_point r (s.points i))) (sym one_join_past)
    (point_moved (NKnowsJoin c) L past_a_join i (suc i) (λ ps e k. join_past_join ps e k) (s.points i) (points_told ms s c a i))
points_told ms _ _ (around_joins {s = s} {c = c} t {js = js} {ks = ks} n a) i =
    let r = past_joins (join_count js) in
    let L = NKnowsJoin (NPastJoins js ks c) in
    points_beyond L (join_count js) js (λ j. moved_point r (s.points j))
    (λ j. point_moved (NKnowsJoin c) L r j (j + join_count js) (λ ps e k. join_past_joins ps e n k) (s.points j) (points_told ms s c a j)) i
points_told ms _ _ (around_alternative {s = s} {c = c} {e = e} {t = t} {alts = alts} {h = h} {bs = bs} w b a) i =
    let L = NKnowsJoin (NInAlt t e e alts h bs c) in
    let M : Joins = λ i ps d. L i (params_past_binders bs ps) (below_past_binders bs ps d) in
    points_below_all bs M L (λ i ps d k. k) (behind_value t Unknown s)
    (points_below (NBValue t) (NKnowsJoin c) M (λ i ps d k. join_past_alternative ps d (own_binders_of h bs b) k) s (points_told ms s c a)) i

pub points_known : (ms : Modules) (s : Surroundings) (c : NPlace) → Around ms s c → (i : ℕ) (ps : List NBinder) (e : NExpr) → s.points i ≡ PointOf ps e → NKnowsJoin c i ps e
points_known ms s c a i ps e h = known_told (NKnowsJoin c) i ps e (subst (PointTold (NKnowsJoin c) i) h (points_told ms s c a i))
