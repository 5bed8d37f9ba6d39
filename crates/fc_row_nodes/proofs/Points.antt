-- What is known of a join point counts at most as much past binders.
use Rattle.std.proofs.Common.{◌≡◌, ◌≤◌, ◌+◌, ℕ, suc, Bool, true, false, if◌then◌else◌, List, [], ◌∷◌, ap, ◌∙◌, arith}
use Rattle.fc_syntax.specs.declared.expr.Head.{Head}
use Rattle.fc_model.specs.Nameless.{NTy, NBinder, NBValue, NBType, NBCo, NJoined, NExpr, NJoins, NoNJoins, MoreNJoins}
use Rattle.fc_model.specs.Replacing.{Renaming, below_binders, coercion_variables, join_count, past_a_coercion, past_a_type, past_a_value, variables}
use Rattle.fc_rows.specs.Surroundings.{Point, NoPoint, PointOf, Surroundings, Unknown, at_join_sides, behind_binder, behind_binders, behind_joins, behind_value, in_alternative, moved_point, past_joins}
use Rattle.fc_rows.specs.Surroundings.{point_before, points_in_group}
use Rattle.fc_row_nodes.specs.Nodes.{counted_binders, nodes}
use Rattle.fc_row_nodes.proofs.Replaced.{renamed_nodes}
use Rattle.fc_row_nodes.proofs.Within.{binders_kept}

-- what the join point counts among others
abbrev pub weight : Point → ℕ
weight NoPoint = 0
weight (PointOf ps e) = (1 + counted_binders ps) + nodes e

pub moved_weight : (r : Renaming) (k : Point) → weight (moved_point r k) ≤ weight k
moved_weight r NoPoint = omega arith
moved_weight r (PointOf ps e) = omega (arith, binders_kept r.types ps, renamed_nodes (below_binders variables coercion_variables ps r) e)

binder_weight : (b : NBinder) (s : Surroundings) (j : ℕ) → weight ((behind_binder b s).points j) ≤ weight (s.points j)
binder_weight (NBValue t) s j = moved_weight past_a_value (s.points j)
binder_weight (NBType k) s j = moved_weight past_a_type (s.points j)
binder_weight (NBCo r t u) s j = moved_weight past_a_coercion (s.points j)

pub binders_weight : (bs : List NBinder) (s : Surroundings) (j : ℕ) → weight ((behind_binders bs s).points j) ≤ weight (s.points j)
binders_weight [] s j = omega arith
binders_weight (b ∷ bs) s j = omega (arith, binders_weight bs (behind_binder b s) j, binder_weight b s j)

pub alternative_weight : (e : NExpr) (t : NTy) (hs : List Head) (h : Head) (bs : List NBinder) (s : Surroundings) (j : ℕ) → weight ((in_alternative e t hs h bs s).points j) ≤ weight (s.points j)
alternative_weight e t hs h bs s j = omega (arith, binders_weight bs (behind_value t Unknown s) j, moved_weight past_a_value (s.points j))

-- past a group of join points
past_group : (r : Bool) (m : ℕ) (js : NJoins) (f : ℕ → Point) (i : ℕ) → points_in_group r m js f (i + join_count js) ≡ f i
past_group r m NoNJoins f i = ap f (let e : i + 0 ≡ i = omega arith in e)
past_group r m (MoreNJoins (NJoined ps e) rest) f i =
    let g = point_before (if r then NoPoint else moved_point (past_joins m) (PointOf ps e)) f in
    ap (points_in_group r m rest g) (let q : i + suc (join_count rest) ≡ suc i + join_count rest = omega arith in q) ∙ past_group r m rest g (suc i)

pub joins_weight : (r : Bool) (t : NTy) (js : NJoins) (s : Surroundings) (j : ℕ) → weight ((behind_joins r t js s).points (j + join_count js)) ≤ weight (s.points j)
joins_weight r t js s j =
    let past = past_joins (join_count js) in
    omega (arith, ap weight (past_group r (join_count js) js (λ i. moved_point past (s.points i)) j), moved_weight past (s.points j))

pub sides_weight : (r : Bool) (t : NTy) (js : NJoins) (s : Surroundings) (j : ℕ) → weight ((at_join_sides r t js s).points (if r then j + join_count js else j)) ≤ weight (s.points j)
sides_weight true t js s j = joins_weight true t js s j
sides_weight false t js s j = omega arith
