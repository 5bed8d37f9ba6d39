-- What is known of a join point behind binders, in a group of join points and in an alternative.
use Rattle.std.proofs.Common.{◌≡◌, ℕ, ◌+◌, ◌-◌, ◌<◌, ◌≤◌, Bool, true, false, if◌then◌else◌, List, ◌∷◌, length, get_or, refl, sym, ap, ◌∙◌, arith}
use Rattle.fc_syntax.specs.declared.expr.JoinBind as RustJoin
use Rattle.fc_syntax.specs.declared.ty.Ref.{Ref}
use Rattle.fc_model.specs.Nameless.{NTy, NBinder, NBValue, NBType, NBCo}
use Rattle.fc_model.specs.NamelessView.{nbinders_of, nexpr_of, njoins_of, nty_of}
use Rattle.fc_model.specs.Replacing.{join_count}
use Rattle.fc_rows.specs.Surroundings.{Point, NoPoint, PointOf, Surroundings, behind_binder, behind_binders, behind_joins, moved_point, past_joins, point_before, points_in_group}
use Rattle.fc_subst.specs.Replacements.{renaming_of}
use Rattle.fc_subst.specs.declared.shift.Shift.{Shift}
use Rattle.fc_known.specs.Around.{behind_alternative}
use Rattle.fc_known.specs.Counts.{counts}
use Rattle.fc_known.specs.declared.around.Branch.{Branch}
use Rattle.fc_known.proofs.Behind.{one_more, with_case_binder}
use Rattle.fc_known.proofs.Listed.{Listed, past_all, read_of_all}
use Rattle.fc_known.proofs.Moved.{joins_alone, looked_from_outside, past_joins_alone, past_one, past_points, point_moves}

-- BINDERS

point_past : (d : ℕ) (b : NBinder) (s : Surroundings) → (behind_binder b s).points d ≡ past_one point_moves b (s.points d)
point_past d (NBValue t) s = refl
point_past d (NBType u) s = refl
point_past d (NBCo r t u) s = refl

pub point_from_outside : (own : Shift) (bs : List NBinder) (s : Surroundings) (d : ℕ) (k : Point) → own ≡ counts bs → k ≡ s.points d → moved_point (renaming_of own) k ≡ (behind_binders bs s).points d
point_from_outside own bs s d k is known = looked_from_outside point_moves (λ u. u.points d) (point_past d) own bs s k is known

pub point_outside_alternative : (l : Branch) (s : Surroundings) (d v : ℕ) (k : Point) → l.own ≡ counts (nbinders_of l.alternative.now.binders) → v ≡ l.own.values + 1 → k ≡ s.points d
    → moved_point (renaming_of (one_more l.own v)) k ≡ (behind_alternative l s).points d
point_outside_alternative l s d v k counted more known =
    let bs = nbinders_of l.alternative.now.binders in
    point_from_outside (one_more l.own v) (NBValue (nty_of l.ty.now) ∷ bs) s d k (with_case_binder l.own (nty_of l.ty.now) bs v counted more) known

-- JOIN POINTS

module _ (r : Bool) (m : ℕ) where
  abbrev bound : RustJoin.JoinBind ℕ Ref → Point
  bound j = PointOf (nbinders_of j.params) (nexpr_of j.rhs)

  points : Listed (λ j. if r then NoPoint else moved_point (past_joins m) (bound j)) (λ js. points_in_group r m (njoins_of js))
  points = record { before = point_before; first = λ k f. refl; others = λ k f i. refl; none = λ f i. refl; more = λ j js f i. refl }

  -- the one that code reads at a distance, where the group is recursive or not
  module _ (js : List (RustJoin.JoinBind ℕ Ref)) (f : ℕ → Point) (d : ℕ) (j : RustJoin.JoinBind ℕ Ref) (many : m ≡ length js) (near : d < m) (read : j ≡ get_or js (m - 1 - d) j) where
    one_of_group : points_in_group r m (njoins_of js) f d ≡ (if r then NoPoint else moved_point (past_joins m) (bound j))
    one_of_group = read_of_all points js f m d j many near read

    pub of_recursive : r ≡ true → NoPoint ≡ points_in_group r m (njoins_of js) f d
    of_recursive is = ap (λ b. if b then NoPoint else moved_point (past_joins m) (bound j)) (sym is) ∙ sym one_of_group

    pub of_other : (p : Shift) → r ≡ false → p ≡ joins_alone m → moved_point (renaming_of p) (bound j) ≡ points_in_group r m (njoins_of js) f d
    of_other p is past =
        ap (λ q. moved_point (renaming_of q) (bound j)) past ∙ past_joins_alone point_moves m (bound j) ∙ ap (λ b. if b then NoPoint else moved_point (past_joins m) (bound j)) (sym is) ∙ sym one_of_group

pub point_outside_group : (r : Bool) (t : NTy) (js : List (RustJoin.JoinBind ℕ Ref)) (s : Surroundings) (n d : ℕ) (k : Point) → n ≡ length js → n ≤ d → k ≡ s.points (d - n)
    → moved_point (renaming_of (joins_alone n)) k ≡ (behind_joins r t (njoins_of js) s).points d
point_outside_group r t js s n d k many far known =
    let count = join_count (njoins_of js) in
    let here : (d - n) + length js ≡ d = omega (arith, far, many) in
    past_points point_moves js n k (s.points (d - n)) many known ∙ sym (past_all (points r count) js (λ i. moved_point (past_joins count) (s.points i)) (d - n)) ∙ ap (behind_joins r t (njoins_of js) s).points here
