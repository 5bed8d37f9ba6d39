-- A join by what code finds: whether it is recursive, how many join points it has, and how often its body jumps there.
use Rattle.std.proofs.Common.{◌≡◌, ℕ, Bool, true, false, List, Some, None, refl, sym, ap, ◌∙◌}
use Rattle.fc_model.specs.Calling.{from_some}
use Rattle.fc_model.specs.Nameless.{NTy, NExpr, NJoins, NoNJoins, MoreNJoins, NJoin}
use Rattle.fc_model.specs.Replacing.{join_count}
use Rattle.fc_model.specs.Worded.{WExpr, bare_expr}
use Rattle.fc_parts.specs.PartsAt.{at_place}
use Rattle.fc_parts.proofs.RowsAtParts.{not_made}
use Rattle.fc_forms.specs.Forms.{joining_parts}
use Rattle.fc_forms.proofs.Parts.{joining_form}
use Rattle.fc_rows.specs.Occurrences.{innermost_joins, occurrences}
use Rattle.fc_rows.specs.Changing.{changed}
use Rattle.fc_rows.specs.ChangingCoercions.{as_they_are}
use Rattle.fc_rows.specs.Shrinking.{jump_place, occurs_once}
use Rattle.fc_jump_once.specs.Within.{jump_once_within}
use Rattle.fc_rows.specs.Surroundings.{Surroundings, behind_joins}
use Rattle.fc_row_at_place.specs.Joins.{with_one_jump, without_dead_join}
use Rattle.fc_row_at_place.specs.Rows.{join_once_within}

module _ (s : Surroundings) (e : NExpr) (p : Bool × NTy × NJoins × NExpr) (is : Some p ≡ joining_parts e) where
  -- not recursive, with one join point and one jump
  pub one_jump : p.0 ≡ false → join_count p.2 ≡ 1 → occurs_once (occurrences (innermost_joins 1) p.3) ≡ true → with_one_jump p.1 p.2 p.3 s ≡ join_once_within s e
  one_jump alone one once = here p.0 p.2 alone one ∙ sym (ap (join_once_within s) (joining_form e p is))
    where
      here : (r : Bool) (js : NJoins) → r ≡ false → join_count js ≡ 1 → with_one_jump p.1 js p.3 s ≡ join_once_within s (NJoin r p.1 js p.3)
      here true js alone one = cc
      here false NoNJoins alone one = cc
      here false (MoreNJoins j NoNJoins) alone one = rw once refl
      here false (MoreNJoins j (MoreNJoins k rest)) alone one = cc

  -- with another number of join points
  pub several : (join_count p.2 ≡ 1 → ⊥) → None ≡ join_once_within s e
  several many = here p.0 p.2 many ∙ sym (ap (join_once_within s) (joining_form e p is))
    where
      here : (r : Bool) (js : NJoins) → (join_count js ≡ 1 → ⊥) → None ≡ join_once_within s (NJoin r p.1 js p.3)
      here true js many = refl
      here false NoNJoins many = refl
      here false (MoreNJoins j NoNJoins) many = absurd (many refl)
      here false (MoreNJoins j (MoreNJoins k rest)) many = refl

-- a jump that is not taken
pub none_taken : (t : NTy) (js : NJoins) (b : WExpr) (s : Surroundings) (p : List ℕ) → jump_place 0 (bare_expr b) ≡ Some p → at_place jump_once_within p (behind_joins false t js s) (bare_expr b) ≡ None
    → None ≡ with_one_jump t js (bare_expr b) s
none_taken t js b s p at none =
    sym (ap (from_some (λ q. from_some without_dead_join (changed jump_once_within as_they_are (behind_joins false t js s) q (bare_expr b)))) at
    ∙ ap (from_some without_dead_join) (not_made jump_once_within (behind_joins false t js s) p b none))
