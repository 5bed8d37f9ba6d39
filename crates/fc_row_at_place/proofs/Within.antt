-- What is asked within a let and within join points, by the number of the part.
use Rattle.std.proofs.Common.{◌≡◌, ℕ, ◌-◌, ◌<◌, ◌≤◌, Bool, true, false, nat_eq, nat_lt, List, ◌∷◌, Option, refl, ◌∙◌, arith}
use Rattle.std.proofs.lemmas.Bool.Decides.{nat_tests}
use Rattle.fc_model.specs.Nameless.{NExpr, NTy, NBinds, NJoins, NLet, NJoin}
use Rattle.fc_model.specs.Replacing.{bind_count, join_count}
use Rattle.fc_parts.specs.PartsAt.{at_place, at_place_of_bind, at_place_of_join, of_bind, of_join}
use Rattle.fc_parts.proofs.PartRules.{place_cons}
use Rattle.fc_rows.specs.Surroundings.{Surroundings, at_join_sides, at_right_sides, behind_binds, behind_joins}

same : (i n : ℕ) → i ≡ n → nat_eq i n ≡ true
same i n is = grind (arith, nat_tests, is)

other : (i n : ℕ) → i < n → nat_eq i n ≡ false
other i n less = grind (arith, nat_tests, less)

past : (i n : ℕ) → n < i → nat_eq i n ≡ false
past i n more = grind (arith, nat_tests, more)

pub not_below : (i n : ℕ) → n ≤ i → nat_lt i n ≡ false
not_below i n more = grind (arith, nat_tests, more)

module _ {X : Type 0} (ask : Surroundings → NExpr → Option X) (i : ℕ) (p : List ℕ) (s : Surroundings) (r : Bool) where
  pub in_let_body : (bs : NBinds) (e : NExpr) → i ≡ bind_count bs → at_place ask (i ∷ p) s (NLet r bs e) ≡ at_place ask p (behind_binds r bs s) e
  in_let_body bs e is = place_cons ask i p s (NLet r bs e) ∙ rw (same i (bind_count bs) is) refl

  pub in_right_side : (bs : NBinds) (e : NExpr) → i < bind_count bs → at_place ask (i ∷ p) s (NLet r bs e) ≡ of_bind i (at_place_of_bind ask p (at_right_sides r bs s)) bs
  in_right_side bs e less = place_cons ask i p s (NLet r bs e) ∙ rw (other i (bind_count bs) less) refl

  pub in_join_body : (t : NTy) (js : NJoins) (e : NExpr) → 0 < i → i - 1 ≡ join_count js → at_place ask (i ∷ p) s (NJoin r t js e) ≡ at_place ask p (behind_joins r t js s) e
  in_join_body t js e more is = place_cons ask i p s (NJoin r t js e) ∙ rw (past i 0 more, same (i - 1) (join_count js) is) refl

  pub in_join_side : (t : NTy) (js : NJoins) (e : NExpr) → 0 < i → i - 1 < join_count js → at_place ask (i ∷ p) s (NJoin r t js e) ≡ of_join (i - 1) (at_place_of_join ask p (at_join_sides r t js s)) js
  in_join_side t js e more less = place_cons ask i p s (NJoin r t js e) ∙ rw (past i 0 more, other (i - 1) (join_count js) less) refl
