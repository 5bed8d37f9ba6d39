-- A jump as the right side of its join point adds at most what the join point counts, and then the join goes.
use Rattle.std.proofs.Common.{◌≡◌, ◌≤◌, ◌<◌, ◌+◌, ◌&&◌, ℕ, suc, Bool, false, nat_eq, if◌then◌else◌, List, [], ◌∷◌, length, Option, Some, None, Result, Ok, Err, sym, ap, ◌∙◌, arith, subst, ◌⊎◌, inl, inr}
use Rattle.std.proofs.lemmas.Bool.Decides.{nat_tests}
use Rattle.fc_syntax.specs.declared.expr.Head.{Head}
use Rattle.fc_model.specs.Faulting.{F, at_distance}
use Rattle.fc_model.specs.Nameless.{NTy, NJoined, NBranch, NExpr, NLocal, NVar, NLit, NApp, NLam, NLet, NCase, NCast, NCon, NPrim, NFail, NJoin, NJump}
use Rattle.fc_model.specs.Nameless.{NArgs, NJoins, NoNJoins, MoreNJoins, NAlts, NoNAlts, MoreNAlts}
use Rattle.fc_model.specs.Replacing.{below_binders, bind_count, coercion_variables, join_count, renamed, replaced, unchanged, variables, with_arguments}
use Rattle.fc_model.specs.Typing.{JoinPoint}
use Rattle.fc_model.proofs.Sameness.{nat_eq_eq, nat_eq_refl}
use Rattle.fc_rows.specs.Changing.{changed, changed_alts, changed_joins, made}
use Rattle.fc_rows.specs.ChangingCoercions.{as_they_are}
use Rattle.fc_rows.specs.Occurrences.{innermost_joins, is_dead, occurrences}
use Rattle.fc_rows.specs.Shrinking.{before_joins, behind_lets, is_case_or_join, is_jump, join_dead, jump_made, jump_once, jump_place, jump_place_in_alts, jump_place_in_joins, jump_taken, named_arguments}
use Rattle.fc_rows.specs.Shrinking.{pair_with, term_count}
use Rattle.fc_rows.specs.Surroundings.{Point, NoPoint, PointOf, Surroundings, at_join_sides, behind_binders, behind_binds, behind_joins, head_binds, in_alternative, listed_heads, past_values}
use Rattle.fc_row_nodes.specs.Nodes.{alts_nodes, args_nodes, joins_nodes, nodes}
use Rattle.fc_row_nodes.proofs.Lets.{lets_nodes, named_light, pair_counted}
use Rattle.fc_row_nodes.proofs.Made.{else_some_inv, first_of_inv, if_some_inv, made_inv, none_some, some_some}
use Rattle.fc_row_nodes.proofs.Points.{alternative_weight, binders_weight, joins_weight, moved_weight, sides_weight, weight}
use Rattle.fc_row_nodes.proofs.Replaced.{arguments_light, light_nodes, renamed_nodes, unchanged_light}

-- ONE JUMP

taken_nodes : (k : Point) (t : NTy) (args : NArgs) (f : NExpr) → jump_taken k t args ≡ Some f → nodes f ≤ (1 + args_nodes args) + weight k
taken_nodes NoPoint t args f h = none_some h
taken_nodes (PointOf ps d) t args f h =
    let r = below_binders variables coercion_variables ps (past_values (term_count args)) in
    let put = with_arguments (named_arguments args) unchanged in
    let body = replaced put (renamed r d) in
    let m = if_some_inv (pair_with ps args) (behind_lets 0 t args body) f h in
    let least = light_nodes put (arguments_light (named_arguments args) unchanged (named_light args) unchanged_light) (renamed r d) in
    omega (arith, lets_nodes 0 t args body f m.1, pair_counted ps args m.0, least, renamed_nodes r d)

made_nodes : (r : Result JoinPoint F) (k : Point) (args : NArgs) (f : NExpr) → jump_made r k args ≡ Some f → nodes f ≤ (1 + args_nodes args) + weight k
made_nodes (Ok j) k args f h = taken_nodes k j.type args f h
made_nodes (Err x) k args f h = none_some h

-- what is left of a dead join is its body
pub join_dead_nodes : (t : NTy) (js : NJoins) (b f : NExpr) → join_dead (NJoin false t js b) ≡ Some f → nodes f ≤ nodes b
join_dead_nodes t js b f h =
    let go = before_joins (join_count js) in
    let m = if_some_inv (is_dead (occurrences (innermost_joins (join_count js)) b)) (Some (renamed go b)) f h in
    omega (arith, ap nodes (some_some m.1), renamed_nodes go b)

-- THE PLACE OF A JUMP

-- the part of a list of alternatives, the first of which is part i, that a place is in, and what a change there adds at most
record InAlternatives (s : Surroundings) (e : NExpr) (t : NTy) (hs : List Head) (i w : ℕ) (p : List ℕ) (alts : NAlts) : Type 0 where
  part : ℕ
  number : ℕ
  place : List ℕ
  is : part ∷ place ≡ p
  counted : part ≡ i + number
  bound : (blts : NAlts) → changed_alts jump_once as_they_are s e t hs number place alts ≡ Some blts → alts_nodes blts ≤ alts_nodes alts + w

-- and of a list of join points
record InJoins (s : Surroundings) (i w : ℕ) (p : List ℕ) (js : NJoins) : Type 0 where
  part : ℕ
  number : ℕ
  place : List ℕ
  is : part ∷ place ≡ p
  counted : part ≡ i + number
  below : number < join_count js
  bound : (ks : NJoins) → changed_joins jump_once as_they_are s number place js ≡ Some ks → joins_nodes ks ≤ joins_nodes js + w

same_part : {X : Type 0} (n : ℕ) (o q : Option X) (x : X) → (if nat_eq n n then o else q) ≡ Some x → o ≡ Some x
same_part n o q x h = subst (λ b. (if b then o else q) ≡ Some x) (nat_eq_refl n) h

other_number : (i n : ℕ) → i < n → nat_eq i n ≡ false
other_number i n low = grind (arith, nat_tests)

other_part : {X : Type 0} (i n : ℕ) (o q : Option X) (x : X) → i < n → (if nat_eq i n then o else q) ≡ Some x → q ≡ Some x
other_part i n o q x low h = subst (λ b. (if b then o else q) ≡ Some x) (other_number i n low) h

-- a place in a join point of a group or in the body
joined : (w j k : ℕ) (s : Surroundings) (r : Bool) (t : NTy) (js : NJoins) (e : NExpr) (p : List ℕ) (f : NExpr) → changed jump_once as_they_are s p (NJoin r t js e) ≡ Some f
    → (jump_place_in_joins k 1 js ≡ Some p) ⊎ (made (λ x. suc (join_count js) ∷ x) (jump_place j e) ≡ Some p)
    → (jump_place_in_joins k 1 js ≡ Some p → InJoins (at_join_sides r t js s) 1 w p js)
    → ((x : List ℕ) (d : NExpr) → jump_place j e ≡ Some x → changed jump_once as_they_are (behind_joins r t js s) x e ≡ Some d → nodes d ≤ nodes e + w)
    → nodes f ≤ nodes (NJoin r t js e) + w
joined w j k s r t js e p f h (inl x) sides body =
    let a = sides x in
    let number : a.part ≡ suc a.number = omega (arith, a.counted) in
    let here = subst (λ y. changed jump_once as_they_are s y (NJoin r t js e) ≡ Some f) (sym a.is ∙ ap (λ n. n ∷ a.place) number) h in
    let c = made_inv (λ ks. NJoin r t ks e) (changed_joins jump_once as_they_are (at_join_sides r t js s) a.number a.place js) f (other_part a.number (join_count js) _ _ f a.below here) in
    omega (arith, ap nodes c.2, a.bound c.0 c.1)
joined w j k s r t js e p f h (inr y) sides body =
    let m = made_inv (λ x. suc (join_count js) ∷ x) (jump_place j e) p y in
    let here = subst (λ x. changed jump_once as_they_are s x (NJoin r t js e) ≡ Some f) (sym m.2) h in
    let c = made_inv (λ d. NJoin r t js d) (changed jump_once as_they_are (behind_joins r t js s) m.0 e) f (same_part (join_count js) _ _ f here) in
    omega (arith, ap nodes c.2, body m.0 c.0 m.1 c.1)

mutual
  pub jump_within : (w j : ℕ) (s : Surroundings) → weight (s.points j) ≤ w → (p : List ℕ) (e f : NExpr) → jump_place j e ≡ Some p → changed jump_once as_they_are s p e ≡ Some f → nodes f ≤ nodes e + w
  jump_within w j s low p (NLocal i) f q h = none_some q
  jump_within w j s low p (NVar n) f q h = none_some q
  jump_within w j s low p (NLit n) f q h = none_some q
  jump_within w j s low p (NApp e a) f q h = none_some q
  jump_within w j s low p (NLam b e) f q h = none_some q
  jump_within w j s low p (NLet r bs e) f q h =
      let n = bind_count bs in
      let m = made_inv (λ x. n ∷ x) (jump_place j e) p q in
      let here = subst (λ x. changed jump_once as_they_are s x (NLet r bs e) ≡ Some f) (sym m.2) h in
      let c = made_inv (λ x. NLet r bs x) (changed jump_once as_they_are (behind_binds r bs s) m.0 e) f (same_part n _ _ f here) in
      omega (arith, ap nodes c.2, jump_within w j (behind_binds r bs s) (omega (arith, low, moved_weight (past_values n) (s.points j))) m.0 e c.0 m.1 c.1)
  jump_within w j s low p (NCase e t u alts) f q h =
      let hs = listed_heads alts in
      let a = alternatives_within w j s low e t hs (is_case_or_join e) 3 p alts q in
      let number : a.part ≡ suc (suc (suc a.number)) = omega (arith, a.counted) in
      let here = subst (λ x. changed jump_once as_they_are s x (NCase e t u alts) ≡ Some f) (sym a.is ∙ ap (λ n. n ∷ a.place) number) h in
      let c = made_inv (λ x. NCase e t u x) (changed_alts jump_once as_they_are s e t hs a.number a.place alts) f here in
      omega (arith, ap nodes c.2, a.bound c.0 c.1)
  jump_within w j s low p (NCast e g) f q h = none_some q
  jump_within w j s low p (NCon n args) f q h = none_some q
  jump_within w j s low p (NPrim op es) f q h = none_some q
  jump_within w j s low p (NFail t) f q h = none_some q
  jump_within w j s low p (NJoin r t js e) f q h =
      let n = join_count js in
      let into = behind_joins r t js s in
      let sides = at_join_sides r t js s in
      let i = if r then j + n else j in
      joined w (j + n) i s r t js e p f h
      (first_of_inv (jump_place_in_joins i 1 js) (made (λ x. suc n ∷ x) (jump_place (j + n) e)) p q)
      (λ x. sides_within w i sides (omega (arith, low, sides_weight r t js s j)) 1 p js x)
      (λ x d y. jump_within w (j + n) into (omega (arith, low, joins_weight r t js s j)) x e d y)
  jump_within w j s low p (NJump i args) f q h =
      let m = if_some_inv (nat_eq i j) (Some []) p q in
      let here = subst (λ x. changed jump_once as_they_are s x (NJump i args) ≡ Some f) (sym (some_some m.1)) h in
      omega (arith, low, made_nodes (at_distance s.context.joins i) (s.points i) args f here, ap (λ x. weight (s.points x)) (nat_eq_eq i j m.0))

  sides_within : (w j : ℕ) (s : Surroundings) → weight (s.points j) ≤ w → (i : ℕ) (p : List ℕ) (js : NJoins) → jump_place_in_joins j i js ≡ Some p → InJoins s i w p js
  sides_within w j s low i p NoNJoins q = none_some q
  sides_within w j s low i p (MoreNJoins (NJoined ps e) rest) q = elim (first_of_inv (made (λ x. i ∷ length ps ∷ x) (jump_place j e)) (jump_place_in_joins j (suc i) rest) p q) [
    | inl x ↦
        let m = made_inv (λ x. i ∷ length ps ∷ x) (jump_place j e) p x in
        record {
          part = i;
          number = 0;
          place = length ps ∷ m.0;
          is = m.2;
          counted = omega arith;
          below = omega arith;
          bound = λ ks h.
              let inner = changed jump_once as_they_are (behind_binders ps s) m.0 e in
              let c = made_inv (λ d. MoreNJoins (NJoined ps d) rest) (if nat_eq (length ps) (length ps) then inner else None) ks h in
              let d = if_some_inv (nat_eq (length ps) (length ps)) inner c.0 c.1 in
              omega (arith, ap joins_nodes c.2, jump_within w j (behind_binders ps s) (omega (arith, low, binders_weight ps s j)) m.0 e c.0 m.1 d.1);
        }
    | inr y ↦
        let a = sides_within w j s low (suc i) p rest y in
        record {
          part = a.part;
          number = suc a.number;
          place = a.place;
          is = a.is;
          counted = omega (arith, a.counted);
          below = omega (arith, a.below);
          bound = λ ks h.
              let c = made_inv (λ more. MoreNJoins (NJoined ps e) more) (changed_joins jump_once as_they_are s a.number a.place rest) ks h in
              omega (arith, ap joins_nodes c.2, a.bound c.0 c.1);
        }
  ]

  alternatives_within : (w j : ℕ) (s : Surroundings) → weight (s.points j) ≤ w → (e : NExpr) (t : NTy) (hs : List Head) (held : Bool) (i : ℕ) (p : List ℕ) (alts : NAlts)
      → jump_place_in_alts j held i alts ≡ Some p → InAlternatives s e t hs i w p alts
  alternatives_within w j s low e t hs held i p NoNAlts q = none_some q
  alternatives_within w j s low e t hs held i p (MoreNAlts (NBranch k bs b) rest) q =
      elim (first_of_inv (if held && is_jump b then None else made (λ x. i ∷ length bs ∷ x) (jump_place j b)) (jump_place_in_alts j held (suc i) rest) p q) [
        | inl x ↦
            let m = made_inv (λ x. i ∷ length bs ∷ x) (jump_place j b) p (else_some_inv (held && is_jump b) _ p x) in
            record {
              part = i;
              number = 0;
              place = length bs ∷ m.0;
              is = m.2;
              counted = omega arith;
              bound = λ blts h.
                  let into = in_alternative e t hs k bs s in
                  let inner = changed jump_once as_they_are into m.0 b in
                  let found = if nat_eq (length bs) (length bs) then inner else None in
                  let c = made_inv (λ d. MoreNAlts (NBranch k bs d) rest) (if head_binds k bs then found else None) blts h in
                  let d = if_some_inv (nat_eq (length bs) (length bs)) inner c.0 (if_some_inv (head_binds k bs) found c.0 c.1).1 in
                  omega (arith, ap alts_nodes c.2, jump_within w j into (omega (arith, low, alternative_weight e t hs k bs s j)) m.0 b c.0 m.1 d.1);
            }
        | inr y ↦
            let a = alternatives_within w j s low e t hs held (suc i) p rest y in
            record {
              part = a.part;
              number = suc a.number;
              place = a.place;
              is = a.is;
              counted = omega (arith, a.counted);
              bound = λ blts h.
                  let c = made_inv (λ more. MoreNAlts (NBranch k bs b) more) (changed_alts jump_once as_they_are s e t hs a.number a.place rest) blts h in
                  omega (arith, ap alts_nodes c.2, a.bound c.0 c.1);
            }
      ]
