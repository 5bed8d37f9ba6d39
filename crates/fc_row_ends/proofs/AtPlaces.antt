-- What a row lowers at a place, it lowers in the whole.
use Rattle.std.proofs.Common.{◌≡◌, ◌≤◌, ◌+◌, ℕ, zero, suc, nat_eq, if◌then◌else◌, List, [], ◌∷◌, length, Option, Some, None, refl, sym, ap, ◌∙◌, arith, subst}
use Rattle.fc_syntax.specs.declared.expr.Head.{Head}
use Rattle.fc_model.specs.Nameless.{NTy, NArg, NATerm, NAType, NACo, NBound, NJoined, NBranch}
use Rattle.fc_model.specs.Nameless.{NExpr, NLocal, NVar, NLit, NApp, NLam, NLet, NCase, NCast, NCon, NPrim, NFail, NJoin, NJump}
use Rattle.fc_model.specs.Nameless.{NArgs, NoNArgs, MoreNArgs, NExprs, NoNExprs, MoreNExprs, NBinds, NoNBinds, MoreNBinds, NJoins, NoNJoins, MoreNJoins, NAlts, NoNAlts, MoreNAlts}
use Rattle.fc_model.specs.Replacing.{bind_count, join_count}
use Rattle.fc_rows.specs.Changing.{changed, changed_alts, changed_arg, changed_args, changed_binds, changed_exprs, changed_joins, in_part}
use Rattle.fc_rows.specs.ChangingCoercions.{as_they_are, changed_coercion}
use Rattle.fc_rows.specs.Surroundings.{Surroundings, apart, at_head, at_join_sides, at_right_sides, behind_binder, behind_binders, behind_binds, behind_joins, head_binds, in_alternative, listed_heads}
use Rattle.fc_row_nodes.proofs.Made.{either_way, if_some_inv, made_inv, none_some, part_inv}
use Rattle.fc_parts.proofs.Changes.{changes_none}
use Rattle.fc_row_ends.proofs.Drops.{Drops, at_the_head, drops_plain, in_a_cast}
use Rattle.fc_row_ends.proofs.Numbers.{Number, Level, further, applied, in_alts, in_arg, in_args, in_binds, in_exprs, in_field, in_fields, in_joins}

-- LISTS

record ArgDrops (n : Number) (c : ℕ) (a b : NArg) : Type 0 where
  is_applied : (l : Level n) → applied n l b + c ≤ applied n l a
  alone : (l : Level n) → in_arg n l b + c ≤ in_arg n l a
  field : (l : Level n) → in_field n l b + c ≤ in_field n l a

record ArgsDrop (n : Number) (c : ℕ) (args more : NArgs) : Type 0 where
  alone : (l : Level n) → in_args n l more + c ≤ in_args n l args
  fields : (l : Level n) → in_fields n l more + c ≤ in_fields n l args

abbrev ExprsDrop : NExprs → NExprs → Number → ℕ → Type 0
ExprsDrop es fs n c = (l : Level n) → in_exprs n l fs + c ≤ in_exprs n l es

abbrev BindsDrop : NBinds → NBinds → Number → ℕ → Type 0
BindsDrop bs cs n c = (l : Level n) → in_binds n l cs + c ≤ in_binds n l bs

abbrev JoinsDrop : NJoins → NJoins → Number → ℕ → Type 0
JoinsDrop js ks n c = (l : Level n) → in_joins n l ks + c ≤ in_joins n l js

abbrev AltsDrop : NAlts → NAlts → Number → ℕ → Type 0
AltsDrop alts blts n c = (l : Level n) → in_alts n l blts + c ≤ in_alts n l alts

-- EXPRESSIONS

-- somewhere the row makes something of a part, and what that lowers is lower in the whole
pub record Lifts (row : Surroundings → NExpr → Option NExpr) (V : Number → ℕ → Type 0) : Type 0 where
  pub at : Surroundings
  pub part : NExpr
  pub new : NExpr
  pub is : row at part ≡ Some new
  pub lifts : (n : Number) (c : ℕ) → Drops n c part new → V n c

module _ (row : Surroundings → NExpr → Option NExpr) where
  pub lifts_on : {V W : Number → ℕ → Type 0} → Lifts row V → ((n : Number) (c : ℕ) → V n c → W n c) → Lifts row W
  lifts_on v go = record { at = v.at; part = v.part; new = v.new; is = v.is; lifts = λ n c d. go n c (v.lifts n c d) }

  mutual
    pub change_lifts : (s : Surroundings) (p : List ℕ) (e f : NExpr) → changed row as_they_are s p e ≡ Some f → Lifts row (λ n c. Drops n c e f)
    change_lifts s [] e f h = record { at = s; part = e; new = f; is = h; lifts = λ n c d. d }
    change_lifts s (i ∷ p) (NLocal v) f h = none_some h
    change_lifts s (i ∷ p) (NVar n) f h = none_some h
    change_lifts s (i ∷ p) (NLit n) f h = none_some h
    change_lifts s (zero ∷ p) (NApp e a) f h =
        let m = made_inv (λ g. NApp g a) (changed row as_they_are (at_head a s) p e) f h in
        lifts_on (change_lifts (at_head a s) p e m.0 m.1) (λ n c d. subst (Drops n c (NApp e a)) m.2 (at_the_head n c e m.0 a d))
    change_lifts s (suc zero ∷ p) (NApp e (NATerm a)) f h =
        let m = made_inv (λ b. NApp e b) (changed_arg row as_they_are (apart s) p (NATerm a)) f h in
        lifts_on (arg_lifts (apart s) p (NATerm a) m.0 m.1) (λ n c d. subst (Drops n c (NApp e (NATerm a))) m.2 (drops_plain n c _ _ refl refl (λ l. omega (arith, d.is_applied (further n l)))))
    change_lifts s (suc zero ∷ p) (NApp e (NAType t)) f h = none_some h
    change_lifts s (suc zero ∷ p) (NApp e (NACo g)) f h =
        let m = made_inv (λ b. NApp e b) (changed_arg row as_they_are (apart s) p (NACo g)) f h in
        lifts_on (arg_lifts (apart s) p (NACo g) m.0 m.1) (λ n c d. subst (Drops n c (NApp e (NACo g))) m.2 (drops_plain n c _ _ refl refl (λ l. omega (arith, d.is_applied (further n l)))))
    change_lifts s (suc (suc i) ∷ p) (NApp e a) f h = none_some h
    change_lifts s (zero ∷ p) (NLam b e) f h = none_some h
    change_lifts s (suc zero ∷ p) (NLam b e) f h =
        let m = made_inv (λ g. NLam b g) (changed row as_they_are (behind_binder b (apart s)) p e) f h in
        lifts_on (change_lifts (behind_binder b (apart s)) p e m.0 m.1) (λ n c d. subst (Drops n c (NLam b e)) m.2 (drops_plain n c _ _ refl refl (λ l. omega (arith, d.whole l))))
    change_lifts s (suc (suc i) ∷ p) (NLam b e) f h = none_some h
    change_lifts s (i ∷ p) (NLet r bs e) f h =
        either_way (λ x. Lifts row (λ n c. Drops n c (NLet r bs e) x)) (nat_eq i (bind_count bs)) _ _ f h
        (λ k.
        let m = made_inv (λ g. NLet r bs g) (changed row as_they_are (behind_binds r bs s) p e) f k in
        lifts_on (change_lifts (behind_binds r bs s) p e m.0 m.1) (λ n c d. subst (Drops n c (NLet r bs e)) m.2 (drops_plain n c _ _ refl refl (λ l. omega (arith, d.whole l)))))
        (λ k.
        let m = made_inv (λ cs. NLet r cs e) (changed_binds row as_they_are (at_right_sides r bs s) i p bs) f k in
        lifts_on (binds_lift (at_right_sides r bs s) i p bs m.0 m.1) (λ n c d. subst (Drops n c (NLet r bs e)) m.2 (drops_plain n c _ _ refl refl (λ l. omega (arith, d (further n l))))))
    change_lifts s (zero ∷ p) (NCase e t u alts) f h =
        let m = made_inv (λ g. NCase g t u alts) (changed row as_they_are (apart s) p e) f h in
        lifts_on (change_lifts (apart s) p e m.0 m.1) (λ n c d. subst (Drops n c (NCase e t u alts)) m.2 (drops_plain n c _ _ refl refl (λ l. omega (arith, d.whole (further n l)))))
    change_lifts s (suc zero ∷ p) (NCase e t u alts) f h = none_some h
    change_lifts s (suc (suc zero) ∷ p) (NCase e t u alts) f h = none_some h
    change_lifts s (suc (suc (suc i)) ∷ p) (NCase e t u alts) f h =
        let m = made_inv (λ bs. NCase e t u bs) (changed_alts row as_they_are s e t (listed_heads alts) i p alts) f h in
        lifts_on (alts_lift s e t (listed_heads alts) i p alts m.0 m.1)
        (λ n c d. subst (Drops n c (NCase e t u alts)) m.2 (drops_plain n c _ _ refl refl (λ l. omega (arith, d (further n l)))))
    change_lifts s (zero ∷ p) (NCast e g) f h =
        let m = made_inv (λ x. NCast x g) (changed row as_they_are (apart s) p e) f h in
        lifts_on (change_lifts (apart s) p e m.0 m.1) (λ n c d. subst (Drops n c (NCast e g)) m.2 (in_a_cast n c e m.0 g d))
    change_lifts s (suc zero ∷ p) (NCast e g) f h =
        let m = made_inv (λ x. NCast e x) (changed_coercion as_they_are s.context.kinds s.context.coercions p g) f h in
        none_some (sym (changes_none s.context.kinds s.context.coercions p g) ∙ m.1)
    change_lifts s (suc (suc i) ∷ p) (NCast e g) f h = none_some h
    change_lifts s (i ∷ p) (NCon k args) f h =
        let m = made_inv (λ more. NCon k more) (changed_args row as_they_are (apart s) i p args) f h in
        lifts_on (args_lift (apart s) i p args m.0 m.1) (λ n c d. subst (Drops n c (NCon k args)) m.2 (drops_plain n c _ _ refl refl (λ l. omega (arith, d.fields l))))
    change_lifts s (i ∷ p) (NPrim op es) f h =
        let m = made_inv (λ more. NPrim op more) (changed_exprs row as_they_are (apart s) i p es) f h in
        lifts_on (exprs_lift (apart s) i p es m.0 m.1) (λ n c d. subst (Drops n c (NPrim op es)) m.2 (drops_plain n c _ _ refl refl (λ l. omega (arith, d l))))
    change_lifts s (i ∷ p) (NFail t) f h = none_some h
    change_lifts s (zero ∷ p) (NJoin r t js e) f h = none_some h
    change_lifts s (suc i ∷ p) (NJoin r t js e) f h =
        either_way (λ x. Lifts row (λ n c. Drops n c (NJoin r t js e) x)) (nat_eq i (join_count js)) _ _ f h
        (λ k.
        let m = made_inv (λ g. NJoin r t js g) (changed row as_they_are (behind_joins r t js s) p e) f k in
        lifts_on (change_lifts (behind_joins r t js s) p e m.0 m.1) (λ n c d. subst (Drops n c (NJoin r t js e)) m.2 (drops_plain n c _ _ refl refl (λ l. omega (arith, d.whole l)))))
        (λ k.
        let m = made_inv (λ ks. NJoin r t ks e) (changed_joins row as_they_are (at_join_sides r t js s) i p js) f k in
        lifts_on (joins_lift (at_join_sides r t js s) i p js m.0 m.1) (λ n c d. subst (Drops n c (NJoin r t js e)) m.2 (drops_plain n c _ _ refl refl (λ l. omega (arith, d l)))))
    change_lifts s (i ∷ p) (NJump j args) f h =
        let m = made_inv (λ more. NJump j more) (changed_args row as_they_are (apart s) i p args) f h in
        lifts_on (args_lift (apart s) i p args m.0 m.1) (λ n c d. subst (Drops n c (NJump j args)) m.2 (drops_plain n c _ _ refl refl (λ l. omega (arith, d.alone l))))

    arg_lifts : (s : Surroundings) (p : List ℕ) (a b : NArg) → changed_arg row as_they_are s p a ≡ Some b → Lifts row (λ n c. ArgDrops n c a b)
    arg_lifts s p (NATerm e) b h =
        let m = made_inv NATerm (changed row as_they_are s p e) b h in
        lifts_on (change_lifts s p e m.0 m.1) (λ n c d. subst (ArgDrops n c (NATerm e)) m.2 (record {
          is_applied = λ l. omega (arith, d.whole l);
          alone = λ l. omega (arith, d.whole l);
          field = λ l. omega (arith, d.field l);
        }))
    arg_lifts s p (NAType t) b h = none_some h
    arg_lifts s p (NACo g) b h =
        let m = made_inv NACo (changed_coercion as_they_are s.context.kinds s.context.coercions p g) b h in
        none_some (sym (changes_none s.context.kinds s.context.coercions p g) ∙ m.1)

    args_lift : (s : Surroundings) (i : ℕ) (p : List ℕ) (args more : NArgs) → changed_args row as_they_are s i p args ≡ Some more → Lifts row (λ n c. ArgsDrop n c args more)
    args_lift s i p NoNArgs more h = none_some h
    args_lift s zero p (MoreNArgs a rest) more h =
        let m = made_inv (λ b. MoreNArgs b rest) (changed_arg row as_they_are s p a) more h in
        lifts_on (arg_lifts s p a m.0 m.1)
        (λ n c d. subst (ArgsDrop n c (MoreNArgs a rest)) m.2 (record { alone = λ l. omega (arith, d.alone l); fields = λ l. omega (arith, d.field l) }))
    args_lift s (suc i) p (MoreNArgs a rest) more h =
        let m = made_inv (λ others. MoreNArgs a others) (changed_args row as_they_are s i p rest) more h in
        lifts_on (args_lift s i p rest m.0 m.1)
        (λ n c d. subst (ArgsDrop n c (MoreNArgs a rest)) m.2 (record { alone = λ l. omega (arith, d.alone l); fields = λ l. omega (arith, d.fields l) }))

    exprs_lift : (s : Surroundings) (i : ℕ) (p : List ℕ) (es more : NExprs) → changed_exprs row as_they_are s i p es ≡ Some more → Lifts row (ExprsDrop es more)
    exprs_lift s i p NoNExprs more h = none_some h
    exprs_lift s zero p (MoreNExprs e rest) more h =
        let m = made_inv (λ f. MoreNExprs f rest) (changed row as_they_are s p e) more h in
        lifts_on (change_lifts s p e m.0 m.1) (λ n c d l. omega (arith, ap (in_exprs n l) m.2, d.whole l))
    exprs_lift s (suc i) p (MoreNExprs e rest) more h =
        let m = made_inv (λ others. MoreNExprs e others) (changed_exprs row as_they_are s i p rest) more h in
        lifts_on (exprs_lift s i p rest m.0 m.1) (λ n c d l. omega (arith, ap (in_exprs n l) m.2, d l))

    binds_lift : (s : Surroundings) (i : ℕ) (p : List ℕ) (bs cs : NBinds) → changed_binds row as_they_are s i p bs ≡ Some cs → Lifts row (BindsDrop bs cs)
    binds_lift s i p NoNBinds cs h = none_some h
    binds_lift s zero p (MoreNBinds (NBound t e) rest) cs h =
        let m = made_inv (λ f. MoreNBinds (NBound t f) rest) (in_part 1 p (λ q. changed row as_they_are s q e)) cs h in
        let q = part_inv 1 p (λ q. changed row as_they_are s q e) m.0 m.1 in
        lifts_on (change_lifts s q.0 e m.0 q.1) (λ n c d l. omega (arith, ap (in_binds n l) m.2, d.whole l))
    binds_lift s (suc i) p (MoreNBinds b rest) cs h =
        let m = made_inv (λ others. MoreNBinds b others) (changed_binds row as_they_are s i p rest) cs h in
        lifts_on (binds_lift s i p rest m.0 m.1) (λ n c d l. omega (arith, ap (in_binds n l) m.2, d l))

    joins_lift : (s : Surroundings) (i : ℕ) (p : List ℕ) (js ks : NJoins) → changed_joins row as_they_are s i p js ≡ Some ks → Lifts row (JoinsDrop js ks)
    joins_lift s i p NoNJoins ks h = none_some h
    joins_lift s zero p (MoreNJoins (NJoined ps e) rest) ks h =
        let m = made_inv (λ f. MoreNJoins (NJoined ps f) rest) (in_part (length ps) p (λ q. changed row as_they_are (behind_binders ps s) q e)) ks h in
        let q = part_inv (length ps) p (λ q. changed row as_they_are (behind_binders ps s) q e) m.0 m.1 in
        lifts_on (change_lifts (behind_binders ps s) q.0 e m.0 q.1) (λ n c d l. omega (arith, ap (in_joins n l) m.2, d.whole l))
    joins_lift s (suc i) p (MoreNJoins j rest) ks h =
        let m = made_inv (λ others. MoreNJoins j others) (changed_joins row as_they_are s i p rest) ks h in
        lifts_on (joins_lift s i p rest m.0 m.1) (λ n c d l. omega (arith, ap (in_joins n l) m.2, d l))

    alts_lift : (s : Surroundings) (e : NExpr) (t : NTy) (hs : List Head) (i : ℕ) (p : List ℕ) (alts blts : NAlts) → changed_alts row as_they_are s e t hs i p alts ≡ Some blts
        → Lifts row (AltsDrop alts blts)
    alts_lift s e t hs i p NoNAlts blts h = none_some h
    alts_lift s e t hs zero p (MoreNAlts (NBranch k bs b) rest) blts h =
        let within = in_part (length bs) p (λ q. changed row as_they_are (in_alternative e t hs k bs s) q b) in
        let m = made_inv (λ c. MoreNAlts (NBranch k bs c) rest) (if head_binds k bs then within else None) blts h in
        let n = if_some_inv (head_binds k bs) within m.0 m.1 in
        let q = part_inv (length bs) p (λ q. changed row as_they_are (in_alternative e t hs k bs s) q b) m.0 n.1 in
        lifts_on (change_lifts (in_alternative e t hs k bs s) q.0 b m.0 q.1) (λ n c d l. omega (arith, ap (in_alts n l) m.2, d.whole l))
    alts_lift s e t hs (suc i) p (MoreNAlts a rest) blts h =
        let m = made_inv (λ others. MoreNAlts a others) (changed_alts row as_they_are s e t hs i p rest) blts h in
        lifts_on (alts_lift s e t hs i p rest m.0 m.1) (λ n c d l. omega (arith, ap (in_alts n l) m.2, d l))
