-- A formed part in place of another keeps the whole formed.
use Rattle.std.proofs.Common.{ℕ, zero, suc, Bool, true, false, nat_eq, List, [], ◌∷◌, length, IfSome}
use Rattle.fc_syntax.specs.declared.expr.Head.{Head}
use Rattle.fc_model.specs.Nameless.{NTy, NExpr, NLocal, NVar, NLit, NApp, NLam, NLet, NCase, NCast, NCon, NPrim, NFail, NJoin, NJump, NArg, NATerm, NAType, NACo, NBind, NBound}
use Rattle.fc_model.specs.Nameless.{NJoinBind, NJoined, NBranch, NExprs, NoNExprs, MoreNExprs, NArgs, NoNArgs, MoreNArgs, NBinds, NoNBinds, MoreNBinds, NJoins, NoNJoins, MoreNJoins}
use Rattle.fc_model.specs.Nameless.{NAlts, NoNAlts, MoreNAlts}
use Rattle.fc_model.specs.Replacing.{bind_count, join_count}
use Rattle.fc_rows.specs.Changing.{changed, changed_alts, changed_arg, changed_args, changed_binds, changed_exprs, changed_joins, in_part, made}
use Rattle.fc_rows.specs.ChangingCoercions.{changed_coercion}
use Rattle.fc_rows.specs.Surroundings.{Surroundings, apart, at_head, at_join_sides, at_right_sides, behind_binder, behind_binders, behind_binds, behind_joins, head_binds, in_alternative}
use Rattle.fc_rows.specs.Surroundings.{listed_heads}
use Rattle.fc_row_types.specs.TypesKept.{CoercionRow, ExpressionRow}
use Rattle.fc_formed.specs.FormedTrees.{IsFormedTy, IsFormedCo, IsFormedGroup, IsFormedJoinGroup, IsFormedExpr, IsFormedArg, AreFormedArgs, AreFormedExprs, AreFormedBinds}
use Rattle.fc_formed.specs.FormedTrees.{AreFormedJoins, AreFormedAlts}
use Rattle.fc_rows_formed.proofs.Answered.{either, if_both, if_in_part, if_made, if_some, made_is}
use Rattle.fc_rows_formed.proofs.CoercionChangesFormed.{KeepsCoercionsFormed, coercion_changed}
use Rattle.fc_rows_formed.proofs.SurroundingsFormed.{AreFormed, alternative_formed, apart_formed, at_head_formed, behind_binder_formed, behind_binders_formed, behind_binds_formed}
use Rattle.fc_rows_formed.proofs.SurroundingsFormed.{behind_joins_formed, join_sides_formed, right_sides_formed}

-- a row keeps what it replaces formed, where what the surroundings say is
abbrev pub KeepsFormed : ExpressionRow → Type 0
KeepsFormed row = (s : Surroundings) → AreFormed s → (e : NExpr) → IsFormedExpr e → IfSome (row s e) IsFormedExpr

-- GROUPS

bound_before : (b : NBind) (bs : NBinds) → IsFormedGroup true (MoreNBinds b bs)
bound_before b NoNBinds = tt
bound_before b (MoreNBinds c rest) = tt

joined_before : (j : NJoinBind) (js : NJoins) → IsFormedJoinGroup true (MoreNJoins j js)
joined_before j NoNJoins = tt
joined_before j (MoreNJoins k rest) = tt

-- a group keeps its number of binders
module _ (row : ExpressionRow) (co : CoercionRow) where
  group_kept : (r : Bool) (s : Surroundings) (i : ℕ) (p : List ℕ) (bs : NBinds) → IsFormedGroup r bs → IfSome (changed_binds row co s i p bs) (IsFormedGroup r)
  group_kept r s i p NoNBinds w = absurd w
  group_kept true s zero p (MoreNBinds (NBound t e) rest) w =
      made_is (IsFormedGroup true) (λ f. MoreNBinds (NBound t f) rest) (in_part 1 p (λ q. changed row co s q e)) (λ f. bound_before (NBound t f) rest)
  group_kept true s (suc i) p (MoreNBinds b rest) w = made_is (IsFormedGroup true) (λ more. MoreNBinds b more) (changed_binds row co s i p rest) (bound_before b)
  group_kept false s zero p (MoreNBinds (NBound t e) NoNBinds) w =
      made_is (IsFormedGroup false) (λ f. MoreNBinds (NBound t f) NoNBinds) (in_part 1 p (λ q. changed row co s q e)) (λ f. tt)
  group_kept false s (suc i) p (MoreNBinds b NoNBinds) w = tt
  group_kept false s i p (MoreNBinds b (MoreNBinds c rest)) w = absurd w

  join_group_kept : (r : Bool) (s : Surroundings) (i : ℕ) (p : List ℕ) (js : NJoins) → IsFormedJoinGroup r js → IfSome (changed_joins row co s i p js) (IsFormedJoinGroup r)
  join_group_kept r s i p NoNJoins w = absurd w
  join_group_kept true s zero p (MoreNJoins (NJoined ps e) rest) w =
      made_is (IsFormedJoinGroup true) (λ f. MoreNJoins (NJoined ps f) rest) (in_part (length ps) p (λ q. changed row co (behind_binders ps s) q e)) (λ f. joined_before (NJoined ps f) rest)
  join_group_kept true s (suc i) p (MoreNJoins j rest) w = made_is (IsFormedJoinGroup true) (λ more. MoreNJoins j more) (changed_joins row co s i p rest) (joined_before j)
  join_group_kept false s zero p (MoreNJoins (NJoined ps e) NoNJoins) w =
      made_is (IsFormedJoinGroup false) (λ f. MoreNJoins (NJoined ps f) NoNJoins) (in_part (length ps) p (λ q. changed row co (behind_binders ps s) q e)) (λ f. tt)
  join_group_kept false s (suc i) p (MoreNJoins j NoNJoins) w = tt
  join_group_kept false s i p (MoreNJoins j (MoreNJoins k rest)) w = absurd w

-- EXPRESSIONS

module _ (row : ExpressionRow) (keeps : KeepsFormed row) (co : CoercionRow) (proofs : KeepsCoercionsFormed co) where
  abbrev IsGroup : Bool → NBinds → Type 0
  IsGroup r bs = IsFormedGroup r bs × AreFormedBinds bs

  abbrev IsJoinGroup : Bool → NJoins → Type 0
  IsJoinGroup r js = IsFormedJoinGroup r js × AreFormedJoins js

  mutual
    pub change_formed : (s : Surroundings) → AreFormed s → (p : List ℕ) (e : NExpr) → IsFormedExpr e → IfSome (changed row co s p e) IsFormedExpr
    change_formed s g [] e w = keeps s g e w
    change_formed s g (i ∷ p) (NLocal v) w = tt
    change_formed s g (i ∷ p) (NVar n) w = tt
    change_formed s g (i ∷ p) (NLit n) w = tt
    change_formed s g (zero ∷ p) (NApp f a) w = if_made IsFormedExpr IsFormedExpr (λ d. NApp d a) _ (change_formed (at_head a s) (at_head_formed a s g) p f w.0) (λ d v. (v, w.1))
    change_formed s g (suc zero ∷ p) (NApp f a) w = if_made IsFormedArg IsFormedExpr (λ b. NApp f b) _ (argument_changed (apart s) (apart_formed s g) p a w.1) (λ b v. (w.0, v))
    change_formed s g (suc (suc i) ∷ p) (NApp f a) w = tt
    change_formed s g (zero ∷ p) (NLam b e) w = tt
    change_formed s g (suc zero ∷ p) (NLam b e) w =
        if_made IsFormedExpr IsFormedExpr (λ d. NLam b d) _ (change_formed (behind_binder b (apart s)) (behind_binder_formed b (apart s) w.0 (apart_formed s g)) p e w.1) (λ d v. (w.0, v))
    change_formed s g (suc (suc i) ∷ p) (NLam b e) w = tt
    change_formed s g (i ∷ p) (NLet r bs e) w =
        let sides = binds_changed (at_right_sides r bs s) (right_sides_formed r bs s w.1 g) i p bs w.1 in
        let group = group_kept row co r (at_right_sides r bs s) i p bs w.0 in
        either (λ o. IfSome o IsFormedExpr) (nat_eq i (bind_count bs)) (made (λ d. NLet r bs d) (changed row co (behind_binds r bs s) p e))
        (made (λ cs. NLet r cs e) (changed_binds row co (at_right_sides r bs s) i p bs))
        (if_made IsFormedExpr IsFormedExpr (λ d. NLet r bs d) _ (change_formed (behind_binds r bs s) (behind_binds_formed r bs s w.1 g) p e w.2) (λ d v. (w.0, w.1, v)))
        (if_made (IsGroup r) IsFormedExpr (λ cs. NLet r cs e) _
        (if_both (IsFormedGroup r) AreFormedBinds (changed_binds row co (at_right_sides r bs s) i p bs) group sides) (λ cs v. (v.0, v.1, w.2)))
    change_formed s g (zero ∷ p) (NCase e t u alts) w =
        if_made IsFormedExpr IsFormedExpr (λ d. NCase d t u alts) _ (change_formed (apart s) (apart_formed s g) p e w.0) (λ d v. (v, w.1, w.2, w.3))
    change_formed s g (suc zero ∷ p) (NCase e t u alts) w = tt
    change_formed s g (suc (suc zero) ∷ p) (NCase e t u alts) w = tt
    change_formed s g (suc (suc (suc i)) ∷ p) (NCase e t u alts) w =
        if_made AreFormedAlts IsFormedExpr (λ blts. NCase e t u blts) _ (alternatives_changed s g e t (listed_heads alts) w.1 i p alts w.3) (λ blts v. (w.0, w.1, w.2, v))
    change_formed s g (zero ∷ p) (NCast e q) w = if_made IsFormedExpr IsFormedExpr (λ d. NCast d q) _ (change_formed (apart s) (apart_formed s g) p e w.0) (λ d v. (v, w.1))
    change_formed s g (suc zero ∷ p) (NCast e q) w =
        if_made IsFormedCo IsFormedExpr (λ d. NCast e d) _ (coercion_changed co proofs s.context.kinds s.context.coercions p q w.1) (λ d v. (w.0, v))
    change_formed s g (suc (suc i) ∷ p) (NCast e q) w = tt
    change_formed s g (i ∷ p) (NCon n args) w = if_made AreFormedArgs IsFormedExpr (λ more. NCon n more) _ (arguments_changed (apart s) (apart_formed s g) i p args w.1) (λ more v. (w.0, v))
    change_formed s g (i ∷ p) (NPrim op es) w = if_made AreFormedExprs IsFormedExpr (λ fs. NPrim op fs) _ (operands_changed (apart s) (apart_formed s g) i p es w) (λ more v. v)
    change_formed s g (i ∷ p) (NFail t) w = tt
    change_formed s g (zero ∷ p) (NJoin r t js e) w = tt
    change_formed s g (suc i ∷ p) (NJoin r t js e) w =
        let sides = joins_changed (at_join_sides r t js s) (join_sides_formed r t js s w.1 w.2 g) i p js w.2 in
        let group = join_group_kept row co r (at_join_sides r t js s) i p js w.0 in
        either (λ o. IfSome o IsFormedExpr) (nat_eq i (join_count js)) (made (λ d. NJoin r t js d) (changed row co (behind_joins r t js s) p e))
        (made (λ ks. NJoin r t ks e) (changed_joins row co (at_join_sides r t js s) i p js))
        (if_made IsFormedExpr IsFormedExpr (λ d. NJoin r t js d) _ (change_formed (behind_joins r t js s) (behind_joins_formed r t js s w.1 w.2 g) p e w.3) (λ d v. (w.0, w.1, w.2, v)))
        (if_made (IsJoinGroup r) IsFormedExpr (λ ks. NJoin r t ks e) _
        (if_both (IsFormedJoinGroup r) AreFormedJoins (changed_joins row co (at_join_sides r t js s) i p js) group sides) (λ ks v. (v.0, w.1, v.1, w.3)))
    change_formed s g (i ∷ p) (NJump j args) w = if_made AreFormedArgs IsFormedExpr (λ more. NJump j more) _ (arguments_changed (apart s) (apart_formed s g) i p args w) (λ more v. v)

    argument_changed : (s : Surroundings) → AreFormed s → (p : List ℕ) (a : NArg) → IsFormedArg a → IfSome (changed_arg row co s p a) IsFormedArg
    argument_changed s g p (NATerm e) w = if_made IsFormedExpr IsFormedArg NATerm (changed row co s p e) (change_formed s g p e w) (λ d v. v)
    argument_changed s g p (NAType t) w = tt
    argument_changed s g p (NACo q) w =
        if_made IsFormedCo IsFormedArg NACo (changed_coercion co s.context.kinds s.context.coercions p q) (coercion_changed co proofs s.context.kinds s.context.coercions p q w) (λ d v. v)

    arguments_changed : (s : Surroundings) → AreFormed s → (i : ℕ) (p : List ℕ) (args : NArgs) → AreFormedArgs args → IfSome (changed_args row co s i p args) AreFormedArgs
    arguments_changed s g i p NoNArgs w = tt
    arguments_changed s g zero p (MoreNArgs a rest) w = if_made IsFormedArg AreFormedArgs (λ b. MoreNArgs b rest) _ (argument_changed s g p a w.0) (λ b v. (v, w.1))
    arguments_changed s g (suc i) p (MoreNArgs a rest) w = if_made AreFormedArgs AreFormedArgs (λ more. MoreNArgs a more) _ (arguments_changed s g i p rest w.1) (λ more v. (w.0, v))

    operands_changed : (s : Surroundings) → AreFormed s → (i : ℕ) (p : List ℕ) (es : NExprs) → AreFormedExprs es → IfSome (changed_exprs row co s i p es) AreFormedExprs
    operands_changed s g i p NoNExprs w = tt
    operands_changed s g zero p (MoreNExprs e rest) w = if_made IsFormedExpr AreFormedExprs (λ f. MoreNExprs f rest) _ (change_formed s g p e w.0) (λ f v. (v, w.1))
    operands_changed s g (suc i) p (MoreNExprs e rest) w = if_made AreFormedExprs AreFormedExprs (λ more. MoreNExprs e more) _ (operands_changed s g i p rest w.1) (λ more v. (w.0, v))

    binds_changed : (s : Surroundings) → AreFormed s → (i : ℕ) (p : List ℕ) (bs : NBinds) → AreFormedBinds bs → IfSome (changed_binds row co s i p bs) AreFormedBinds
    binds_changed s g i p NoNBinds w = tt
    binds_changed s g zero p (MoreNBinds (NBound t e) rest) w =
        if_made IsFormedExpr AreFormedBinds (λ f. MoreNBinds (NBound t f) rest) _
        (if_in_part IsFormedExpr 1 p (λ q. changed row co s q e) (λ q. change_formed s g q e w.0.1)) (λ f v. ((w.0.0, v), w.1))
    binds_changed s g (suc i) p (MoreNBinds (NBound t e) rest) w =
        if_made AreFormedBinds AreFormedBinds (λ more. MoreNBinds (NBound t e) more) _ (binds_changed s g i p rest w.1) (λ more v. (w.0, v))

    joins_changed : (s : Surroundings) → AreFormed s → (i : ℕ) (p : List ℕ) (js : NJoins) → AreFormedJoins js → IfSome (changed_joins row co s i p js) AreFormedJoins
    joins_changed s g i p NoNJoins w = tt
    joins_changed s g zero p (MoreNJoins (NJoined ps e) rest) w =
        if_made IsFormedExpr AreFormedJoins (λ f. MoreNJoins (NJoined ps f) rest) _
        (if_in_part IsFormedExpr (length ps) p (λ q. changed row co (behind_binders ps s) q e) (λ q. change_formed (behind_binders ps s) (behind_binders_formed ps s w.0.0 g) q e w.0.1))
        (λ f v. ((w.0.0, v), w.1))
    joins_changed s g (suc i) p (MoreNJoins (NJoined ps e) rest) w =
        if_made AreFormedJoins AreFormedJoins (λ more. MoreNJoins (NJoined ps e) more) _ (joins_changed s g i p rest w.1) (λ more v. (w.0, v))

    -- alternatives of a case whose binder is of type t
    alternatives_changed : (s : Surroundings) → AreFormed s → (e : NExpr) (t : NTy) (hs : List Head) → IsFormedTy t → (i : ℕ) (p : List ℕ) (alts : NAlts) → AreFormedAlts alts
        → IfSome (changed_alts row co s e t hs i p alts) AreFormedAlts
    alternatives_changed s g e t hs v i p NoNAlts w = tt
    alternatives_changed s g e t hs v zero p (MoreNAlts (NBranch h bs b) rest) w =
        let inner = in_alternative e t hs h bs s in
        let around = alternative_formed e t hs h bs s v w.0.0 g in
        if_made IsFormedExpr AreFormedAlts (λ c. MoreNAlts (NBranch h bs c) rest) _
        (if_some IsFormedExpr (head_binds h bs) _ (if_in_part IsFormedExpr (length bs) p (λ q. changed row co inner q b) (λ q. change_formed inner around q b w.0.1)))
        (λ c u. ((w.0.0, u), w.1))
    alternatives_changed s g e t hs v (suc i) p (MoreNAlts (NBranch h bs b) rest) w =
        if_made AreFormedAlts AreFormedAlts (λ more. MoreNAlts (NBranch h bs b) more) _ (alternatives_changed s g e t hs v i p rest w.1) (λ more u. (w.0, u))
