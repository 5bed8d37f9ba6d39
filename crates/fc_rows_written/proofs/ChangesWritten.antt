-- A written part in place of another keeps the whole written.
use Rattle.std.proofs.Common.{◌≡◌, ℕ, zero, suc, Bool, true, false, nat_eq, if◌then◌else◌, List, [], ◌∷◌, length, Some, None, subst}
use Rattle.fc_syntax.specs.declared.expr.Head.{Head}
use Rattle.fc_model.specs.Nameless.{NTy, NArg, NATerm, NAType, NACo, NBound, NJoined, NBranch, NExpr, NLocal, NVar, NLit, NApp, NLam, NLet, NCase, NCast, NCon, NPrim, NFail, NJoin, NJump}
use Rattle.fc_model.specs.Nameless.{NArgs, NoNArgs, MoreNArgs, NExprs, NoNExprs, MoreNExprs, NBinds, NoNBinds, MoreNBinds, NJoins, NoNJoins, MoreNJoins, NAlts, NoNAlts, MoreNAlts}
use Rattle.fc_model.specs.Replacing.{bind_count, join_count}
use Rattle.fc_rows.specs.Changing.{changed, changed_alts, changed_arg, changed_args, changed_binds, changed_exprs, changed_joins, in_part}
use Rattle.fc_rows.specs.ChangingCoercions.{changed_coercion}
use Rattle.fc_rows.specs.Surroundings.{Surroundings, apart, at_head, at_join_sides, at_right_sides, behind_binder, behind_binders, behind_binds, behind_joins, head_binds, in_alternative}
use Rattle.fc_rows.specs.Surroundings.{listed_heads}
use Rattle.fc_row_types.specs.TypesKept.{CoercionRow, ExpressionRow}
use Rattle.fc_row_types.proofs.Made.{either_way, if_some_inv, made_inv, none_some, part_inv}
use Rattle.fc_meaning.proofs.WrittenExpressions.{AreAltsWritten, AreArgsWritten, AreBindsWritten, AreExprsWritten, AreJoinsWritten, IsArgWritten, IsBindGroup, IsJoinGroup, IsWritten}
use Rattle.fc_rows_written.proofs.SurroundingsWritten.{AreWritten, alternative_written, apart_written, binder_written, binders_written, binds_written, head_written, join_sides_written}
use Rattle.fc_rows_written.proofs.SurroundingsWritten.{joins_written, right_sides_written}

-- a row keeps what it replaces written, where what the surroundings say is
abbrev pub KeepsWritten : ExpressionRow → Type 0
KeepsWritten row = (s : Surroundings) → AreWritten s → (e f : NExpr) → row s e ≡ Some f → IsWritten e → IsWritten f

module _ (row : ExpressionRow) (co : CoercionRow) where
  -- a group keeps its number of binders
  bind_group_kept : (r : Bool) (s : Surroundings) (i : ℕ) (p : List ℕ) (bs cs : NBinds) → changed_binds row co s i p bs ≡ Some cs → IsBindGroup r bs → IsBindGroup r cs
  bind_group_kept true s i p bs cs h g = tt
  bind_group_kept false s i p NoNBinds cs h g = absurd g
  bind_group_kept false s zero p (MoreNBinds (NBound t e) NoNBinds) cs h g =
      let m = made_inv (λ f. MoreNBinds (NBound t f) NoNBinds) (in_part 1 p (λ q. changed row co s q e)) cs h in subst (IsBindGroup false) m.2 tt
  bind_group_kept false s (suc i) p (MoreNBinds b NoNBinds) cs h g = none_some (made_inv (λ more. MoreNBinds b more) (changed_binds row co s i p NoNBinds) cs h).1
  bind_group_kept false s i p (MoreNBinds b (MoreNBinds c rest)) cs h g = absurd g

  join_group_kept : (r : Bool) (s : Surroundings) (i : ℕ) (p : List ℕ) (js ks : NJoins) → changed_joins row co s i p js ≡ Some ks → IsJoinGroup r js → IsJoinGroup r ks
  join_group_kept true s i p js ks h g = tt
  join_group_kept false s i p NoNJoins ks h g = absurd g
  join_group_kept false s zero p (MoreNJoins (NJoined ps e) NoNJoins) ks h g =
      let m = made_inv (λ f. MoreNJoins (NJoined ps f) NoNJoins) (in_part (length ps) p (λ q. changed row co (behind_binders ps s) q e)) ks h in subst (IsJoinGroup false) m.2 tt
  join_group_kept false s (suc i) p (MoreNJoins j NoNJoins) ks h g = none_some (made_inv (λ more. MoreNJoins j more) (changed_joins row co s i p NoNJoins) ks h).1
  join_group_kept false s i p (MoreNJoins j (MoreNJoins k rest)) ks h g = absurd g

module _ (row : ExpressionRow) (keeps : KeepsWritten row) (co : CoercionRow) where
  mutual
    pub change_written : (s : Surroundings) → AreWritten s → (p : List ℕ) (e f : NExpr) → changed row co s p e ≡ Some f → IsWritten e → IsWritten f
    change_written s g [] e f h w = keeps s g e f h w
    change_written s g (i ∷ p) (NLocal v) f h w = none_some h
    change_written s g (i ∷ p) (NVar n) f h w = none_some h
    change_written s g (i ∷ p) (NLit n) f h w = none_some h
    change_written s g (zero ∷ p) (NApp e a) f h w =
        let m = made_inv (λ d. NApp d a) (changed row co (at_head a s) p e) f h in
        subst IsWritten m.2 (change_written (at_head a s) (head_written a s g) p e m.0 m.1 w.0, w.1)
    change_written s g (suc zero ∷ p) (NApp e a) f h w =
        let m = made_inv (λ b. NApp e b) (changed_arg row co (apart s) p a) f h in
        subst IsWritten m.2 (w.0, arg_written (apart s) (apart_written s g) p a m.0 m.1 w.1)
    change_written s g (suc (suc i) ∷ p) (NApp e a) f h w = none_some h
    change_written s g (zero ∷ p) (NLam b e) f h w = none_some h
    change_written s g (suc zero ∷ p) (NLam b e) f h w =
        let m = made_inv (λ d. NLam b d) (changed row co (behind_binder b (apart s)) p e) f h in
        subst IsWritten m.2 (change_written (behind_binder b (apart s)) (binder_written b (apart s) (apart_written s g)) p e m.0 m.1 w)
    change_written s g (suc (suc i) ∷ p) (NLam b e) f h w = none_some h
    change_written s g (i ∷ p) (NLet r bs e) f h w =
        either_way IsWritten (nat_eq i (bind_count bs)) _ _ f h
        (λ k.
        let m = made_inv (λ d. NLet r bs d) (changed row co (behind_binds r bs s) p e) f k in
        subst IsWritten m.2 (w.0, w.1, change_written (behind_binds r bs s) (binds_written r bs s g w.1) p e m.0 m.1 w.2))
        (λ k.
        let m = made_inv (λ cs. NLet r cs e) (changed_binds row co (at_right_sides r bs s) i p bs) f k in
        let sides = rights_written (at_right_sides r bs s) (right_sides_written r bs s g w.1) i p bs m.0 m.1 w.1 in
        subst IsWritten m.2 (bind_group_kept row co r (at_right_sides r bs s) i p bs m.0 m.1 w.0, sides, w.2))
    change_written s g (zero ∷ p) (NCase e t u alts) f h w =
        let m = made_inv (λ d. NCase d t u alts) (changed row co (apart s) p e) f h in
        subst IsWritten m.2 (change_written (apart s) (apart_written s g) p e m.0 m.1 w.0, w.1)
    change_written s g (suc zero ∷ p) (NCase e t u alts) f h w = none_some h
    change_written s g (suc (suc zero) ∷ p) (NCase e t u alts) f h w = none_some h
    change_written s g (suc (suc (suc i)) ∷ p) (NCase e t u alts) f h w =
        let m = made_inv (λ bs. NCase e t u bs) (changed_alts row co s e t (listed_heads alts) i p alts) f h in
        subst IsWritten m.2 (w.0, alts_written s g e t (listed_heads alts) i p alts m.0 m.1 w.1)
    change_written s g (zero ∷ p) (NCast e c) f h w =
        let m = made_inv (λ d. NCast d c) (changed row co (apart s) p e) f h in subst IsWritten m.2 (change_written (apart s) (apart_written s g) p e m.0 m.1 w)
    change_written s g (suc zero ∷ p) (NCast e c) f h w =
        let m = made_inv (λ d. NCast e d) (changed_coercion co s.context.kinds s.context.coercions p c) f h in subst IsWritten m.2 w
    change_written s g (suc (suc i) ∷ p) (NCast e c) f h w = none_some h
    change_written s g (i ∷ p) (NCon n args) f h w =
        let m = made_inv (λ more. NCon n more) (changed_args row co (apart s) i p args) f h in subst IsWritten m.2 (args_written (apart s) (apart_written s g) i p args m.0 m.1 w)
    change_written s g (i ∷ p) (NPrim op es) f h w =
        let m = made_inv (λ more. NPrim op more) (changed_exprs row co (apart s) i p es) f h in subst IsWritten m.2 (exprs_written (apart s) (apart_written s g) i p es m.0 m.1 w)
    change_written s g (i ∷ p) (NFail t) f h w = none_some h
    change_written s g (zero ∷ p) (NJoin r t js e) f h w = none_some h
    change_written s g (suc i ∷ p) (NJoin r t js e) f h w =
        either_way IsWritten (nat_eq i (join_count js)) _ _ f h
        (λ k.
        let m = made_inv (λ d. NJoin r t js d) (changed row co (behind_joins r t js s) p e) f k in
        subst IsWritten m.2 (w.0, w.1, change_written (behind_joins r t js s) (joins_written r t js s g w.1) p e m.0 m.1 w.2))
        (λ k.
        let m = made_inv (λ ks. NJoin r t ks e) (changed_joins row co (at_join_sides r t js s) i p js) f k in
        let sides = points_written (at_join_sides r t js s) (join_sides_written r t js s g w.1) i p js m.0 m.1 w.1 in
        subst IsWritten m.2 (join_group_kept row co r (at_join_sides r t js s) i p js m.0 m.1 w.0, sides, w.2))
    change_written s g (i ∷ p) (NJump j args) f h w =
        let m = made_inv (λ more. NJump j more) (changed_args row co (apart s) i p args) f h in subst IsWritten m.2 (args_written (apart s) (apart_written s g) i p args m.0 m.1 w)

    arg_written : (s : Surroundings) → AreWritten s → (p : List ℕ) (a b : NArg) → changed_arg row co s p a ≡ Some b → IsArgWritten a → IsArgWritten b
    arg_written s g p (NATerm e) b h w = let m = made_inv NATerm (changed row co s p e) b h in subst IsArgWritten m.2 (change_written s g p e m.0 m.1 w)
    arg_written s g p (NAType t) b h w = none_some h
    arg_written s g p (NACo c) b h w = let m = made_inv NACo (changed_coercion co s.context.kinds s.context.coercions p c) b h in subst IsArgWritten m.2 tt

    args_written : (s : Surroundings) → AreWritten s → (i : ℕ) (p : List ℕ) (args more : NArgs) → changed_args row co s i p args ≡ Some more → AreArgsWritten args → AreArgsWritten more
    args_written s g i p NoNArgs more h w = none_some h
    args_written s g zero p (MoreNArgs a rest) more h w =
        let m = made_inv (λ b. MoreNArgs b rest) (changed_arg row co s p a) more h in subst AreArgsWritten m.2 (arg_written s g p a m.0 m.1 w.0, w.1)
    args_written s g (suc i) p (MoreNArgs a rest) more h w =
        let m = made_inv (λ others. MoreNArgs a others) (changed_args row co s i p rest) more h in subst AreArgsWritten m.2 (w.0, args_written s g i p rest m.0 m.1 w.1)

    exprs_written : (s : Surroundings) → AreWritten s → (i : ℕ) (p : List ℕ) (es more : NExprs) → changed_exprs row co s i p es ≡ Some more → AreExprsWritten es → AreExprsWritten more
    exprs_written s g i p NoNExprs more h w = none_some h
    exprs_written s g zero p (MoreNExprs e rest) more h w =
        let m = made_inv (λ f. MoreNExprs f rest) (changed row co s p e) more h in subst AreExprsWritten m.2 (change_written s g p e m.0 m.1 w.0, w.1)
    exprs_written s g (suc i) p (MoreNExprs e rest) more h w =
        let m = made_inv (λ others. MoreNExprs e others) (changed_exprs row co s i p rest) more h in subst AreExprsWritten m.2 (w.0, exprs_written s g i p rest m.0 m.1 w.1)

    rights_written : (s : Surroundings) → AreWritten s → (i : ℕ) (p : List ℕ) (bs cs : NBinds) → changed_binds row co s i p bs ≡ Some cs → AreBindsWritten bs → AreBindsWritten cs
    rights_written s g i p NoNBinds cs h w = none_some h
    rights_written s g zero p (MoreNBinds (NBound t e) rest) cs h w =
        let m = made_inv (λ f. MoreNBinds (NBound t f) rest) (in_part 1 p (λ q. changed row co s q e)) cs h in
        let q = part_inv 1 p (λ q. changed row co s q e) m.0 m.1 in
        subst AreBindsWritten m.2 (change_written s g q.0 e m.0 q.1 w.0, w.1)
    rights_written s g (suc i) p (MoreNBinds (NBound t e) rest) cs h w =
        let m = made_inv (λ more. MoreNBinds (NBound t e) more) (changed_binds row co s i p rest) cs h in subst AreBindsWritten m.2 (w.0, rights_written s g i p rest m.0 m.1 w.1)

    points_written : (s : Surroundings) → AreWritten s → (i : ℕ) (p : List ℕ) (js ks : NJoins) → changed_joins row co s i p js ≡ Some ks → AreJoinsWritten js → AreJoinsWritten ks
    points_written s g i p NoNJoins ks h w = none_some h
    points_written s g zero p (MoreNJoins (NJoined ps e) rest) ks h w =
        let m = made_inv (λ f. MoreNJoins (NJoined ps f) rest) (in_part (length ps) p (λ q. changed row co (behind_binders ps s) q e)) ks h in
        let q = part_inv (length ps) p (λ q. changed row co (behind_binders ps s) q e) m.0 m.1 in
        subst AreJoinsWritten m.2 (change_written (behind_binders ps s) (binders_written ps s g) q.0 e m.0 q.1 w.0, w.1)
    points_written s g (suc i) p (MoreNJoins (NJoined ps e) rest) ks h w =
        let m = made_inv (λ more. MoreNJoins (NJoined ps e) more) (changed_joins row co s i p rest) ks h in subst AreJoinsWritten m.2 (w.0, points_written s g i p rest m.0 m.1 w.1)

    alts_written : (s : Surroundings) → AreWritten s → (e : NExpr) (t : NTy) (hs : List Head) (i : ℕ) (p : List ℕ) (alts blts : NAlts) → changed_alts row co s e t hs i p alts ≡ Some blts
        → AreAltsWritten alts → AreAltsWritten blts
    alts_written s g e t hs i p NoNAlts blts h w = none_some h
    alts_written s g e t hs zero p (MoreNAlts (NBranch k bs d) rest) blts h w =
        let inner = in_alternative e t hs k bs s in
        let m = made_inv (λ c. MoreNAlts (NBranch k bs c) rest) (if head_binds k bs then in_part (length bs) p (λ q. changed row co inner q d) else None) blts h in
        let n = if_some_inv (head_binds k bs) (in_part (length bs) p (λ q. changed row co inner q d)) m.0 m.1 in
        let q = part_inv (length bs) p (λ q. changed row co inner q d) m.0 n.1 in
        subst AreAltsWritten m.2 (w.0, change_written inner (alternative_written e t hs k bs s g) q.0 d m.0 q.1 w.1, w.2)
    alts_written s g e t hs (suc i) p (MoreNAlts (NBranch k bs d) rest) blts h w =
        let m = made_inv (λ more. MoreNAlts (NBranch k bs d) more) (changed_alts row co s e t hs i p rest) blts h in
        subst AreAltsWritten m.2 (w.0, w.1, alts_written s g e t hs i p rest m.0 m.1 w.2)
