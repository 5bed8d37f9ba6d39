-- What is asked at a place is asked of the part that is found there, in its surroundings.
use Rattle.std.proofs.Common.{◌≡◌, ℕ, zero, suc, Bool, true, false, nat_eq, List, [], ◌∷◌, Option, None, length, refl, if◌then◌else◌}
use Rattle.fc_syntax.specs.declared.expr.Head.{Head}
use Rattle.fc_model.specs.Calling.{from_some}
use Rattle.fc_model.specs.Nameless.{NTy, NArg, NATerm, NAType, NACo, NBound, NJoined, NBranch}
use Rattle.fc_model.specs.Nameless.{NExpr, NLocal, NVar, NLit, NApp, NLam, NLet, NCase, NCast, NCon, NPrim, NFail, NJoin, NJump}
use Rattle.fc_model.specs.Nameless.{NArgs, NoNArgs, MoreNArgs, NExprs, NoNExprs, MoreNExprs, NBinds, NoNBinds, MoreNBinds, NJoins, NoNJoins, MoreNJoins, NAlts, NoNAlts, MoreNAlts}
use Rattle.fc_model.specs.Replacing.{bind_count, join_count}
use Rattle.fc_rows.specs.Surroundings.{Surroundings, apart, at_head, at_join_sides, at_right_sides, behind_binder, behind_binders, behind_binds, behind_joins, head_binds, in_alternative, listed_heads}
use Rattle.fc_parts.specs.Found.{Found, found, found_in_alts, found_in_arg, found_in_args, found_in_binds, found_in_exprs, found_in_joins}
use Rattle.fc_parts.specs.PartsAt.{at_place, at_place_of_alt, at_place_of_bind, at_place_of_join, of_alt, of_arg, of_bind, of_expr, of_join, of_term}
use Rattle.fc_parts.proofs.Tests.{less_one, less_three, not_below_three, not_one, not_zero}

module _ {X : Type 0} (ask : Surroundings → NExpr → Option X) where
  -- what is asked of what is found
  abbrev pub asked : Option Found → Option X
  asked f = from_some (λ t. ask t.0 t.1) f

  -- one of two, by a test
  either : (b : Bool) (f k : Option Found) (x y : Option X) → asked f ≡ x → asked k ≡ y → asked (if b then f else k) ≡ (if b then x else y)
  either true f k x y first second = first
  either false f k x y first second = second

  -- none, by a test
  neither : (b : Bool) → asked (if b then None else None) ≡ None
  neither true = refl
  neither false = refl

  mutual
    unfolding at_place at_place_of_bind at_place_of_join at_place_of_alt of_arg of_expr of_bind of_join of_alt

    pub asked_of_found : (s : Surroundings) (p : List ℕ) (e : NExpr) → asked (found s p e) ≡ at_place ask p s e
    asked_of_found s [] e = refl
    asked_of_found s (i ∷ p) (NLocal v) = refl
    asked_of_found s (i ∷ p) (NVar n) = refl
    asked_of_found s (i ∷ p) (NLit n) = refl
    asked_of_found s (zero ∷ p) (NApp f a) = asked_of_found (at_head a s) p f
    asked_of_found s (suc zero ∷ p) (NApp f a) = asked_of_arg (apart s) p a
    asked_of_found s (suc (suc i) ∷ p) (NApp f a) = rw (not_zero (suc i), not_one i) refl
    asked_of_found s (zero ∷ p) (NLam b e) = refl
    asked_of_found s (suc zero ∷ p) (NLam b e) = asked_of_found (behind_binder b (apart s)) p e
    asked_of_found s (suc (suc i) ∷ p) (NLam b e) = rw (not_one i) refl
    asked_of_found s (i ∷ p) (NLet r bs e) = either (nat_eq i (bind_count bs)) _ _ _ _ (asked_of_found (behind_binds r bs s) p e) (asked_of_binds (at_right_sides r bs s) i p bs)
    asked_of_found s (zero ∷ p) (NCase e t u alts) = asked_of_found (apart s) p e
    asked_of_found s (suc zero ∷ p) (NCase e t u alts) = refl
    asked_of_found s (suc (suc zero) ∷ p) (NCase e t u alts) = refl
    asked_of_found s (suc (suc (suc i)) ∷ p) (NCase e t u alts) =
        rw (not_zero (suc (suc i)), not_below_three i, less_three i) (asked_of_alts s e t (listed_heads alts) i p alts)
    asked_of_found s (zero ∷ p) (NCast e g) = asked_of_found (apart s) p e
    asked_of_found s (suc i ∷ p) (NCast e g) = rw (not_zero i) refl
    asked_of_found s (i ∷ p) (NCon n args) = asked_of_args (apart s) i p args
    asked_of_found s (i ∷ p) (NPrim op es) = asked_of_exprs (apart s) i p es
    asked_of_found s (i ∷ p) (NFail t) = refl
    asked_of_found s (zero ∷ p) (NJoin r t js e) = refl
    asked_of_found s (suc i ∷ p) (NJoin r t js e) =
        rw (not_zero i, less_one i) (either (nat_eq i (join_count js)) _ _ _ _ (asked_of_found (behind_joins r t js s) p e) (asked_of_joins (at_join_sides r t js s) i p js))
    asked_of_found s (i ∷ p) (NJump j args) = asked_of_args (apart s) i p args

    asked_of_arg : (s : Surroundings) (p : List ℕ) (a : NArg) → asked (found_in_arg s p a) ≡ of_term (at_place ask p s) a
    asked_of_arg s p (NATerm e) = asked_of_found s p e
    asked_of_arg s p (NAType t) = refl
    asked_of_arg s p (NACo g) = refl

    asked_of_args : (s : Surroundings) (i : ℕ) (p : List ℕ) (args : NArgs) → asked (found_in_args s i p args) ≡ of_arg i (of_term (at_place ask p s)) args
    asked_of_args s i p NoNArgs = refl
    asked_of_args s zero p (MoreNArgs a rest) = asked_of_arg s p a
    asked_of_args s (suc i) p (MoreNArgs a rest) = asked_of_args s i p rest

    asked_of_exprs : (s : Surroundings) (i : ℕ) (p : List ℕ) (es : NExprs) → asked (found_in_exprs s i p es) ≡ of_expr i (at_place ask p s) es
    asked_of_exprs s i p NoNExprs = refl
    asked_of_exprs s zero p (MoreNExprs e rest) = asked_of_found s p e
    asked_of_exprs s (suc i) p (MoreNExprs e rest) = asked_of_exprs s i p rest

    asked_of_binds : (s : Surroundings) (i : ℕ) (p : List ℕ) (bs : NBinds) → asked (found_in_binds s i p bs) ≡ of_bind i (at_place_of_bind ask p s) bs
    asked_of_binds s i p NoNBinds = refl
    asked_of_binds s zero [] (MoreNBinds (NBound t e) rest) = refl
    asked_of_binds s zero (i ∷ p) (MoreNBinds (NBound t e) rest) = either (nat_eq i 1) _ _ _ _ (asked_of_found s p e) refl
    asked_of_binds s (suc i) p (MoreNBinds b rest) = asked_of_binds s i p rest

    asked_of_joins : (s : Surroundings) (i : ℕ) (p : List ℕ) (js : NJoins) → asked (found_in_joins s i p js) ≡ of_join i (at_place_of_join ask p s) js
    asked_of_joins s i p NoNJoins = refl
    asked_of_joins s zero [] (MoreNJoins (NJoined ps e) rest) = refl
    asked_of_joins s zero (i ∷ p) (MoreNJoins (NJoined ps e) rest) = either (nat_eq i (length ps)) _ _ _ _ (asked_of_found (behind_binders ps s) p e) refl
    asked_of_joins s (suc i) p (MoreNJoins j rest) = asked_of_joins s i p rest

    asked_of_alts : (s : Surroundings) (e : NExpr) (t : NTy) (hs : List Head) (i : ℕ) (p : List ℕ) (alts : NAlts) → asked (found_in_alts s e t hs i p alts) ≡ of_alt i (at_place_of_alt ask p e t hs s) alts
    asked_of_alts s e t hs i p NoNAlts = refl
    asked_of_alts s e t hs zero [] (MoreNAlts (NBranch h bs b) rest) = neither (head_binds h bs)
    asked_of_alts s e t hs zero (i ∷ p) (MoreNAlts (NBranch h bs b) rest) =
        either (head_binds h bs) _ _ _ _ (either (nat_eq i (length bs)) _ _ _ _ (asked_of_found (in_alternative e t hs h bs s) p b) refl) refl
    asked_of_alts s e t hs (suc i) p (MoreNAlts a rest) = asked_of_alts s e t hs i p rest
