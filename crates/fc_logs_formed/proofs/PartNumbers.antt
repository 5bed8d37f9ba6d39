-- Where a row makes something of an expression at a place, each part number on the way is less than the number of pieces of the whole and three more.
use Rattle.std.proofs.Common.{◌≡◌, ◌≤◌, ◌<◌, ◌+◌, ℕ, zero, suc, Bool, true, false, nat_eq, if◌then◌else◌, All, List, [], ◌∷◌, length, Option, Some, None, refl, arith}
use Rattle.std.proofs.lemmas.List.Elements.{All-cons, All-nil}
use Rattle.std.proofs.lemmas.Option.{none-some}
use Rattle.fc_syntax.specs.declared.expr.Head.{Head}
use Rattle.fc_syntax.specs.Measures.{alts_size, arg_size, args_size, binds_size, exprs_size, joins_size}
use Rattle.fc_model.specs.Nameless.{NTy, NArg, NATerm, NAType, NACo, NBound, NJoined, NBranch}
use Rattle.fc_model.specs.Nameless.{NExpr, NLocal, NVar, NLit, NApp, NLam, NLet, NCase, NCast, NCon, NPrim, NFail, NJoin, NJump}
use Rattle.fc_model.specs.Nameless.{NArgs, NoNArgs, MoreNArgs, NExprs, NoNExprs, MoreNExprs, NBinds, NoNBinds, MoreNBinds, NJoins, NoNJoins, MoreNJoins, NAlts, NoNAlts, MoreNAlts}
use Rattle.fc_model.specs.Replacing.{bind_count, join_count}
use Rattle.fc_model.proofs.Sameness.{nat_eq_eq}
use Rattle.fc_rows.specs.Changing.{changed, changed_alts, changed_arg, changed_args, changed_binds, changed_exprs, changed_joins, in_part, made}
use Rattle.fc_rows.specs.ChangingCoercions.{as_they_are}
use Rattle.fc_rows.specs.Surroundings.{Surroundings, apart, at_head, at_join_sides, at_right_sides, behind_binder, behind_binders, behind_binds, behind_joins, head_binds, in_alternative, listed_heads}
use Rattle.fc_parts.proofs.Changes.{changes_none}
use Rattle.fc_result_limits.proofs.Blank.{blank_alts, blank_arg, blank_args, blank_binds, blank_expr, blank_exprs, blank_joins}
use Rattle.fc_limits_at_places.specs.Fitting.{nexpr_size}
use Rattle.fc_logs_formed.proofs.Pieces.{argument_has_one, binders_within, binds_within, expression_has_one, joins_within}

-- WHAT HOLDS WHERE SOMETHING IS MADE

pub data IfMade (P : Type 0) {X : Type 0} : Option X → Type 0 where
  not_made : IfMade P None
  is_made : {x : X} → P → IfMade P (Some x)

pub where_made : {P X : Type 0} (o : Option X) (x : X) → IfMade P o → o ≡ Some x → P
where_made _ x not_made h = absurd (none-some x h)
where_made _ x (is_made holds) h = holds

pub by_part : {P Q X Y : Type 0} (g : X → Y) (o : Option X) → (P → Q) → IfMade P o → IfMade Q (made g o)
by_part g _ follows not_made = not_made
by_part g _ follows (is_made holds) = is_made (follows holds)

pub weaker : {P Q X : Type 0} (o : Option X) → (P → Q) → IfMade P o → IfMade Q o
weaker _ follows not_made = not_made
weaker _ follows (is_made holds) = is_made (follows holds)

pub anything : {X : Type 0} (o : Option X) → IfMade (Unit {0}) o
anything None = not_made
anything (Some x) = is_made tt

pub from_none : {P X : Type 0} (o : Option X) → o ≡ None → IfMade P o
from_none None none = not_made
from_none (Some x) none = cc

pub either : {P X : Type 0} (c : Bool) (o q : Option X) → (c ≡ true → IfMade P o) → IfMade P q → IfMade P (if c then o else q)
either true o q first second = first refl
either false o q first second = second

-- no coercion is replaced
unchanged : {P X Y : Type 0} (g : X → Y) (o : Option X) → o ≡ None → IfMade P (made g o)
unchanged g o none = by_part g o (λ holds. holds) (from_none o none)

-- each number of a place is below the most, and what is told holds
pub record Below (most : ℕ) (Told : Type 0) (p : List ℕ) : Type 0 where
  pub each : All (λ i. i < most) p
  pub told : Told

pub put : {most : ℕ} {Told : Type 0} (i : ℕ) (p : List ℕ) → i < most → Below most Told p → Below most Told (i ∷ p)
put {most = most} i p low b = record { each = All-cons (λ j. j < most) i p low b.each; told = b.told }

-- a row, and what it tells of the expressions that it makes something of
module _ (row : Surroundings → NExpr → Option NExpr) (most : ℕ) (Told : Type 0) (tells : (s : Surroundings) (e : NExpr) → nexpr_size e + 3 ≤ most → IfMade Told (row s e)) where
  -- the part of a number
  in_the_part : {X : Type 0} (n : ℕ) (p : List ℕ) (f : List ℕ → Option X) → n < most → ((q : List ℕ) → IfMade (Below most Told q) (f q)) → IfMade (Below most Told p) (in_part n p f)
  in_the_part n [] f low each = not_made
  in_the_part n (i ∷ p) f low each = either (nat_eq i n) (f p) None (λ is. weaker (f p) (put i p (omega (arith, low, nat_eq_eq i n is))) (each p)) not_made

  mutual
    pub expr_below : (s : Surroundings) (p : List ℕ) (e : NExpr) → nexpr_size e + 3 ≤ most → IfMade (Below most Told p) (changed row as_they_are s p e)
    expr_below s [] e room = weaker (row s e) (λ told. record { each = All-nil (λ j. j < most); told = told }) (tells s e room)
    expr_below s (i ∷ p) (NLocal v) room = not_made
    expr_below s (i ∷ p) (NVar n) room = not_made
    expr_below s (i ∷ p) (NLit n) room = not_made
    expr_below s (zero ∷ p) (NApp f a) room = by_part _ _ (put 0 p (omega (arith, room))) (expr_below (at_head a s) p f (omega (arith, room)))
    expr_below s (suc zero ∷ p) (NApp f a) room = by_part _ _ (put 1 p (omega (arith, room))) (arg_below (apart s) p a (omega (arith, room)))
    expr_below s (suc (suc i) ∷ p) (NApp f a) room = not_made
    expr_below s (zero ∷ p) (NLam b e) room = not_made
    expr_below s (suc zero ∷ p) (NLam b e) room = by_part _ _ (put 1 p (omega (arith, room))) (expr_below (behind_binder b (apart s)) p e (omega (arith, room)))
    expr_below s (suc (suc i) ∷ p) (NLam b e) room = not_made
    expr_below s (i ∷ p) (NLet r bs e) room =
        either (nat_eq i (bind_count bs)) _ _
        (λ is. by_part _ _ (put i p (omega (arith, room, binds_within bs, nat_eq_eq i (bind_count bs) is))) (expr_below (behind_binds r bs s) p e (omega (arith, room))))
        (by_part _ _ (λ b. put i p (omega (arith, room, b.0)) b.1) (binds_below (at_right_sides r bs s) i p bs (omega (arith, room))))
    expr_below s (zero ∷ p) (NCase e t u alts) room = by_part _ _ (put 0 p (omega (arith, room))) (expr_below (apart s) p e (omega (arith, room)))
    expr_below s (suc zero ∷ p) (NCase e t u alts) room = not_made
    expr_below s (suc (suc zero) ∷ p) (NCase e t u alts) room = not_made
    expr_below s (suc (suc (suc i)) ∷ p) (NCase e t u alts) room =
        by_part _ _ (λ b. put (suc (suc (suc i))) p (omega (arith, room, b.0)) b.1) (alts_below s e t (listed_heads alts) i p alts (omega (arith, room)))
    expr_below s (zero ∷ p) (NCast e g) room = by_part _ _ (put 0 p (omega (arith, room))) (expr_below (apart s) p e (omega (arith, room)))
    expr_below s (suc zero ∷ p) (NCast e g) room = unchanged _ _ (changes_none s.context.kinds s.context.coercions p g)
    expr_below s (suc (suc i) ∷ p) (NCast e g) room = not_made
    expr_below s (i ∷ p) (NCon n args) room = by_part _ _ (λ b. put i p (omega (arith, room, b.0)) b.1) (args_below (apart s) i p args (omega (arith, room)))
    expr_below s (i ∷ p) (NPrim op es) room = by_part _ _ (λ b. put i p (omega (arith, room, b.0)) b.1) (exprs_below (apart s) i p es (omega (arith, room)))
    expr_below s (i ∷ p) (NFail t) room = not_made
    expr_below s (zero ∷ p) (NJoin r t js e) room = not_made
    expr_below s (suc i ∷ p) (NJoin r t js e) room =
        either (nat_eq i (join_count js)) _ _
        (λ is. by_part _ _ (put (suc i) p (omega (arith, room, joins_within js, nat_eq_eq i (join_count js) is))) (expr_below (behind_joins r t js s) p e (omega (arith, room))))
        (by_part _ _ (λ b. put (suc i) p (omega (arith, room, b.0)) b.1) (joins_below (at_join_sides r t js s) i p js (omega (arith, room))))
    expr_below s (i ∷ p) (NJump j args) room = by_part _ _ (λ b. put i p (omega (arith, room, b.0)) b.1) (args_below (apart s) i p args (omega (arith, room)))

    arg_below : (s : Surroundings) (p : List ℕ) (a : NArg) → arg_size (blank_arg a) + 3 ≤ most → IfMade (Below most Told p) (changed_arg row as_they_are s p a)
    arg_below s p (NATerm e) room = by_part _ _ (λ b. b) (expr_below s p e room)
    arg_below s p (NAType t) room = not_made
    arg_below s p (NACo g) room = unchanged _ _ (changes_none s.context.kinds s.context.coercions p g)

    -- a list has no more parts than pieces
    args_below : (s : Surroundings) (i : ℕ) (p : List ℕ) (args : NArgs) → args_size (blank_args args) + 3 ≤ most
        → IfMade ((i < args_size (blank_args args)) × Below most Told p) (changed_args row as_they_are s i p args)
    args_below s i p NoNArgs room = not_made
    args_below s zero p (MoreNArgs a rest) room = by_part _ _ (λ b. (omega (arith, argument_has_one (blank_arg a)), b)) (arg_below s p a (omega (arith, room)))
    args_below s (suc i) p (MoreNArgs a rest) room = by_part _ _ (λ b. (omega (arith, argument_has_one (blank_arg a), b.0), b.1)) (args_below s i p rest (omega (arith, room)))

    exprs_below : (s : Surroundings) (i : ℕ) (p : List ℕ) (es : NExprs) → exprs_size (blank_exprs es) + 3 ≤ most
        → IfMade ((i < exprs_size (blank_exprs es)) × Below most Told p) (changed_exprs row as_they_are s i p es)
    exprs_below s i p NoNExprs room = not_made
    exprs_below s zero p (MoreNExprs e rest) room = by_part _ _ (λ b. (omega (arith, expression_has_one (blank_expr e)), b)) (expr_below s p e (omega (arith, room)))
    exprs_below s (suc i) p (MoreNExprs e rest) room = by_part _ _ (λ b. (omega (arith, expression_has_one (blank_expr e), b.0), b.1)) (exprs_below s i p rest (omega (arith, room)))

    binds_below : (s : Surroundings) (i : ℕ) (p : List ℕ) (bs : NBinds) → binds_size (blank_binds bs) + 3 ≤ most
        → IfMade ((i < binds_size (blank_binds bs)) × Below most Told p) (changed_binds row as_they_are s i p bs)
    binds_below s i p NoNBinds room = not_made
    binds_below s zero p (MoreNBinds (NBound t e) rest) room =
        by_part _ _ (λ b. (omega arith, b)) (in_the_part 1 p (λ q. changed row as_they_are s q e) (omega (arith, room)) (λ q. expr_below s q e (omega (arith, room))))
    binds_below s (suc i) p (MoreNBinds (NBound t e) rest) room = by_part _ _ (λ b. (omega (arith, b.0), b.1)) (binds_below s i p rest (omega (arith, room)))

    joins_below : (s : Surroundings) (i : ℕ) (p : List ℕ) (js : NJoins) → joins_size (blank_joins js) + 3 ≤ most
        → IfMade ((i < joins_size (blank_joins js)) × Below most Told p) (changed_joins row as_they_are s i p js)
    joins_below s i p NoNJoins room = not_made
    joins_below s zero p (MoreNJoins (NJoined ps e) rest) room =
        by_part _ _ (λ b. (omega arith, b))
        (in_the_part (length ps) p (λ q. changed row as_they_are (behind_binders ps s) q e) (omega (arith, room, binders_within ps)) (λ q. expr_below (behind_binders ps s) q e (omega (arith, room))))
    joins_below s (suc i) p (MoreNJoins (NJoined ps e) rest) room = by_part _ _ (λ b. (omega (arith, b.0), b.1)) (joins_below s i p rest (omega (arith, room)))

    alts_below : (s : Surroundings) (e : NExpr) (t : NTy) (hs : List Head) (i : ℕ) (p : List ℕ) (alts : NAlts) → alts_size (blank_alts alts) + 3 ≤ most
        → IfMade ((i < alts_size (blank_alts alts)) × Below most Told p) (changed_alts row as_they_are s e t hs i p alts)
    alts_below s e t hs i p NoNAlts room = not_made
    alts_below s e t hs zero p (MoreNAlts (NBranch h bs x) rest) room =
        by_part _ _ (λ b. (omega arith, b))
        (either (head_binds h bs) _ _
        (λ is. in_the_part (length bs) p (λ q. changed row as_they_are (in_alternative e t hs h bs s) q x) (omega (arith, room, binders_within bs))
        (λ q. expr_below (in_alternative e t hs h bs s) q x (omega (arith, room)))) not_made)
    alts_below s e t hs (suc i) p (MoreNAlts (NBranch h bs x) rest) room = by_part _ _ (λ b. (omega (arith, b.0), b.1)) (alts_below s e t hs i p rest (omega (arith, room)))
