-- What is found in a part: the expression there, behind both frames.
use Rattle.std.proofs.Common.{◌≡◌, ◌+◌, ℕ, zero, suc, Bool, true, false, ◌||◌, nat_eq, if◌then◌else◌, List, [], ◌∷◌, length, Option, Some, None, refl, sym, ap, ◌∙◌, arith}
use Rattle.fc_syntax.specs.declared.expr.Head.{Head}
use Rattle.fc_model.specs.Nameless.{NTy, NArg, NATerm, NAType, NACo, NBound, NJoined, NBranch}
use Rattle.fc_model.specs.Nameless.{NExpr, NLocal, NVar, NLit, NApp, NLam, NLet, NCase, NCast, NCon, NPrim, NFail, NJoin, NJump}
use Rattle.fc_model.specs.Nameless.{NArgs, NoNArgs, MoreNArgs, NExprs, NoNExprs, MoreNExprs, NBinds, NoNBinds, MoreNBinds, NJoins, NoNJoins, MoreNJoins, NAlts, NoNAlts, MoreNAlts}
use Rattle.fc_model.specs.Replacing.{bind_count, join_count}
use Rattle.fc_model.proofs.Sameness.{nat_eq_eq, nat_eq_refl}
use Rattle.fc_rows.specs.Changing.{in_part, made}
use Rattle.fc_rows.specs.Surroundings.{Surroundings, apart, at_join_sides, at_right_sides, behind_binders, behind_binds, behind_joins, head_binds, in_alternative, listed_heads}
use Rattle.fc_known.specs.Around.{unapplied}
use Rattle.fc_parts.specs.Found.{Found, found, found_in_alts, found_in_arg, found_in_args, found_in_binds, found_in_exprs, found_in_joins}
use Rattle.fc_parts.specs.PartsAt.{of_alt, of_arg, of_bind, of_expr, of_join, of_term}
use Rattle.fc_search_laws.specs.Searching.{alt_place, join_place, part_place}
use Rattle.fc_row_search.specs.Frames.{behind_branch, behind_point, child, inner, outer, side_of_alt, side_of_bind, side_of_join}

-- an expression, where there is one, with what stands around it
abbrev pub with_frame : Surroundings → Option NExpr → Option Found
with_frame s o = made (λ f. (s, f)) o

-- ARGUMENTS AND OPERANDS

term_found : (s : Surroundings) (a : NArg) → found_in_arg s [] a ≡ with_frame s (of_term Some a)
term_found s (NATerm e) = refl
term_found s (NAType t) = refl
term_found s (NACo g) = refl

argument_found : (s : Surroundings) (k : ℕ) (args : NArgs) → found_in_args s k [] args ≡ with_frame s (of_arg k (of_term Some) args)
unfolding of_arg
argument_found s k NoNArgs = refl
argument_found s zero (MoreNArgs a rest) = term_found s a
argument_found s (suc k) (MoreNArgs a rest) = argument_found s k rest

operand_found : (s : Surroundings) (k : ℕ) (es : NExprs) → found_in_exprs s k [] es ≡ with_frame s (of_expr k Some es)
unfolding of_expr
operand_found s k NoNExprs = refl
operand_found s zero (MoreNExprs e rest) = refl
operand_found s (suc k) (MoreNExprs e rest) = operand_found s k rest

-- LETS

bind_found : (s : Surroundings) (k : ℕ) (bs : NBinds) → found_in_binds s k (1 ∷ []) bs ≡ with_frame s (of_bind k side_of_bind bs)
unfolding of_bind
bind_found s k NoNBinds = refl
bind_found s zero (MoreNBinds (NBound t e) rest) = refl
bind_found s (suc k) (MoreNBinds b rest) = bind_found s k rest

-- what stands around right sides
sides_around : (r : Bool) (bs : NBinds) (s : Surroundings) → at_right_sides r bs s ≡ apart (if r then behind_binds r bs s else s)
sides_around true bs s = refl
sides_around false bs s = refl

let_found : (s : Surroundings) (k : ℕ) (r : Bool) (bs : NBinds) (e : NExpr) (b : Bool) → nat_eq k (bind_count bs) ≡ b
    → found s (if b then k ∷ [] else k ∷ 1 ∷ []) (NLet r bs e)
    ≡ with_frame (if b then (if b || r then behind_binds r bs s else s) else apart (if b || r then behind_binds r bs s else s)) (if b then Some e else of_bind k side_of_bind bs)
let_found s k r bs e true is = rw is refl
let_found s k r bs e false is = rw is (bind_found (at_right_sides r bs s) k bs ∙ ap (λ t. with_frame t (of_bind k side_of_bind bs)) (sides_around r bs s))

-- JOIN POINTS

-- the last part, where a part of that number is
last_found : (n : ℕ) (t : Surroundings) (f : NExpr) → in_part n (n ∷ []) (λ q. found t q f) ≡ Some (t, f)
last_found n t f = rw (nat_eq_refl n) refl

-- a place in join points, behind the number of the point
abbrev join_rest : ℕ → NJoins → List ℕ
join_rest k NoNJoins = []
join_rest zero (MoreNJoins (NJoined ps e) rest) = length ps ∷ []
join_rest (suc k) (MoreNJoins j rest) = join_rest k rest

join_first : (n k : ℕ) (js : NJoins) → join_place n k js ≡ n ∷ join_rest k js
join_first n k NoNJoins = refl
join_first n zero (MoreNJoins (NJoined ps e) rest) = refl
join_first n (suc k) (MoreNJoins j rest) = join_first n k rest

point_found : (s : Surroundings) (k : ℕ) (js : NJoins) → found_in_joins s k (join_rest k js) js ≡ with_frame (behind_point k js s) (of_join k side_of_join js)
unfolding of_join
point_found s k NoNJoins = refl
point_found s zero (MoreNJoins (NJoined ps e) rest) = last_found (length ps) (behind_binders ps s) e
point_found s (suc k) (MoreNJoins j rest) = point_found s k rest

-- behind all points nothing more stands around
past_points : (js : NJoins) (s : Surroundings) → behind_point (join_count js) js s ≡ s
past_points NoNJoins s = refl
past_points (MoreNJoins j rest) s = past_points rest s

-- what stands around their right sides
points_around : (r : Bool) (t : NTy) (js : NJoins) (s : Surroundings) → at_join_sides r t js s ≡ (if r then behind_joins r t js s else unapplied s)
points_around true t js s = refl
points_around false t js s = refl

join_found : (s : Surroundings) (k : ℕ) (r : Bool) (t : NTy) (js : NJoins) (e : NExpr) (b : Bool) → nat_eq k (join_count js) ≡ b
    → found s (if b then suc k ∷ [] else join_place (suc k) k js) (NJoin r t js e)
    ≡ with_frame (behind_point k js (if b || r then behind_joins r t js s else unapplied s)) (if b then Some e else of_join k side_of_join js)
join_found s k r t js e true is =
    let all = nat_eq_eq k (join_count js) is in
    rw is (ap (λ z. Some (z, e)) (sym (ap (λ n. behind_point n js (behind_joins r t js s)) all ∙ past_points js (behind_joins r t js s))))
join_found s k r t js e false is =
    ap (λ p. found s p (NJoin r t js e)) (join_first (suc k) k js)
    ∙ rw is (point_found (at_join_sides r t js s) k js ∙ ap (λ z. with_frame (behind_point k js z) (of_join k side_of_join js)) (points_around r t js s))

-- ALTERNATIVES

abbrev alt_rest : ℕ → NAlts → List ℕ
alt_rest k NoNAlts = []
alt_rest zero (MoreNAlts (NBranch h bs e) rest) = length bs ∷ []
alt_rest (suc k) (MoreNAlts a rest) = alt_rest k rest

alt_first : (n k : ℕ) (alts : NAlts) → alt_place n k alts ≡ n ∷ alt_rest k alts
alt_first n k NoNAlts = refl
alt_first n zero (MoreNAlts (NBranch h bs e) rest) = refl
alt_first n (suc k) (MoreNAlts a rest) = alt_first n k rest

-- where its head may have binders
bound_found : (b : Bool) (n : ℕ) (t : Surroundings) (f : NExpr) → (if b then in_part n (n ∷ []) (λ q. found t q f) else None) ≡ with_frame t (if b then Some f else None)
bound_found true n t f = last_found n t f
bound_found false n t f = refl

branch_found : (s : Surroundings) (e : NExpr) (t : NTy) (hs : List Head) (k : ℕ) (alts : NAlts)
    → found_in_alts s e t hs k (alt_rest k alts) alts ≡ with_frame (behind_branch e t hs k alts s) (of_alt k side_of_alt alts)
unfolding of_alt
branch_found s e t hs k NoNAlts = refl
branch_found s e t hs zero (MoreNAlts (NBranch h bs b) rest) = bound_found (head_binds h bs) (length bs) (in_alternative e t hs h bs s) b
branch_found s e t hs (suc k) (MoreNAlts a rest) = branch_found s e t hs k rest

case_found : (s : Surroundings) (k n : ℕ) (e : NExpr) (t u : NTy) (alts : NAlts) → n ≡ suc (suc (suc k))
    → found s (alt_place n k alts) (NCase e t u alts) ≡ with_frame (behind_branch e t (listed_heads alts) k alts s) (of_alt k side_of_alt alts)
case_found s k n e t u alts is =
    ap (λ p. found s p (NCase e t u alts)) (alt_first n k alts ∙ ap (λ i. i ∷ alt_rest k alts) is) ∙ branch_found s e t (listed_heads alts) k alts

-- ANY PART

pub found_child : (s : Surroundings) (k : ℕ) (e : NExpr) → found s (part_place k e) e ≡ with_frame (inner k e (outer k e s)) (child k e)
found_child s k (NLocal v) = refl
found_child s k (NVar n) = refl
found_child s k (NLit n) = refl
found_child s zero (NApp f a) = refl
found_child s (suc zero) (NApp f a) = term_found (apart s) a
found_child s (suc (suc k)) (NApp f a) = refl
found_child s k (NLam b e) = refl
found_child s k (NLet r bs e) = let_found s k r bs e (nat_eq k (bind_count bs)) refl
found_child s zero (NCase e t u alts) = refl
found_child s (suc k) (NCase e t u alts) = case_found s k (3 + k) e t u alts (omega arith)
found_child s k (NCast e g) = refl
found_child s k (NCon n args) = argument_found (apart s) k args
found_child s k (NPrim op es) = operand_found (apart s) k es
found_child s k (NFail t) = refl
found_child s k (NJoin r t js e) = join_found s k r t js e (nat_eq k (join_count js)) refl
found_child s k (NJump j args) = argument_found (apart s) k args
