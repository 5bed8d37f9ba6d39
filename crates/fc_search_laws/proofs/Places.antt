-- A place behind another, and the part of an expression that a place lies in.
use Rattle.std.proofs.Common.{◌≡◌, ◌+◌, ◌<◌, ℕ, zero, suc, Bool, true, false, nat_eq, if◌then◌else◌, List, [], ◌∷◌, ◌++◌, length, Option, Some, None, refl, ap, ◌∙◌, arith}
use Rattle.std.proofs.lemmas.Option.{none-some, same_Some}
use Rattle.fc_syntax.specs.declared.expr.Head.{Head}
use Rattle.fc_model.specs.Nameless.{NTy, NArg, NATerm, NAType, NACo, NBound, NJoined, NBranch}
use Rattle.fc_model.specs.Nameless.{NExpr, NLocal, NVar, NLit, NApp, NLam, NLet, NCase, NCast, NCon, NPrim, NFail, NJoin, NJump}
use Rattle.fc_model.specs.Nameless.{NArgs, NoNArgs, MoreNArgs, NExprs, NoNExprs, MoreNExprs, NBinds, NoNBinds, MoreNBinds, NJoins, NoNJoins, MoreNJoins, NAlts, NoNAlts, MoreNAlts}
use Rattle.fc_model.specs.Replacing.{bind_count, join_count}
use Rattle.fc_model.proofs.Sameness.{nat_eq_eq, nat_eq_refl}
use Rattle.fc_rows.specs.Changing.{in_part}
use Rattle.fc_rows.specs.Surroundings.{Surroundings, apart, at_head, at_join_sides, at_right_sides, behind_binder, behind_binders, behind_binds, behind_joins, head_binds, in_alternative, listed_heads}
use Rattle.fc_parts.specs.Found.{Found, found, found_in_alts, found_in_arg, found_in_args, found_in_binds, found_in_exprs, found_in_joins}
use Rattle.fc_search_laws.specs.Searching.{alt_count, alt_place, arg_count, expr_count, join_place, part_count, part_place}

pub nothing : {X : Type 0} {P : Type 0} {x : X} → ◌≡◌ {A = Option X} None (Some x) → P
nothing h = absurd (none-some _ h)

-- A PLACE BEHIND ANOTHER

-- one of two, by a test
either : (b : Bool) (f k x y : Option Found) (g : Found) (o : Option Found) → (f ≡ Some g → x ≡ o) → (k ≡ Some g → y ≡ o) → (if b then f else k) ≡ Some g → (if b then x else y) ≡ o
either true f k x y g o first second h = first h
either false f k x y g o first second h = second h

mutual
  found_on : (s : Surroundings) (p q : List ℕ) (e : NExpr) (g : Found) → found s p e ≡ Some g → found s (p ++ q) e ≡ found g.0 q g.1
  found_on s [] q e g h = ap (λ z. found z.0 q z.1) (same_Some _ _ h)
  found_on s (i ∷ p) q (NLocal v) g h = nothing h
  found_on s (i ∷ p) q (NVar n) g h = nothing h
  found_on s (i ∷ p) q (NLit n) g h = nothing h
  found_on s (zero ∷ p) q (NApp f a) g h = found_on (at_head a s) p q f g h
  found_on s (suc zero ∷ p) q (NApp f a) g h = found_on_in_arg (apart s) p q a g h
  found_on s (suc (suc i) ∷ p) q (NApp f a) g h = nothing h
  found_on s (zero ∷ p) q (NLam b e) g h = nothing h
  found_on s (suc zero ∷ p) q (NLam b e) g h = found_on (behind_binder b (apart s)) p q e g h
  found_on s (suc (suc i) ∷ p) q (NLam b e) g h = nothing h
  found_on s (i ∷ p) q (NLet r bs e) g h =
      either (nat_eq i (bind_count bs)) _ _ _ _ g _ (found_on (behind_binds r bs s) p q e g) (found_on_in_binds (at_right_sides r bs s) i p q bs g) h
  found_on s (zero ∷ p) q (NCase e t u alts) g h = found_on (apart s) p q e g h
  found_on s (suc zero ∷ p) q (NCase e t u alts) g h = nothing h
  found_on s (suc (suc zero) ∷ p) q (NCase e t u alts) g h = nothing h
  found_on s (suc (suc (suc i)) ∷ p) q (NCase e t u alts) g h = found_on_in_alts s e t (listed_heads alts) i p q alts g h
  found_on s (zero ∷ p) q (NCast e c) g h = found_on (apart s) p q e g h
  found_on s (suc i ∷ p) q (NCast e c) g h = nothing h
  found_on s (i ∷ p) q (NCon n args) g h = found_on_in_args (apart s) i p q args g h
  found_on s (i ∷ p) q (NPrim op es) g h = found_on_in_exprs (apart s) i p q es g h
  found_on s (i ∷ p) q (NFail t) g h = nothing h
  found_on s (zero ∷ p) q (NJoin r t js e) g h = nothing h
  found_on s (suc i ∷ p) q (NJoin r t js e) g h =
      either (nat_eq i (join_count js)) _ _ _ _ g _ (found_on (behind_joins r t js s) p q e g) (found_on_in_joins (at_join_sides r t js s) i p q js g) h
  found_on s (i ∷ p) q (NJump j args) g h = found_on_in_args (apart s) i p q args g h

  found_on_in_arg : (s : Surroundings) (p q : List ℕ) (a : NArg) (g : Found) → found_in_arg s p a ≡ Some g → found_in_arg s (p ++ q) a ≡ found g.0 q g.1
  found_on_in_arg s p q (NATerm e) g h = found_on s p q e g h
  found_on_in_arg s p q (NAType t) g h = nothing h
  found_on_in_arg s p q (NACo c) g h = nothing h

  found_on_in_args : (s : Surroundings) (i : ℕ) (p q : List ℕ) (args : NArgs) (g : Found) → found_in_args s i p args ≡ Some g → found_in_args s i (p ++ q) args ≡ found g.0 q g.1
  found_on_in_args s i p q NoNArgs g h = nothing h
  found_on_in_args s zero p q (MoreNArgs a rest) g h = found_on_in_arg s p q a g h
  found_on_in_args s (suc i) p q (MoreNArgs a rest) g h = found_on_in_args s i p q rest g h

  found_on_in_exprs : (s : Surroundings) (i : ℕ) (p q : List ℕ) (es : NExprs) (g : Found) → found_in_exprs s i p es ≡ Some g → found_in_exprs s i (p ++ q) es ≡ found g.0 q g.1
  found_on_in_exprs s i p q NoNExprs g h = nothing h
  found_on_in_exprs s zero p q (MoreNExprs e rest) g h = found_on s p q e g h
  found_on_in_exprs s (suc i) p q (MoreNExprs e rest) g h = found_on_in_exprs s i p q rest g h

  found_on_in_binds : (s : Surroundings) (i : ℕ) (p q : List ℕ) (bs : NBinds) (g : Found) → found_in_binds s i p bs ≡ Some g → found_in_binds s i (p ++ q) bs ≡ found g.0 q g.1
  found_on_in_binds s i p q NoNBinds g h = nothing h
  found_on_in_binds s zero [] q (MoreNBinds (NBound t e) rest) g h = nothing h
  found_on_in_binds s zero (i ∷ p) q (MoreNBinds (NBound t e) rest) g h = either (nat_eq i 1) _ _ _ _ g _ (found_on s p q e g) (λ k. nothing k) h
  found_on_in_binds s (suc i) p q (MoreNBinds b rest) g h = found_on_in_binds s i p q rest g h

  found_on_in_joins : (s : Surroundings) (i : ℕ) (p q : List ℕ) (js : NJoins) (g : Found) → found_in_joins s i p js ≡ Some g → found_in_joins s i (p ++ q) js ≡ found g.0 q g.1
  found_on_in_joins s i p q NoNJoins g h = nothing h
  found_on_in_joins s zero [] q (MoreNJoins (NJoined ps e) rest) g h = nothing h
  found_on_in_joins s zero (i ∷ p) q (MoreNJoins (NJoined ps e) rest) g h = either (nat_eq i (length ps)) _ _ _ _ g _ (found_on (behind_binders ps s) p q e g) (λ k. nothing k) h
  found_on_in_joins s (suc i) p q (MoreNJoins j rest) g h = found_on_in_joins s i p q rest g h

  found_on_in_alts : (s : Surroundings) (e : NExpr) (t : NTy) (hs : List Head) (i : ℕ) (p q : List ℕ) (alts : NAlts) (g : Found) → found_in_alts s e t hs i p alts ≡ Some g
      → found_in_alts s e t hs i (p ++ q) alts ≡ found g.0 q g.1
  found_on_in_alts s e t hs i p q NoNAlts g h = nothing h
  found_on_in_alts s e t hs zero [] q (MoreNAlts (NBranch x bs b) rest) g h = either (head_binds x bs) _ _ _ _ g _ (λ k. nothing k) (λ k. nothing k) h
  found_on_in_alts s e t hs zero (i ∷ p) q (MoreNAlts (NBranch x bs b) rest) g h =
      either (head_binds x bs) _ _ _ _ g _ (either (nat_eq i (length bs)) _ _ _ _ g _ (found_on (in_alternative e t hs x bs s) p q b g) (λ k. nothing k)) (λ k. nothing k) h
  found_on_in_alts s e t hs (suc i) p q (MoreNAlts a rest) g h = found_on_in_alts s e t hs i p q rest g h

-- what is found at a place behind another is found in what is found at the first
pub found_behind : (s : Surroundings) (p q : List ℕ) (e : NExpr) (t : Surroundings) (f : NExpr) → found s p e ≡ Some (t, f) → found s (p ++ q) e ≡ found t q f
found_behind s p q e t f h = found_on s p q e (t, f) h

-- THE PLACE OF A PART

-- a place of one number or of two
pub data IsShort : List ℕ → Type 0 where
  one_number : (i : ℕ) → IsShort (i ∷ [])
  two_numbers : (i j : ℕ) → IsShort (i ∷ j ∷ [])

join_place_short : (n k : ℕ) (js : NJoins) → IsShort (join_place n k js)
join_place_short n k NoNJoins = one_number n
join_place_short n zero (MoreNJoins (NJoined ps e) rest) = two_numbers n (length ps)
join_place_short n (suc k) (MoreNJoins j rest) = join_place_short n k rest

alt_place_short : (n k : ℕ) (alts : NAlts) → IsShort (alt_place n k alts)
alt_place_short n k NoNAlts = one_number n
alt_place_short n zero (MoreNAlts (NBranch h bs e) rest) = two_numbers n (length bs)
alt_place_short n (suc k) (MoreNAlts a rest) = alt_place_short n k rest

either_short : (b : Bool) (p q : List ℕ) → IsShort p → IsShort q → IsShort (if b then p else q)
either_short true p q first second = first
either_short false p q first second = second

pub part_place_short : (k : ℕ) (e : NExpr) → IsShort (part_place k e)
part_place_short k (NLocal v) = one_number k
part_place_short k (NVar n) = one_number k
part_place_short k (NLit n) = one_number k
part_place_short k (NApp f a) = one_number k
part_place_short k (NLam b e) = one_number 1
part_place_short k (NLet r bs e) = either_short (nat_eq k (bind_count bs)) _ _ (one_number k) (two_numbers k 1)
part_place_short zero (NCase e t u alts) = one_number 0
part_place_short (suc k) (NCase e t u alts) = alt_place_short _ k alts
part_place_short k (NCast e g) = one_number 0
part_place_short k (NCon n args) = one_number k
part_place_short k (NPrim op es) = one_number k
part_place_short k (NFail t) = one_number k
part_place_short k (NJoin r t js e) = either_short (nat_eq k (join_count js)) _ _ (one_number (suc k)) (join_place_short (suc k) k js)
part_place_short k (NJump j args) = one_number k

-- THE PART THAT A PLACE LIES IN

-- A place lies in a part whose place is this.
record LiesAt (look : List ℕ → Option Found) (first p : List ℕ) (g : Found) : Type 0 where
  behind : List ℕ
  around : Surroundings
  part : NExpr
  is : p ≡ first ++ behind
  there : look first ≡ Some (around, part)
  inside : found around behind part ≡ Some g

-- A place lies in the item of a number, of so many, at this place in that.
record LiesAmong (look : List ℕ → Option Found) (i count : ℕ) (first p : List ℕ) (g : Found) : Type 0 where
  below : i < count
  lies : LiesAt look first p g

-- The same where the part is the last of the item.
record LiesLast (look : List ℕ → Option Found) (i count : ℕ) (place_from : ℕ → List ℕ) (p : List ℕ) (g : Found) : Type 0 where
  last : ℕ
  below : i < count
  place_is : (n : ℕ) → place_from n ≡ n ∷ last ∷ []
  lies : LiesAt look (last ∷ []) p g

-- A place lies in one of the parts that are searched.
pub record LiesIn (s : Surroundings) (e : NExpr) (p : List ℕ) (g : Found) : Type 0 where
  pub number : ℕ
  pub place : List ℕ
  pub behind : List ℕ
  pub around : Surroundings
  pub part : NExpr
  pub below : number < part_count e
  pub place_is : part_place number e ≡ place
  pub is : p ≡ place ++ behind
  pub there : found s place e ≡ Some (around, part)
  pub inside : found around behind part ≡ Some g

-- at the part itself
lies_itself : (look : List ℕ → Option Found) (t : Surroundings) (f : NExpr) (p : List ℕ) (g : Found) → look [] ≡ Some (t, f) → found t p f ≡ Some g → LiesAt look [] p g
lies_itself look t f p g there h = record { behind = p; around = t; part = f; is = refl; there = there; inside = h }

lies_by : (look other : List ℕ → Option Found) (first p : List ℕ) (g : Found) → look first ≡ other first → LiesAt other first p g → LiesAt look first p g
lies_by look other first p g same w = record { behind = w.behind; around = w.around; part = w.part; is = w.is; there = same ∙ w.there; inside = w.inside }

lies_in : (s : Surroundings) (e : NExpr) (k n : ℕ) (first p : List ℕ) (g : Found) → k < part_count e → part_place k e ≡ n ∷ first → LiesAt (λ q. found s (n ∷ q) e) first p g → LiesIn s e (n ∷ p) g
lies_in s e k n first p g below place_is w = record {
  number = k;
  place = n ∷ first;
  behind = w.behind;
  around = w.around;
  part = w.part;
  below = below;
  place_is = place_is;
  is = ap (λ q. n ∷ q) w.is;
  there = w.there;
  inside = w.inside;
}

-- a place behind the number of the right side
lies_right : (n : ℕ) (p : List ℕ) (t : Surroundings) (f : NExpr) (g : Found) → in_part n p (λ q. found t q f) ≡ Some g → LiesAt (λ r. in_part n r (λ q. found t q f)) (n ∷ []) p g
lies_right n [] t f g h = nothing h
lies_right n (i ∷ p) t f g h = goes (nat_eq i n) refl h
  where
    goes : (b : Bool) → nat_eq i n ≡ b → (if b then found t p f else None) ≡ Some g → LiesAt (λ r. in_part n r (λ q. found t q f)) (n ∷ []) (i ∷ p) g
    goes true is k = record { behind = p; around = t; part = f; is = ap (λ j. j ∷ p) (nat_eq_eq i n is); there = rw (nat_eq_refl n) refl; inside = k }
    goes false is k = nothing k

arg_lies : (s : Surroundings) (p : List ℕ) (a : NArg) (g : Found) → found_in_arg s p a ≡ Some g → LiesAt (λ q. found_in_arg s q a) [] p g
arg_lies s p (NATerm e) g h = lies_itself _ s e p g refl h
arg_lies s p (NAType t) g h = nothing h
arg_lies s p (NACo c) g h = nothing h

args_lie : (s : Surroundings) (i : ℕ) (p : List ℕ) (args : NArgs) (g : Found) → found_in_args s i p args ≡ Some g → LiesAmong (λ q. found_in_args s i q args) i (arg_count args) [] p g
args_lie s i p NoNArgs g h = nothing h
args_lie s zero p (MoreNArgs a rest) g h = record { below = omega arith; lies = arg_lies s p a g h }
args_lie s (suc i) p (MoreNArgs a rest) g h = let w = args_lie s i p rest g h in record { below = omega (arith, w.below); lies = w.lies }

exprs_lie : (s : Surroundings) (i : ℕ) (p : List ℕ) (es : NExprs) (g : Found) → found_in_exprs s i p es ≡ Some g → LiesAmong (λ q. found_in_exprs s i q es) i (expr_count es) [] p g
exprs_lie s i p NoNExprs g h = nothing h
exprs_lie s zero p (MoreNExprs e rest) g h = record { below = omega arith; lies = lies_itself _ s e p g refl h }
exprs_lie s (suc i) p (MoreNExprs e rest) g h = let w = exprs_lie s i p rest g h in record { below = omega (arith, w.below); lies = w.lies }

binds_lie : (s : Surroundings) (i : ℕ) (p : List ℕ) (bs : NBinds) (g : Found) → found_in_binds s i p bs ≡ Some g → LiesAmong (λ q. found_in_binds s i q bs) i (bind_count bs) (1 ∷ []) p g
binds_lie s i p NoNBinds g h = nothing h
binds_lie s zero p (MoreNBinds (NBound t e) rest) g h = record { below = omega arith; lies = lies_right 1 p s e g h }
binds_lie s (suc i) p (MoreNBinds b rest) g h = let w = binds_lie s i p rest g h in record { below = omega (arith, w.below); lies = w.lies }

joins_lie : (s : Surroundings) (i : ℕ) (p : List ℕ) (js : NJoins) (g : Found) → found_in_joins s i p js ≡ Some g
    → LiesLast (λ q. found_in_joins s i q js) i (join_count js) (λ n. join_place n i js) p g
joins_lie s i p NoNJoins g h = nothing h
joins_lie s zero p (MoreNJoins (NJoined ps e) rest) g h =
    record { last = length ps; below = omega arith; place_is = λ n. refl; lies = lies_right (length ps) p (behind_binders ps s) e g h }
joins_lie s (suc i) p (MoreNJoins j rest) g h = let w = joins_lie s i p rest g h in record { last = w.last; below = omega (arith, w.below); place_is = w.place_is; lies = w.lies }

-- an alternative, where its head may have binders
alt_lies : (b : Bool) (n : ℕ) (p : List ℕ) (t : Surroundings) (f : NExpr) (g : Found) → (if b then in_part n p (λ q. found t q f) else None) ≡ Some g
    → LiesAt (λ r. if b then in_part n r (λ q. found t q f) else None) (n ∷ []) p g
alt_lies true n p t f g h = lies_right n p t f g h
alt_lies false n p t f g h = nothing h

alts_lie : (s : Surroundings) (e : NExpr) (t : NTy) (hs : List Head) (i : ℕ) (p : List ℕ) (alts : NAlts) (g : Found) → found_in_alts s e t hs i p alts ≡ Some g
    → LiesLast (λ q. found_in_alts s e t hs i q alts) i (alt_count alts) (λ n. alt_place n i alts) p g
alts_lie s e t hs i p NoNAlts g h = nothing h
alts_lie s e t hs zero p (MoreNAlts (NBranch x bs b) rest) g h =
    record { last = length bs; below = omega arith; place_is = λ n. refl; lies = alt_lies (head_binds x bs) (length bs) p (in_alternative e t hs x bs s) b g h }
alts_lie s e t hs (suc i) p (MoreNAlts a rest) g h = let w = alts_lie s e t hs i p rest g h in record { last = w.last; below = omega (arith, w.below); place_is = w.place_is; lies = w.lies }

-- a place behind the binds of a let, and one in a right side there
let_lies : (s : Surroundings) (i : ℕ) (p : List ℕ) (r : Bool) (bs : NBinds) (e : NExpr) (g : Found) (b : Bool) → nat_eq i (bind_count bs) ≡ b
    → (if b then found (behind_binds r bs s) p e else found_in_binds (at_right_sides r bs s) i p bs) ≡ Some g → LiesIn s (NLet r bs e) (i ∷ p) g
let_lies s i p r bs e g true is h =
    lies_in s (NLet r bs e) i i [] p g (omega (arith, nat_eq_eq i (bind_count bs) is)) (rw is refl) (lies_itself _ (behind_binds r bs s) e p g (rw is refl) h)
let_lies s i p r bs e g false is h =
    let w = binds_lie (at_right_sides r bs s) i p bs g h in
    lies_in s (NLet r bs e) i i (1 ∷ []) p g (omega (arith, w.below)) (rw is refl) (lies_by _ (λ q. found_in_binds (at_right_sides r bs s) i q bs) _ p g (rw is refl) w.lies)

-- the same of join points
join_lies : (s : Surroundings) (i : ℕ) (p : List ℕ) (r : Bool) (t : NTy) (js : NJoins) (e : NExpr) (g : Found) (b : Bool) → nat_eq i (join_count js) ≡ b
    → (if b then found (behind_joins r t js s) p e else found_in_joins (at_join_sides r t js s) i p js) ≡ Some g → LiesIn s (NJoin r t js e) (suc i ∷ p) g
join_lies s i p r t js e g true is h =
    lies_in s (NJoin r t js e) i (suc i) [] p g (omega (arith, nat_eq_eq i (join_count js) is)) (rw is refl) (lies_itself _ (behind_joins r t js s) e p g (rw is refl) h)
join_lies s i p r t js e g false is h =
    let w = joins_lie (at_join_sides r t js s) i p js g h in
    lies_in s (NJoin r t js e) i (suc i) (w.last ∷ []) p g (omega (arith, w.below)) (rw is (w.place_is (suc i)))
    (lies_by _ (λ q. found_in_joins (at_join_sides r t js s) i q js) _ p g (rw is refl) w.lies)

-- a place at which something is found, but the empty one, lies in a part
pub in_a_part : (s : Surroundings) (i : ℕ) (p : List ℕ) (e : NExpr) (g : Found) → found s (i ∷ p) e ≡ Some g → LiesIn s e (i ∷ p) g
in_a_part s i p (NLocal v) g h = nothing h
in_a_part s i p (NVar n) g h = nothing h
in_a_part s i p (NLit n) g h = nothing h
in_a_part s zero p (NApp f a) g h = lies_in s (NApp f a) 0 0 [] p g (omega arith) refl (lies_itself _ (at_head a s) f p g refl h)
in_a_part s (suc zero) p (NApp f a) g h = lies_in s (NApp f a) 1 1 [] p g (omega arith) refl (arg_lies (apart s) p a g h)
in_a_part s (suc (suc i)) p (NApp f a) g h = nothing h
in_a_part s zero p (NLam b e) g h = nothing h
in_a_part s (suc zero) p (NLam b e) g h = lies_in s (NLam b e) 0 1 [] p g (omega arith) refl (lies_itself _ (behind_binder b (apart s)) e p g refl h)
in_a_part s (suc (suc i)) p (NLam b e) g h = nothing h
in_a_part s i p (NLet r bs e) g h = let_lies s i p r bs e g (nat_eq i (bind_count bs)) refl h
in_a_part s zero p (NCase e t u alts) g h = lies_in s (NCase e t u alts) 0 0 [] p g (omega arith) refl (lies_itself _ (apart s) e p g refl h)
in_a_part s (suc zero) p (NCase e t u alts) g h = nothing h
in_a_part s (suc (suc zero)) p (NCase e t u alts) g h = nothing h
in_a_part s (suc (suc (suc i))) p (NCase e t u alts) g h =
    let w = alts_lie s e t (listed_heads alts) i p alts g h in
    lies_in s (NCase e t u alts) (suc i) (suc (suc (suc i))) (w.last ∷ []) p g (omega (arith, w.below)) (w.place_is (3 + i) ∙ ap (λ m. m ∷ w.last ∷ []) (omega arith)) w.lies
in_a_part s zero p (NCast e c) g h = lies_in s (NCast e c) 0 0 [] p g (omega arith) refl (lies_itself _ (apart s) e p g refl h)
in_a_part s (suc i) p (NCast e c) g h = nothing h
in_a_part s i p (NCon n args) g h = let w = args_lie (apart s) i p args g h in lies_in s (NCon n args) i i [] p g w.below refl w.lies
in_a_part s i p (NPrim op es) g h = let w = exprs_lie (apart s) i p es g h in lies_in s (NPrim op es) i i [] p g w.below refl w.lies
in_a_part s i p (NFail t) g h = nothing h
in_a_part s zero p (NJoin r t js e) g h = nothing h
in_a_part s (suc i) p (NJoin r t js e) g h = join_lies s i p r t js e g (nat_eq i (join_count js)) refl h
in_a_part s i p (NJump j args) g h = let w = args_lie (apart s) i p args g h in lies_in s (NJump j args) i i [] p g w.below refl w.lies
