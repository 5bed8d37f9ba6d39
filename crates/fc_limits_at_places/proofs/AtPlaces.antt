-- How deep and how large an expression is in which a row makes something of the part at a place, by how deep and how large that part was and is.
use Rattle.std.proofs.Common.{◌≡◌, ◌≤◌, ◌+◌, ℕ, zero, suc, max, Bool, true, false, nat_eq, if◌then◌else◌, List, [], ◌∷◌, length, Option, Some, None, refl, sym, ap, ◌∙◌, arith}
use Rattle.std.proofs.lemmas.Option.{none-some, same_Some}
use Rattle.fc_syntax.specs.declared.expr.Head.{Head}
use Rattle.fc_syntax.specs.Measures.{alts_depth, alts_size, arg_depth, arg_size, args_depth, args_size, binds_depth, binds_size, exprs_depth, exprs_size, joins_depth, joins_size}
use Rattle.fc_model.specs.Nameless.{NTy, NArg, NATerm, NAType, NACo, NBound, NJoined, NBranch}
use Rattle.fc_model.specs.Nameless.{NExpr, NLocal, NVar, NLit, NApp, NLam, NLet, NCase, NCast, NCon, NPrim, NFail, NJoin, NJump}
use Rattle.fc_model.specs.Nameless.{NArgs, NoNArgs, MoreNArgs, NExprs, NoNExprs, MoreNExprs, NBinds, NoNBinds, MoreNBinds, NJoins, NoNJoins, MoreNJoins, NAlts, NoNAlts, MoreNAlts}
use Rattle.fc_model.specs.Replacing.{bind_count, join_count}
use Rattle.fc_rows.specs.Changing.{changed, changed_alts, changed_arg, changed_args, changed_binds, changed_exprs, changed_joins, made}
use Rattle.fc_rows.specs.ChangingCoercions.{as_they_are}
use Rattle.fc_rows.specs.Surroundings.{Surroundings, apart, at_head, at_join_sides, at_right_sides, behind_binder, behind_binders, behind_binds, behind_joins, head_binds, in_alternative, listed_heads}
use Rattle.fc_parts.specs.Found.{Found, found, found_in_alts, found_in_arg, found_in_args, found_in_binds, found_in_exprs, found_in_joins}
use Rattle.fc_parts.proofs.Changes.{changes_none}
use Rattle.fc_result_limits.proofs.Blank.{blank_alts, blank_arg, blank_args, blank_binds, blank_exprs, blank_joins}
use Rattle.fc_result_limits.proofs.Deep.{nexpr_depth}
use Rattle.fc_limits_at_places.specs.Fitting.{nexpr_size}

-- MEASURES

-- how deep and how large trees are
pub record Measure (X : Type 0) : Type 0 where
  pub depth : X → ℕ
  pub size : X → ℕ

abbrev pub of_expr : Measure NExpr
of_expr = record { depth = nexpr_depth; size = nexpr_size }

abbrev of_arg : Measure NArg
of_arg = record { depth = λ a. arg_depth (blank_arg a); size = λ a. arg_size (blank_arg a) }

abbrev of_args : Measure NArgs
of_args = record { depth = λ args. args_depth (blank_args args); size = λ args. args_size (blank_args args) }

abbrev of_exprs : Measure NExprs
of_exprs = record { depth = λ es. exprs_depth (blank_exprs es); size = λ es. exprs_size (blank_exprs es) }

abbrev of_binds : Measure NBinds
of_binds = record { depth = λ bs. binds_depth (blank_binds bs); size = λ bs. binds_size (blank_binds bs) }

abbrev of_joins : Measure NJoins
of_joins = record { depth = λ js. joins_depth (blank_joins js); size = λ js. joins_size (blank_joins js) }

abbrev of_alts : Measure NAlts
of_alts = record { depth = λ alts. alts_depth (blank_alts alts); size = λ alts. alts_size (blank_alts alts) }

-- A WHOLE WITH ANOTHER PART

-- A whole in which a part becomes another at a distance: it is as deep as the new part is there, no deeper than that and the old whole, and larger by as much as
-- the part is.
pub record Follows {X : Type 0} (m : Measure X) (far : ℕ) (x y : NExpr) (old new : X) : Type 0 where
  pub deep : nexpr_depth y + far ≤ m.depth new
  pub no_deeper : m.depth new ≤ max (m.depth old) (nexpr_depth y + far)
  pub larger : m.size new + nexpr_size x ≡ m.size old + nexpr_size y

-- what a row makes of a part, and what of the whole: no part is found, the row makes nothing of it, or the whole follows
pub data IsMade (row : Surroundings → NExpr → Option NExpr) {X : Type 0} (m : Measure X) (far : ℕ) (old : X) : Option Found → Option X → Type 0 where
  nowhere : IsMade row m far old None None
  nothing : (t : Surroundings) (x : NExpr) → row t x ≡ None → IsMade row m far old (Some (t, x)) None
  another : (t : Surroundings) (x y : NExpr) (new : X) → row t x ≡ Some y → Follows m far x y old new → IsMade row m far old (Some (t, x)) (Some new)

module _ (row : Surroundings → NExpr → Option NExpr) where
  -- a whole around a part, which stands so many levels further in
  module _ {X Y : Type 0} (m : Measure X) (o : Measure Y) (far n away : ℕ) (sum : away ≡ far + n) (g : X → Y) (old : X) (deep : (z : X) → m.depth z + n ≤ o.depth (g z))
      (no_deeper : (z : X) → o.depth (g z) ≤ max (o.depth (g old)) (m.depth z + n)) (larger : (z : X) → o.size (g z) + m.size old ≡ o.size (g old) + m.size z) where
    pub around : (f : Option Found) (ch : Option X) → IsMade row m far old f ch → IsMade row o away (g old) f (made g ch)
    around _ _ nowhere = nowhere
    around _ _ (nothing t x none) = nothing t x none
    around _ _ (another t x y new is follows) = another t x y (g new) is (record {
      deep = omega (arith, sum, deep new, follows.deep);
      no_deeper = omega (arith, sum, no_deeper new, deep old, follows.no_deeper);
      larger = omega (arith, larger new, follows.larger);
    })

  -- one of two, by a test
  pub either : {X : Type 0} (m : Measure X) (far : ℕ) (old : X) (c : Bool) (f k : Option Found) (o q : Option X) → IsMade row m far old f o → IsMade row m far old k q
      → IsMade row m far old (if c then f else k) (if c then o else q)
  either m far old true f k o q first second = first
  either m far old false f k o q first second = second

  -- nothing, whatever a test says
  neither : {X Y : Type 0} (m : Measure Y) (far : ℕ) (old : Y) (c : Bool) (g : X → Y) → IsMade row m far old (if c then None else None) (made g (if c then None else None))
  neither m far old true g = nowhere
  neither m far old false g = nowhere

  -- no coercion is replaced
  unchanged : {X Y : Type 0} (m : Measure Y) (far : ℕ) (old : Y) (g : X → Y) (o : Option X) → o ≡ None → IsMade row m far old None (made g o)
  unchanged m far old g None none = nowhere
  unchanged m far old g (Some x) none = cc

  -- the part itself
  itself : (s : Surroundings) (e : NExpr) (o : Option NExpr) → row s e ≡ o → IsMade row of_expr 0 e (Some (s, e)) o
  itself s e None is = nothing s e is
  itself s e (Some y) is = another s e y y is (record { deep = omega arith; no_deeper = omega arith; larger = omega arith })

  mutual
    pub expr_made : (s : Surroundings) (p : List ℕ) (e : NExpr) → IsMade row of_expr (length p) e (found s p e) (changed row as_they_are s p e)
    expr_made s [] e = itself s e (row s e) refl
    expr_made s (i ∷ p) (NLocal v) = nowhere
    expr_made s (i ∷ p) (NVar n) = nowhere
    expr_made s (i ∷ p) (NLit n) = nowhere
    expr_made s (zero ∷ p) (NApp f a) =
        around of_expr of_expr _ 1 _ (omega arith) _ _ (λ z. omega arith) (λ z. omega arith) (λ z. omega arith) _ _ (expr_made (at_head a s) p f)
    expr_made s (suc zero ∷ p) (NApp f a) = around of_arg of_expr _ 1 _ (omega arith) _ _ (λ z. omega arith) (λ z. omega arith) (λ z. omega arith) _ _ (arg_made (apart s) p a)
    expr_made s (suc (suc i) ∷ p) (NApp f a) = nowhere
    expr_made s (zero ∷ p) (NLam b e) = nowhere
    expr_made s (suc zero ∷ p) (NLam b e) =
        around of_expr of_expr _ 1 _ (omega arith) _ _ (λ z. omega arith) (λ z. omega arith) (λ z. omega arith) _ _ (expr_made (behind_binder b (apart s)) p e)
    expr_made s (suc (suc i) ∷ p) (NLam b e) = nowhere
    expr_made s (i ∷ p) (NLet r bs e) =
        either of_expr _ _ (nat_eq i (bind_count bs)) _ _ _ _
        (around of_expr of_expr _ 1 _ (omega arith) _ _ (λ z. omega arith) (λ z. omega arith) (λ z. omega arith) _ _ (expr_made (behind_binds r bs s) p e))
        (around of_binds of_expr _ 1 _ (omega arith) _ _ (λ z. omega arith) (λ z. omega arith) (λ z. omega arith) _ _ (binds_made (at_right_sides r bs s) i p bs))
    expr_made s (zero ∷ p) (NCase e t u alts) = around of_expr of_expr _ 1 _ (omega arith) _ _ (λ z. omega arith) (λ z. omega arith) (λ z. omega arith) _ _ (expr_made (apart s) p e)
    expr_made s (suc zero ∷ p) (NCase e t u alts) = nowhere
    expr_made s (suc (suc zero) ∷ p) (NCase e t u alts) = nowhere
    expr_made s (suc (suc (suc i)) ∷ p) (NCase e t u alts) =
        around of_alts of_expr _ 1 _ (omega arith) _ _ (λ z. omega arith) (λ z. omega arith) (λ z. omega arith) _ _ (alts_made s e t (listed_heads alts) i p alts)
    expr_made s (zero ∷ p) (NCast e g) = around of_expr of_expr _ 1 _ (omega arith) _ _ (λ z. omega arith) (λ z. omega arith) (λ z. omega arith) _ _ (expr_made (apart s) p e)
    expr_made s (suc zero ∷ p) (NCast e g) = unchanged of_expr _ _ _ _ (changes_none s.context.kinds s.context.coercions p g)
    expr_made s (suc (suc i) ∷ p) (NCast e g) = nowhere
    expr_made s (i ∷ p) (NCon n args) = around of_args of_expr _ 1 _ (omega arith) _ _ (λ z. omega arith) (λ z. omega arith) (λ z. omega arith) _ _ (args_made (apart s) i p args)
    expr_made s (i ∷ p) (NPrim op es) = around of_exprs of_expr _ 1 _ (omega arith) _ _ (λ z. omega arith) (λ z. omega arith) (λ z. omega arith) _ _ (exprs_made (apart s) i p es)
    expr_made s (i ∷ p) (NFail t) = nowhere
    expr_made s (zero ∷ p) (NJoin r t js e) = nowhere
    expr_made s (suc i ∷ p) (NJoin r t js e) =
        either of_expr _ _ (nat_eq i (join_count js)) _ _ _ _
        (around of_expr of_expr _ 1 _ (omega arith) _ _ (λ z. omega arith) (λ z. omega arith) (λ z. omega arith) _ _ (expr_made (behind_joins r t js s) p e))
        (around of_joins of_expr _ 1 _ (omega arith) _ _ (λ z. omega arith) (λ z. omega arith) (λ z. omega arith) _ _ (joins_made (at_join_sides r t js s) i p js))
    expr_made s (i ∷ p) (NJump j args) = around of_args of_expr _ 1 _ (omega arith) _ _ (λ z. omega arith) (λ z. omega arith) (λ z. omega arith) _ _ (args_made (apart s) i p args)

    arg_made : (s : Surroundings) (p : List ℕ) (a : NArg) → IsMade row of_arg (length p) a (found_in_arg s p a) (changed_arg row as_they_are s p a)
    arg_made s p (NATerm e) = around of_expr of_arg _ 0 _ (omega arith) _ _ (λ z. omega arith) (λ z. omega arith) (λ z. omega arith) _ _ (expr_made s p e)
    arg_made s p (NAType t) = nowhere
    arg_made s p (NACo g) = unchanged of_arg _ _ _ _ (changes_none s.context.kinds s.context.coercions p g)

    args_made : (s : Surroundings) (i : ℕ) (p : List ℕ) (args : NArgs) → IsMade row of_args (length p) args (found_in_args s i p args) (changed_args row as_they_are s i p args)
    args_made s i p NoNArgs = nowhere
    args_made s zero p (MoreNArgs a rest) = around of_arg of_args _ 0 _ (omega arith) _ _ (λ z. omega arith) (λ z. omega arith) (λ z. omega arith) _ _ (arg_made s p a)
    args_made s (suc i) p (MoreNArgs a rest) = around of_args of_args _ 0 _ (omega arith) _ _ (λ z. omega arith) (λ z. omega arith) (λ z. omega arith) _ _ (args_made s i p rest)

    exprs_made : (s : Surroundings) (i : ℕ) (p : List ℕ) (es : NExprs) → IsMade row of_exprs (length p) es (found_in_exprs s i p es) (changed_exprs row as_they_are s i p es)
    exprs_made s i p NoNExprs = nowhere
    exprs_made s zero p (MoreNExprs e rest) = around of_expr of_exprs _ 0 _ (omega arith) _ _ (λ z. omega arith) (λ z. omega arith) (λ z. omega arith) _ _ (expr_made s p e)
    exprs_made s (suc i) p (MoreNExprs e rest) = around of_exprs of_exprs _ 0 _ (omega arith) _ _ (λ z. omega arith) (λ z. omega arith) (λ z. omega arith) _ _ (exprs_made s i p rest)

    binds_made : (s : Surroundings) (i : ℕ) (p : List ℕ) (bs : NBinds) → IsMade row of_binds (length p) bs (found_in_binds s i p bs) (changed_binds row as_they_are s i p bs)
    binds_made s i p NoNBinds = nowhere
    binds_made s zero [] (MoreNBinds (NBound t e) rest) = nowhere
    binds_made s zero (i ∷ p) (MoreNBinds (NBound t e) rest) =
        around of_expr of_binds _ 1 _ (omega arith) _ _ (λ z. omega arith) (λ z. omega arith) (λ z. omega arith) _ _ (either of_expr _ _ (nat_eq i 1) _ _ _ _ (expr_made s p e) nowhere)
    binds_made s (suc i) p (MoreNBinds b rest) = around of_binds of_binds _ 0 _ (omega arith) _ _ (λ z. omega arith) (λ z. omega arith) (λ z. omega arith) _ _ (binds_made s i p rest)

    joins_made : (s : Surroundings) (i : ℕ) (p : List ℕ) (js : NJoins) → IsMade row of_joins (length p) js (found_in_joins s i p js) (changed_joins row as_they_are s i p js)
    joins_made s i p NoNJoins = nowhere
    joins_made s zero [] (MoreNJoins (NJoined ps e) rest) = nowhere
    joins_made s zero (i ∷ p) (MoreNJoins (NJoined ps e) rest) =
        around of_expr of_joins _ 1 _ (omega arith) _ _ (λ z. omega arith) (λ z. omega arith) (λ z. omega arith) _ _
        (either of_expr _ _ (nat_eq i (length ps)) _ _ _ _ (expr_made (behind_binders ps s) p e) nowhere)
    joins_made s (suc i) p (MoreNJoins j rest) = around of_joins of_joins _ 0 _ (omega arith) _ _ (λ z. omega arith) (λ z. omega arith) (λ z. omega arith) _ _ (joins_made s i p rest)

    alts_made : (s : Surroundings) (e : NExpr) (t : NTy) (hs : List Head) (i : ℕ) (p : List ℕ) (alts : NAlts)
        → IsMade row of_alts (length p) alts (found_in_alts s e t hs i p alts) (changed_alts row as_they_are s e t hs i p alts)
    alts_made s e t hs i p NoNAlts = nowhere
    alts_made s e t hs zero [] (MoreNAlts (NBranch h bs b) rest) = neither of_alts _ _ (head_binds h bs) _
    alts_made s e t hs zero (i ∷ p) (MoreNAlts (NBranch h bs b) rest) =
        around of_expr of_alts _ 1 _ (omega arith) _ _ (λ z. omega arith) (λ z. omega arith) (λ z. omega arith) _ _
        (either of_expr _ _ (head_binds h bs) _ _ _ _ (either of_expr _ _ (nat_eq i (length bs)) _ _ _ _ (expr_made (in_alternative e t hs h bs s) p b) nowhere) nowhere)
    alts_made s e t hs (suc i) p (MoreNAlts a rest) = around of_alts of_alts _ 0 _ (omega arith) _ _ (λ z. omega arith) (λ z. omega arith) (λ z. omega arith) _ _ (alts_made s e t hs i p rest)

  -- a part that is found, and of which the row makes something
  pub followed : {X : Type 0} (m : Measure X) (far : ℕ) (old : X) (f : Option Found) (ch : Option X) (t : Surroundings) (x y : NExpr) (new : X) → IsMade row m far old f ch
      → f ≡ Some (t, x) → row t x ≡ Some y → ch ≡ Some new → Follows m far x y old new
  followed m far old _ _ t x y new nowhere at is makes = absurd (none-some _ at)
  followed m far old _ _ t x y new (nothing u z none) at is makes = absurd (none-some _ makes)
  followed m far old _ _ t x y new (another u z v other is_v follows) at is makes =
      let found_is : ◌≡◌ {A = Found} (u, z) (t, x) = same_Some _ _ at in
      let part : z ≡ x = ap (λ q. q.1) found_is in
      let by_row : v ≡ y = same_Some _ _ (sym is_v ∙ ap (λ q. row q.0 q.1) found_is ∙ is) in
      let whole : other ≡ new = same_Some _ _ makes in
      record {
        deep = omega (arith, ap nexpr_depth by_row, ap m.depth whole, follows.deep);
        no_deeper = omega (arith, ap nexpr_depth by_row, ap m.depth whole, follows.no_deeper);
        larger = omega (arith, ap nexpr_size by_row, ap nexpr_size part, ap m.size whole, follows.larger);
      }

  -- AN EXPRESSION

  module _ (s t : Surroundings) (p : List ℕ) (e f x y : NExpr) (at : found s p e ≡ Some (t, x)) (is : row t x ≡ Some y) (makes : changed row as_they_are s p e ≡ Some f) where
    follows : Follows of_expr (length p) x y e f
    follows = followed of_expr (length p) e (found s p e) (changed row as_they_are s p e) t x y f (expr_made s p e) at is makes

    -- as deep as the new part is at its place, and no deeper than that and what was there before
    pub changed_depth : (nexpr_depth y + length p ≤ nexpr_depth f) × (nexpr_depth f ≤ max (nexpr_depth e) (nexpr_depth y + length p))
    changed_depth = (follows.deep, follows.no_deeper)

    -- larger by as much as the new part is
    pub changed_size : nexpr_size f + nexpr_size x ≡ nexpr_size e + nexpr_size y
    changed_size = follows.larger
