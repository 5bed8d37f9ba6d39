-- What is asked of the part of an expression at a place, where a row may look, and of what stands around it. A place is a list of part numbers, from the outermost
-- part inwards; the parts of an expression are counted from 0 in the order of the text.
use Rattle.std.specs.Prelude.{ℕ, zero, suc, ◌-◌, nat_eq, nat_lt, if◌then◌else◌, List, [], ◌∷◌, length, Option, None}
use Rattle.fc_syntax.specs.declared.expr.Head.{Head}
use Rattle.fc_model.specs.Nameless.{NTy, NArg, NATerm, NAType, NACo, NBind, NBound, NJoinBind, NJoined, NAlt, NBranch}
use Rattle.fc_model.specs.Nameless.{NExpr, NLocal, NVar, NLit, NApp, NLam, NLet, NCase, NCast, NCon, NPrim, NFail, NJoin, NJump}
use Rattle.fc_model.specs.Nameless.{NArgs, NoNArgs, MoreNArgs, NExprs, NoNExprs, MoreNExprs, NBinds, NoNBinds, MoreNBinds, NJoins, NoNJoins, MoreNJoins, NAlts, NoNAlts, MoreNAlts}
use Rattle.fc_model.specs.Replacing.{bind_count, join_count}
use Rattle.fc_rows.specs.Surroundings.{Surroundings, apart, at_head, at_join_sides, at_right_sides, behind_binder, behind_binders, behind_binds, behind_joins, head_binds, in_alternative, listed_heads}

-- the one of a number in a list of arguments, of operands, of binds, of join points and of alternatives
module _ {X : Type 0} where
  unfoldable pub of_arg : ℕ → (NArg → Option X) → NArgs → Option X
  of_arg n f NoNArgs = None
  of_arg zero f (MoreNArgs a rest) = f a
  of_arg (suc n) f (MoreNArgs a rest) = of_arg n f rest

  unfoldable pub of_expr : ℕ → (NExpr → Option X) → NExprs → Option X
  of_expr n f NoNExprs = None
  of_expr zero f (MoreNExprs e rest) = f e
  of_expr (suc n) f (MoreNExprs e rest) = of_expr n f rest

  unfoldable pub of_bind : ℕ → (NBind → Option X) → NBinds → Option X
  of_bind n f NoNBinds = None
  of_bind zero f (MoreNBinds b rest) = f b
  of_bind (suc n) f (MoreNBinds b rest) = of_bind n f rest

  unfoldable pub of_join : ℕ → (NJoinBind → Option X) → NJoins → Option X
  of_join n f NoNJoins = None
  of_join zero f (MoreNJoins j rest) = f j
  of_join (suc n) f (MoreNJoins j rest) = of_join n f rest

  unfoldable pub of_alt : ℕ → (NAlt → Option X) → NAlts → Option X
  of_alt n f NoNAlts = None
  of_alt zero f (MoreNAlts a rest) = f a
  of_alt (suc n) f (MoreNAlts a rest) = of_alt n f rest

  abbrev pub of_term : (NExpr → Option X) → NArg → Option X
  of_term f (NATerm e) = f e
  of_term f (NAType t) = None
  of_term f (NACo g) = None

  -- What is asked of a part of an expression, in the surroundings of that part: of an expression, a bind, a join point, or an alternative of a case on an
  -- expression, whose binder is of a type, among the heads that are listed.
  abbrev pub of_part : ℕ → (Surroundings → NExpr → Option X) → (Surroundings → NBind → Option X) → (Surroundings → NJoinBind → Option X) → (NExpr → NTy → List Head → Surroundings → NAlt → Option X) → Surroundings
      → NExpr → Option X
  of_part i f b j c s (NLocal v) = None
  of_part i f b j c s (NVar n) = None
  of_part i f b j c s (NLit n) = None
  of_part i f b j c s (NApp head a) = if nat_eq i 0 then f (at_head a s) head else (if nat_eq i 1 then of_term (f (apart s)) a else None)
  of_part i f b j c s (NLam x e) = if nat_eq i 1 then f (behind_binder x (apart s)) e else None
  of_part i f b j c s (NLet r bs e) = if nat_eq i (bind_count bs) then f (behind_binds r bs s) e else of_bind i (b (at_right_sides r bs s)) bs
  of_part i f b j c s (NCase e t u alts) = if nat_eq i 0 then f (apart s) e else (if nat_lt i 3 then None else of_alt (i - 3) (c e t (listed_heads alts) s) alts)
  of_part i f b j c s (NCast e g) = if nat_eq i 0 then f (apart s) e else None
  of_part i f b j c s (NCon n args) = of_arg i (of_term (f (apart s))) args
  of_part i f b j c s (NPrim op es) = of_expr i (f (apart s)) es
  of_part i f b j c s (NFail t) = None
  of_part i f b j c s (NJoin r t js e) =
      if nat_eq i 0 then None else (if nat_eq (i - 1) (join_count js) then f (behind_joins r t js s) e else of_join (i - 1) (j (at_join_sides r t js s)) js)
  of_part i f b j c s (NJump n args) = of_arg i (of_term (f (apart s))) args

-- Of arguments only terms have parts that rows look at; the right side is the last part of a bind, of a join point and of an alternative, where a default and a
-- literal bind nothing.
module _ {X : Type 0} (ask : Surroundings → NExpr → Option X) where
  unfoldable mutual
    pub at_place : List ℕ → Surroundings → NExpr → Option X
    at_place [] s e = ask s e
    at_place (i ∷ p) s e = of_part i (at_place p) (at_place_of_bind p) (at_place_of_join p) (at_place_of_alt p) s e

    pub at_place_of_bind : List ℕ → Surroundings → NBind → Option X
    at_place_of_bind [] s b = None
    at_place_of_bind (i ∷ p) s (NBound t e) = if nat_eq i 1 then at_place p s e else None

    pub at_place_of_join : List ℕ → Surroundings → NJoinBind → Option X
    at_place_of_join [] s j = None
    at_place_of_join (i ∷ p) s (NJoined ps e) = if nat_eq i (length ps) then at_place p (behind_binders ps s) e else None

    pub at_place_of_alt : List ℕ → NExpr → NTy → List Head → Surroundings → NAlt → Option X
    at_place_of_alt [] e t hs s a = None
    at_place_of_alt (i ∷ p) e t hs s (NBranch h bs b) = if head_binds h bs then (if nat_eq i (length bs) then at_place p (in_alternative e t hs h bs s) b else None) else None
