-- The part of an expression at a place, where a row may look, and what stands around it.
use Rattle.std.specs.Prelude.{ℕ, zero, suc, nat_eq, if◌then◌else◌, List, [], ◌∷◌, length, Option, Some, None}
use Rattle.fc_syntax.specs.declared.expr.Head.{Head}
use Rattle.fc_model.specs.Nameless.{NTy, NArg, NATerm, NAType, NACo, NBound, NJoined, NBranch}
use Rattle.fc_model.specs.Nameless.{NExpr, NLocal, NVar, NLit, NApp, NLam, NLet, NCase, NCast, NCon, NPrim, NFail, NJoin, NJump}
use Rattle.fc_model.specs.Nameless.{NArgs, NoNArgs, MoreNArgs, NExprs, NoNExprs, MoreNExprs, NBinds, NoNBinds, MoreNBinds, NJoins, NoNJoins, MoreNJoins, NAlts, NoNAlts, MoreNAlts}
use Rattle.fc_model.specs.Replacing.{bind_count, join_count}
use Rattle.fc_rows.specs.Changing.{in_part}
use Rattle.fc_rows.specs.Surroundings.{Surroundings, apart, at_head, at_join_sides, at_right_sides, head_binds, behind_binder, behind_binders, behind_binds, behind_joins, in_alternative, listed_heads}

abbrev pub Found : Type 0
Found = Surroundings × NExpr

abbrev mutual
  pub found : Surroundings → List ℕ → NExpr → Option Found
  found s [] e = Some (s, e)
  found s (i ∷ p) (NLocal v) = None
  found s (i ∷ p) (NVar n) = None
  found s (i ∷ p) (NLit n) = None
  found s (zero ∷ p) (NApp f a) = found (at_head a s) p f
  found s (suc zero ∷ p) (NApp f a) = found_in_arg (apart s) p a
  found s (suc (suc i) ∷ p) (NApp f a) = None
  found s (zero ∷ p) (NLam b e) = None
  found s (suc zero ∷ p) (NLam b e) = found (behind_binder b (apart s)) p e
  found s (suc (suc i) ∷ p) (NLam b e) = None
  found s (i ∷ p) (NLet r bs e) = if nat_eq i (bind_count bs) then found (behind_binds r bs s) p e else found_in_binds (at_right_sides r bs s) i p bs
  found s (zero ∷ p) (NCase e t u alts) = found (apart s) p e
  found s (suc zero ∷ p) (NCase e t u alts) = None
  found s (suc (suc zero) ∷ p) (NCase e t u alts) = None
  found s (suc (suc (suc i)) ∷ p) (NCase e t u alts) = found_in_alts s e t (listed_heads alts) i p alts
  found s (zero ∷ p) (NCast e g) = found (apart s) p e
  found s (suc i ∷ p) (NCast e g) = None
  found s (i ∷ p) (NCon n args) = found_in_args (apart s) i p args
  found s (i ∷ p) (NPrim op es) = found_in_exprs (apart s) i p es
  found s (i ∷ p) (NFail t) = None
  found s (zero ∷ p) (NJoin r t js e) = None
  found s (suc i ∷ p) (NJoin r t js e) = if nat_eq i (join_count js) then found (behind_joins r t js s) p e else found_in_joins (at_join_sides r t js s) i p js
  found s (i ∷ p) (NJump j args) = found_in_args (apart s) i p args

  pub found_in_arg : Surroundings → List ℕ → NArg → Option Found
  found_in_arg s p (NATerm e) = found s p e
  found_in_arg s p (NAType t) = None
  found_in_arg s p (NACo g) = None

  pub found_in_args : Surroundings → ℕ → List ℕ → NArgs → Option Found
  found_in_args s i p NoNArgs = None
  found_in_args s zero p (MoreNArgs a rest) = found_in_arg s p a
  found_in_args s (suc i) p (MoreNArgs a rest) = found_in_args s i p rest

  pub found_in_exprs : Surroundings → ℕ → List ℕ → NExprs → Option Found
  found_in_exprs s i p NoNExprs = None
  found_in_exprs s zero p (MoreNExprs e rest) = found s p e
  found_in_exprs s (suc i) p (MoreNExprs e rest) = found_in_exprs s i p rest

  pub found_in_binds : Surroundings → ℕ → List ℕ → NBinds → Option Found
  found_in_binds s i p NoNBinds = None
  found_in_binds s zero p (MoreNBinds (NBound t e) rest) = in_part 1 p (λ q. found s q e)
  found_in_binds s (suc i) p (MoreNBinds b rest) = found_in_binds s i p rest

  pub found_in_joins : Surroundings → ℕ → List ℕ → NJoins → Option Found
  found_in_joins s i p NoNJoins = None
  found_in_joins s zero p (MoreNJoins (NJoined ps e) rest) = in_part (length ps) p (λ q. found (behind_binders ps s) q e)
  found_in_joins s (suc i) p (MoreNJoins j rest) = found_in_joins s i p rest

  pub found_in_alts : Surroundings → NExpr → NTy → List Head → ℕ → List ℕ → NAlts → Option Found
  found_in_alts s e t hs i p NoNAlts = None
  found_in_alts s e t hs zero p (MoreNAlts (NBranch h bs b) rest) = if head_binds h bs then in_part (length bs) p (λ q. found (in_alternative e t hs h bs s) q b) else None
  found_in_alts s e t hs (suc i) p (MoreNAlts a rest) = found_in_alts s e t hs i p rest
