-- The expression in a part of another, and what stands around it: an outer frame, and in some parts an inner one.
use Rattle.std.specs.Prelude.{ℕ, zero, suc, ◌||◌, nat_eq, if◌then◌else◌, List, Option, Some, None}
use Rattle.fc_syntax.specs.declared.expr.Head.{Head}
use Rattle.fc_model.specs.Nameless.{NTy, NBind, NBound, NJoinBind, NJoined, NAlt, NBranch}
use Rattle.fc_model.specs.Nameless.{NExpr, NLocal, NVar, NLit, NApp, NLam, NLet, NCase, NCast, NCon, NPrim, NFail, NJoin, NJump}
use Rattle.fc_model.specs.Nameless.{NJoins, NoNJoins, MoreNJoins, NAlts, NoNAlts, MoreNAlts}
use Rattle.fc_model.specs.Replacing.{bind_count, join_count}
use Rattle.fc_rows.specs.Surroundings.{Surroundings, apart, at_head, behind_binder, behind_binders, behind_binds, behind_joins, head_binds, in_alternative, listed_heads}
use Rattle.fc_known.specs.Around.{unapplied}
use Rattle.fc_parts.specs.PartsAt.{of_alt, of_arg, of_bind, of_expr, of_join, of_term}

-- the right side of a bind, of a join point, and of an alternative
abbrev pub side_of_bind : NBind → Option NExpr
side_of_bind (NBound t e) = Some e

abbrev pub side_of_join : NJoinBind → Option NExpr
side_of_join (NJoined ps e) = Some e

abbrev pub side_of_alt : NAlt → Option NExpr
side_of_alt (NBranch h bs e) = if head_binds h bs then Some e else None

-- the expression in the part of a number among those that are searched
abbrev pub child : ℕ → NExpr → Option NExpr
child k (NLocal v) = None
child k (NVar n) = None
child k (NLit n) = None
child zero (NApp f a) = Some f
child (suc zero) (NApp f a) = of_term Some a
child (suc (suc k)) (NApp f a) = None
child k (NLam b e) = Some e
child k (NLet r bs e) = if nat_eq k (bind_count bs) then Some e else of_bind k side_of_bind bs
child zero (NCase e t u alts) = Some e
child (suc k) (NCase e t u alts) = of_alt k side_of_alt alts
child k (NCast e g) = Some e
child k (NCon n args) = of_arg k (of_term Some) args
child k (NPrim op es) = of_expr k Some es
child k (NFail t) = None
child k (NJoin r t js e) = if nat_eq k (join_count js) then Some e else of_join k side_of_join js
child k (NJump j args) = of_arg k (of_term Some) args

-- what stands around it, first
abbrev pub outer : ℕ → NExpr → Surroundings → Surroundings
outer k (NLocal v) s = apart s
outer k (NVar n) s = apart s
outer k (NLit n) s = apart s
outer zero (NApp f a) s = at_head a s
outer (suc k) (NApp f a) s = apart s
outer k (NLam b e) s = apart s
outer k (NLet r bs e) s = if nat_eq k (bind_count bs) || r then behind_binds r bs s else s
outer zero (NCase e t u alts) s = apart s
outer (suc k) (NCase e t u alts) s = s
outer k (NCast e g) s = apart s
outer k (NCon n args) s = apart s
outer k (NPrim op es) s = apart s
outer k (NFail t) s = apart s
outer k (NJoin r t js e) s = if nat_eq k (join_count js) || r then behind_joins r t js s else unapplied s
outer k (NJump j args) s = apart s

-- behind the parameters of a join point, and behind an alternative
abbrev pub behind_point : ℕ → NJoins → Surroundings → Surroundings
behind_point k NoNJoins s = s
behind_point zero (MoreNJoins (NJoined ps e) rest) s = behind_binders ps s
behind_point (suc k) (MoreNJoins j rest) s = behind_point k rest s

abbrev pub behind_branch : NExpr → NTy → List Head → ℕ → NAlts → Surroundings → Surroundings
behind_branch e t hs k NoNAlts s = s
behind_branch e t hs zero (MoreNAlts (NBranch h bs b) rest) s = in_alternative e t hs h bs s
behind_branch e t hs (suc k) (MoreNAlts a rest) s = behind_branch e t hs k rest s

-- and then
abbrev pub inner : ℕ → NExpr → Surroundings → Surroundings
inner k (NLocal v) s = s
inner k (NVar n) s = s
inner k (NLit n) s = s
inner k (NApp f a) s = s
inner k (NLam b e) s = behind_binder b s
inner k (NLet r bs e) s = if nat_eq k (bind_count bs) then s else apart s
inner zero (NCase e t u alts) s = s
inner (suc k) (NCase e t u alts) s = behind_branch e t (listed_heads alts) k alts s
inner k (NCast e g) s = s
inner k (NCon n args) s = s
inner k (NPrim op es) s = s
inner k (NFail t) s = s
inner k (NJoin r t js e) s = behind_point k js s
inner k (NJump j args) s = s
