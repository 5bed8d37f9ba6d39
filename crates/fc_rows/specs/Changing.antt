-- The change of the part of an expression at a place. A place is a list of part numbers; the parts of an expression are counted from 0 in the
-- order of the text.
use Rattle.std.specs.Prelude.{ℕ, zero, suc, nat_eq, if◌then◌else◌, List, [], ◌∷◌, length, Option, None}
use Rattle.fc_syntax.specs.declared.expr.Head.{Head}
use Rattle.fc_syntax.specs.Tree.{Kind}
use Rattle.fc_model.specs.Coercing.{Ends}
use Rattle.fc_model.specs.Nameless.{NCo, NTy, NArg, NATerm, NAType, NACo, NBound, NJoined, NBranch}
use Rattle.fc_model.specs.Nameless.{NExpr, NLocal, NVar, NLit, NApp, NLam, NLet, NCase, NCast, NCon, NPrim, NFail, NJoin, NJump}
use Rattle.fc_model.specs.Nameless.{NArgs, NoNArgs, MoreNArgs, NExprs, NoNExprs, MoreNExprs, NBinds, NoNBinds, MoreNBinds, NJoins, NoNJoins, MoreNJoins, NAlts, NoNAlts, MoreNAlts}
use Rattle.fc_model.specs.Replacing.{bind_count, join_count}
use Rattle.fc_rows.specs.ChangingCoercions.{changed_coercion}
pub use Rattle.fc_rows.specs.ChangingCoercions.{made}
use Rattle.fc_rows.specs.Surroundings.{Surroundings, apart, at_head, at_join_sides, at_right_sides, head_binds, behind_binder, behind_binders, behind_binds, behind_joins, in_alternative, listed_heads}

-- a change of part n, where the place goes on there
abbrev pub in_part : {X : Type 0} → ℕ → List ℕ → (List ℕ → Option X) → Option X
in_part n [] change = None
in_part n (i ∷ p) change = if nat_eq i n then change p else None

-- what replaces a part in its surroundings, and what replaces a coercion, where something does
module _ (row : Surroundings → NExpr → Option NExpr) (co : List Kind → List Ends → NCo → Option NCo) where
  abbrev mutual
    -- the expression with the part at a place replaced
    pub changed : Surroundings → List ℕ → NExpr → Option NExpr
    changed s [] e = row s e
    changed s (i ∷ p) (NLocal v) = None
    changed s (i ∷ p) (NVar n) = None
    changed s (i ∷ p) (NLit n) = None
    changed s (zero ∷ p) (NApp f a) = made (λ g. NApp g a) (changed (at_head a s) p f)
    changed s (suc zero ∷ p) (NApp f a) = made (λ b. NApp f b) (changed_arg (apart s) p a)
    changed s (suc (suc i) ∷ p) (NApp f a) = None
    changed s (zero ∷ p) (NLam b e) = None
    changed s (suc zero ∷ p) (NLam b e) = made (λ f. NLam b f) (changed (behind_binder b (apart s)) p e)
    changed s (suc (suc i) ∷ p) (NLam b e) = None
    changed s (i ∷ p) (NLet r bs e) =
        if nat_eq i (bind_count bs) then made (λ f. NLet r bs f) (changed (behind_binds r bs s) p e)
        else made (λ cs. NLet r cs e) (changed_binds (at_right_sides r bs s) i p bs)
    changed s (zero ∷ p) (NCase e t u alts) = made (λ f. NCase f t u alts) (changed (apart s) p e)
    changed s (suc zero ∷ p) (NCase e t u alts) = None
    changed s (suc (suc zero) ∷ p) (NCase e t u alts) = None
    changed s (suc (suc (suc i)) ∷ p) (NCase e t u alts) = made (λ bs. NCase e t u bs) (changed_alts s e t (listed_heads alts) i p alts)
    changed s (zero ∷ p) (NCast e g) = made (λ f. NCast f g) (changed (apart s) p e)
    changed s (suc zero ∷ p) (NCast e g) = made (λ h. NCast e h) (changed_coercion co s.context.kinds s.context.coercions p g)
    changed s (suc (suc i) ∷ p) (NCast e g) = None
    changed s (i ∷ p) (NCon n args) = made (λ more. NCon n more) (changed_args (apart s) i p args)
    changed s (i ∷ p) (NPrim op es) = made (λ fs. NPrim op fs) (changed_exprs (apart s) i p es)
    changed s (i ∷ p) (NFail t) = None
    changed s (zero ∷ p) (NJoin r t js e) = None
    changed s (suc i ∷ p) (NJoin r t js e) =
        if nat_eq i (join_count js) then made (λ f. NJoin r t js f) (changed (behind_joins r t js s) p e)
        else made (λ ks. NJoin r t ks e) (changed_joins (at_join_sides r t js s) i p js)
    changed s (i ∷ p) (NJump j args) = made (λ more. NJump j more) (changed_args (apart s) i p args)

    -- a term, or a coercion, as an argument stands at the place of the argument
    pub changed_arg : Surroundings → List ℕ → NArg → Option NArg
    changed_arg s p (NATerm e) = made NATerm (changed s p e)
    changed_arg s p (NAType t) = None
    changed_arg s p (NACo g) = made NACo (changed_coercion co s.context.kinds s.context.coercions p g)

    -- in the list the one with this number
    pub changed_args : Surroundings → ℕ → List ℕ → NArgs → Option NArgs
    changed_args s i p NoNArgs = None
    changed_args s zero p (MoreNArgs a rest) = made (λ b. MoreNArgs b rest) (changed_arg s p a)
    changed_args s (suc i) p (MoreNArgs a rest) = made (λ more. MoreNArgs a more) (changed_args s i p rest)

    pub changed_exprs : Surroundings → ℕ → List ℕ → NExprs → Option NExprs
    changed_exprs s i p NoNExprs = None
    changed_exprs s zero p (MoreNExprs e rest) = made (λ f. MoreNExprs f rest) (changed s p e)
    changed_exprs s (suc i) p (MoreNExprs e rest) = made (λ more. MoreNExprs e more) (changed_exprs s i p rest)

    -- the right side is the last part of a bind, of a join point and of an alternative
    pub changed_binds : Surroundings → ℕ → List ℕ → NBinds → Option NBinds
    changed_binds s i p NoNBinds = None
    changed_binds s zero p (MoreNBinds (NBound t e) rest) = made (λ f. MoreNBinds (NBound t f) rest) (in_part 1 p (λ q. changed s q e))
    changed_binds s (suc i) p (MoreNBinds b rest) = made (λ more. MoreNBinds b more) (changed_binds s i p rest)

    pub changed_joins : Surroundings → ℕ → List ℕ → NJoins → Option NJoins
    changed_joins s i p NoNJoins = None
    changed_joins s zero p (MoreNJoins (NJoined ps e) rest) = made (λ f. MoreNJoins (NJoined ps f) rest) (in_part (length ps) p (λ q. changed (behind_binders ps s) q e))
    changed_joins s (suc i) p (MoreNJoins j rest) = made (λ more. MoreNJoins j more) (changed_joins s i p rest)

    -- alternatives of a case on e, whose binder is of type t, with these heads
    pub changed_alts : Surroundings → NExpr → NTy → List Head → ℕ → List ℕ → NAlts → Option NAlts
    changed_alts s e t hs i p NoNAlts = None
    changed_alts s e t hs zero p (MoreNAlts (NBranch h bs b) rest) =
        made (λ c. MoreNAlts (NBranch h bs c) rest) (if head_binds h bs then in_part (length bs) p (λ q. changed (in_alternative e t hs h bs s) q b) else None)
    changed_alts s e t hs (suc i) p (MoreNAlts a rest) = made (λ more. MoreNAlts a more) (changed_alts s e t hs i p rest)
