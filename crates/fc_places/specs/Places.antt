-- The part of an expression at a place, and the expression with another part there. A place is a list of part numbers, from the outermost part inwards; the
-- parts of an expression are counted from 0 in the order of the text. Only parts that are expressions are exchanged; a term as an argument stands at the
-- place of the argument, and the body of a bind, of a join point and of an alternative is its last part.
use Rattle.std.specs.Prelude.{ℕ, zero, suc, ◌-◌, nat_eq, nat_lt, if◌then◌else◌, List, [], ◌∷◌, length, Option, Some, None, Result, Ok, Err}
use Rattle.fc_syntax.specs.declared.expr.Expr as E
use Rattle.fc_syntax.specs.View.{expr_of}
use Rattle.fc_syntax.specs.GenericTree.{Word, Expr, EVar, ELit, EApp, ELam, ELet, ECase, ECast, ECon, EPrim, EFail, EJoin, EJump, Arg, ATerm, AType, ACo}
use Rattle.fc_syntax.specs.GenericTree.{Bind, Bound, JoinBind, Joined, Alt, Branch, Exprs, NoExprs, MoreExprs, Args, NoArgs, MoreArgs, Binds, NoBinds, MoreBinds}
use Rattle.fc_syntax.specs.GenericTree.{Joins, NoJoins, MoreJoins, Alts, NoAlts, MoreAlts}

-- how many binds, and how many join points
abbrev pub bind_count : {L V B : Type 0} → Binds L V B → ℕ
bind_count NoBinds = 0
bind_count (MoreBinds b rest) = suc (bind_count rest)

abbrev pub join_count : {L V B : Type 0} → Joins L V B → ℕ
join_count NoJoins = 0
join_count (MoreJoins j rest) = suc (join_count rest)

-- what was taken out, and what stands around its place once another is put in
abbrev pub Exchanged : (L V B X : Type 0) → Type 0
Exchanged L V B X = Option (Expr L V B × X)

-- what a call answers, and what it leaves where it found another
abbrev pub answered : {L V X : Type 0} → Result (E.Expr L V) (E.Expr L V) → X → Exchanged L V Word X
answered (Ok old) new = Some (expr_of old, new)
answered (Err given) new = None

-- what stands around that
abbrev pub around : {L V B X Y : Type 0} → (X → Y) → Exchanged L V B X → Exchanged L V B Y
around f None = None
around f (Some r) = Some (r.0, f r.1)

-- in a list, the one of a number
module _ {L V B : Type 0} where
  unfoldable pub in_expr : ℕ → (Expr L V B → Exchanged L V B (Expr L V B)) → Exprs L V B → Exchanged L V B (Exprs L V B)
  in_expr n f NoExprs = None
  in_expr zero f (MoreExprs e rest) = around (λ x. MoreExprs x rest) (f e)
  in_expr (suc n) f (MoreExprs e rest) = around (λ more. MoreExprs e more) (in_expr n f rest)

  unfoldable pub in_arg : ℕ → (Arg L V B → Exchanged L V B (Arg L V B)) → Args L V B → Exchanged L V B (Args L V B)
  in_arg n f NoArgs = None
  in_arg zero f (MoreArgs a rest) = around (λ x. MoreArgs x rest) (f a)
  in_arg (suc n) f (MoreArgs a rest) = around (λ more. MoreArgs a more) (in_arg n f rest)

  unfoldable pub in_bind : ℕ → (Bind L V B → Exchanged L V B (Bind L V B)) → Binds L V B → Exchanged L V B (Binds L V B)
  in_bind n f NoBinds = None
  in_bind zero f (MoreBinds b rest) = around (λ x. MoreBinds x rest) (f b)
  in_bind (suc n) f (MoreBinds b rest) = around (λ more. MoreBinds b more) (in_bind n f rest)

  unfoldable pub in_join : ℕ → (JoinBind L V B → Exchanged L V B (JoinBind L V B)) → Joins L V B → Exchanged L V B (Joins L V B)
  in_join n f NoJoins = None
  in_join zero f (MoreJoins j rest) = around (λ x. MoreJoins x rest) (f j)
  in_join (suc n) f (MoreJoins j rest) = around (λ more. MoreJoins j more) (in_join n f rest)

  unfoldable pub in_alt : ℕ → (Alt L V B → Exchanged L V B (Alt L V B)) → Alts L V B → Exchanged L V B (Alts L V B)
  in_alt n f NoAlts = None
  in_alt zero f (MoreAlts a rest) = around (λ x. MoreAlts x rest) (f a)
  in_alt (suc n) f (MoreAlts a rest) = around (λ more. MoreAlts a more) (in_alt n f rest)

  -- a term as an argument
  abbrev pub in_term : (Expr L V B → Exchanged L V B (Expr L V B)) → Arg L V B → Exchanged L V B (Arg L V B)
  in_term f (ATerm e) = around ATerm (f e)
  in_term f (AType t) = None
  in_term f (ACo g) = None

  -- in a part of an expression: an expression, a bind, a join point or an alternative
  abbrev pub in_part : ℕ → (Expr L V B → Exchanged L V B (Expr L V B)) → (Bind L V B → Exchanged L V B (Bind L V B))
      → (JoinBind L V B → Exchanged L V B (JoinBind L V B)) → (Alt L V B → Exchanged L V B (Alt L V B)) → Expr L V B → Exchanged L V B (Expr L V B)
  in_part i f b j c (EVar v) = None
  in_part i f b j c (ELit n) = None
  in_part i f b j c (EApp head a) = if nat_eq i 0 then around (λ x. EApp x a) (f head) else (if nat_eq i 1 then around (λ x. EApp head x) (in_term f a) else None)
  in_part i f b j c (ELam x body) = if nat_eq i 1 then around (λ y. ELam x y) (f body) else None
  in_part i f b j c (ELet r bs body) = if nat_eq i (bind_count bs) then around (λ x. ELet r bs x) (f body) else around (λ cs. ELet r cs body) (in_bind i b bs)
  in_part i f b j c (ECase e x t u alts) =
      if nat_eq i 0 then around (λ y. ECase y x t u alts) (f e) else (if nat_lt i 3 then None else around (λ more. ECase e x t u more) (in_alt (i - 3) c alts))
  in_part i f b j c (ECast e g) = if nat_eq i 0 then around (λ x. ECast x g) (f e) else None
  in_part i f b j c (ECon n args) = around (λ more. ECon n more) (in_arg i (in_term f) args)
  in_part i f b j c (EPrim op es) = around (λ more. EPrim op more) (in_expr i f es)
  in_part i f b j c (EFail t) = None
  in_part i f b j c (EJoin r t js body) =
      if nat_eq i 0 then None
      else (if nat_eq (i - 1) (join_count js) then around (λ x. EJoin r t js x) (f body) else around (λ ks. EJoin r t ks body) (in_join (i - 1) j js))
  in_part i f b j c (EJump n args) = around (λ more. EJump n more) (in_arg i (in_term f) args)

  -- what stands at a place, and the expression with another in its stead; none where no expression stands there
  unfoldable mutual
    pub exchanged : Expr L V B → List ℕ → Expr L V B → Exchanged L V B (Expr L V B)
    exchanged by [] e = Some (e, by)
    exchanged by (i ∷ p) e = in_part i (exchanged by p) (exchanged_in_bind by p) (exchanged_in_join by p) (exchanged_in_alt by p) e

    pub exchanged_in_bind : Expr L V B → List ℕ → Bind L V B → Exchanged L V B (Bind L V B)
    exchanged_in_bind by [] b = None
    exchanged_in_bind by (i ∷ p) (Bound x t e) = if nat_eq i 1 then around (λ y. Bound x t y) (exchanged by p e) else None

    pub exchanged_in_join : Expr L V B → List ℕ → JoinBind L V B → Exchanged L V B (JoinBind L V B)
    exchanged_in_join by [] j = None
    exchanged_in_join by (i ∷ p) (Joined x ps e) = if nat_eq i (length ps) then around (λ y. Joined x ps y) (exchanged by p e) else None

    pub exchanged_in_alt : Expr L V B → List ℕ → Alt L V B → Exchanged L V B (Alt L V B)
    exchanged_in_alt by [] a = None
    exchanged_in_alt by (i ∷ p) (Branch h bs e) = if nat_eq i (length bs) then around (λ y. Branch h bs y) (exchanged by p e) else None
