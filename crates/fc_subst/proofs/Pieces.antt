-- The pieces of an expression, where their parts are the same.
use Rattle.std.proofs.Common.{◌≡◌, ℕ, refl, ap, ◌∙◌, Bool, if◌then◌else◌}
use Rattle.fc_syntax.specs.Tree.{Kind}
use Rattle.fc_model.specs.Nameless.{NTy, NCo, NExpr, NAlts, NBinds, NJoins, NCase, NLet, NJoin, NGAll}
use Rattle.fc_model.specs.Replacing.{Substitution, below_joins, below_values, bind_count, expressions, join_count, put_in_binds, put_in_joins, replaced, whole_coercions}

pub case_same : {a b : NExpr} {t u v w : NTy} {x y : NAlts} → a ≡ b → t ≡ u → v ≡ w → x ≡ y → NCase a t v x ≡ NCase b u w y
case_same h i j k = rw (h, i, j, k) refl

pub let_same : {o : Bool} {x y : NBinds} {a b : NExpr} → x ≡ y → a ≡ b → NLet o x a ≡ NLet o y b
let_same h i = rw (h, i) refl

pub join_same : {o : Bool} {t u : NTy} {x y : NJoins} {a b : NExpr} → t ≡ u → x ≡ y → a ≡ b → NJoin o t x a ≡ NJoin o u y b
join_same h i j = rw (h, i, j) refl

pub all_same : {k l : Kind} {g h : NCo} → k ≡ l → g ≡ h → NGAll k g ≡ NGAll l h
all_same h i = rw (h, i) refl

pub members_same : (o : Bool) (n : ℕ) (bs : NBinds) (r : Substitution) (x : NBinds) → n ≡ bind_count bs → x ≡ put_in_binds expressions whole_coercions (if o then below_values expressions whole_coercions n r else r) bs
    → x ≡ put_in_binds expressions whole_coercions (if o then below_values expressions whole_coercions (bind_count bs) r else r) bs
members_same o n bs r x is h = h ∙ ap (λ m. put_in_binds expressions whole_coercions (if o then below_values expressions whole_coercions m r else r) bs) is

pub body_same : (n m : ℕ) (r : Substitution) (e x : NExpr) → n ≡ m → x ≡ replaced (below_values expressions whole_coercions n r) e → x ≡ replaced (below_values expressions whole_coercions m r) e
body_same n m r e x is h = h ∙ ap (λ k. replaced (below_values expressions whole_coercions k r) e) is

pub join_members_same : (o : Bool) (n : ℕ) (js : NJoins) (r : Substitution) (x : NJoins) → n ≡ join_count js → x ≡ put_in_joins expressions whole_coercions (if o then below_joins expressions whole_coercions n r else r) js
    → x ≡ put_in_joins expressions whole_coercions (if o then below_joins expressions whole_coercions (join_count js) r else r) js
join_members_same o n js r x is h = h ∙ ap (λ m. put_in_joins expressions whole_coercions (if o then below_joins expressions whole_coercions m r else r) js) is

pub join_body_same : (n m : ℕ) (r : Substitution) (e x : NExpr) → n ≡ m → x ≡ replaced (below_joins expressions whole_coercions n r) e → x ≡ replaced (below_joins expressions whole_coercions m r) e
join_body_same n m r e x is h = h ∙ ap (λ k. replaced (below_joins expressions whole_coercions k r) e) is
