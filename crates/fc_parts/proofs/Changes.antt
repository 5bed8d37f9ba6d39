-- What a row makes of an expression at a place is what it makes of the part there, in its surroundings, in the place of that part.
use Rattle.std.proofs.Common.{◌≡◌, ℕ, zero, suc, Bool, true, false, nat_eq, List, [], ◌∷◌, Option, Some, None, length, refl, sym, ap, ◌∙◌, if◌then◌else◌}
use Rattle.fc_syntax.specs.declared.ty.Ref.{Ref}
use Rattle.fc_syntax.specs.declared.ty.Ref.TheVariants as ref
use Rattle.fc_syntax.specs.declared.expr.Head.{Head}
use Rattle.fc_syntax.specs.Tree.{Kind}
use Rattle.fc_syntax.specs.GenericTree.{Word, ATerm, AType, ACo, Bound, Joined, Branch}
use Rattle.fc_syntax.specs.GenericTree.{EVar, ELit, EApp, ELam, ELet, ECase, ECast, ECon, EPrim, EFail, EJoin, EJump}
use Rattle.fc_syntax.specs.GenericTree.{NoExprs, MoreExprs, NoArgs, MoreArgs, NoBinds, MoreBinds, NoJoins, MoreJoins, NoAlts, MoreAlts}
use Rattle.fc_model.specs.Coercing.{Ends}
use Rattle.fc_model.specs.Nameless.{NTy, NCo, NGVar, NGRefl, NGSym, NGTrans, NGTc, NGCapp, NGFun, NGAll, NGCoAll, NGInst, NGNth, NGLeft, NGRight, NGSub, NGAx, NGUniv, NCos, NoNCos, MoreNCos}
use Rattle.fc_model.specs.Nameless.{NExpr, NCase}
use Rattle.fc_model.specs.Replacing as model
use Rattle.fc_model.specs.Worded.{WArg, WArgs, WBinder, WBinds, WExpr, WExprs, WJoins, WAlts, bare_alts, bare_arg, bare_args, bare_binder, bare_binders, bare_binds, bare_co, bare_expr, bare_exprs, bare_joins, bare_ty}
use Rattle.fc_places.specs.Places.{Exchanged, around, bind_count, exchanged, exchanged_in_alt, exchanged_in_bind, exchanged_in_join, in_alt, in_arg, in_bind, in_expr, in_join, in_term, join_count}
use Rattle.fc_rows.specs.Changing.{changed, changed_alts, changed_arg, changed_args, changed_binds, changed_exprs, changed_joins, made}
use Rattle.fc_rows.specs.ChangingCoercions.{as_they_are, changed_coercion, changed_coercions}
use Rattle.fc_rows.specs.Surroundings.{Surroundings, apart, at_head, at_join_sides, at_right_sides, behind_binder, behind_binders, behind_binds, behind_joins, head_binds, in_alternative, listed_heads}
use Rattle.fc_parts.proofs.Tests.{less_one, less_three, not_below_three, not_zero}
use Rattle.fc_parts.specs.Found.{Found, found, found_in_alts, found_in_arg, found_in_args, found_in_binds, found_in_exprs, found_in_joins}

-- COERCIONS STAY

nothing_made : {X Y : Type 0} (f : X → Y) (o : Option X) → o ≡ None → made f o ≡ None
nothing_made f o h = ap (made f) h

-- where no coercion is replaced, none is changed
mutual
  pub changes_none : (ks : List Kind) (cs : List Ends) (p : List ℕ) (g : NCo) → changed_coercion as_they_are ks cs p g ≡ None
  changes_none ks cs [] g = refl
  changes_none ks cs (i ∷ p) (NGVar j) = refl
  changes_none ks cs (i ∷ p) (NGRefl r t) = refl
  changes_none ks cs (zero ∷ p) (NGSym g) = nothing_made _ _ (changes_none ks cs p g)
  changes_none ks cs (suc i ∷ p) (NGSym g) = refl
  changes_none ks cs (zero ∷ p) (NGTrans g f) = nothing_made _ _ (changes_none ks cs p g)
  changes_none ks cs (suc zero ∷ p) (NGTrans g f) = nothing_made _ _ (changes_none ks cs p f)
  changes_none ks cs (suc (suc i) ∷ p) (NGTrans g f) = refl
  changes_none ks cs (i ∷ p) (NGTc r n gs) = nothing_made _ _ (changes_none_of ks cs i p gs)
  changes_none ks cs (zero ∷ p) (NGCapp g f) = nothing_made _ _ (changes_none ks cs p g)
  changes_none ks cs (suc zero ∷ p) (NGCapp g f) = nothing_made _ _ (changes_none ks cs p f)
  changes_none ks cs (suc (suc i) ∷ p) (NGCapp g f) = refl
  changes_none ks cs (zero ∷ p) (NGFun g f) = nothing_made _ _ (changes_none ks cs p g)
  changes_none ks cs (suc zero ∷ p) (NGFun g f) = nothing_made _ _ (changes_none ks cs p f)
  changes_none ks cs (suc (suc i) ∷ p) (NGFun g f) = refl
  changes_none ks cs (zero ∷ p) (NGAll k g) = nothing_made _ _ (changes_none _ _ p g)
  changes_none ks cs (suc i ∷ p) (NGAll k g) = refl
  changes_none ks cs (zero ∷ p) (NGCoAll r o f g d) = nothing_made _ _ (changes_none ks cs p f)
  changes_none ks cs (suc zero ∷ p) (NGCoAll r o f g d) = nothing_made _ _ (changes_none ks cs p g)
  changes_none ks cs (suc (suc zero) ∷ p) (NGCoAll r o f g d) = nothing_made _ _ (changes_none ks cs p d)
  changes_none ks cs (suc (suc (suc i)) ∷ p) (NGCoAll r o f g d) = refl
  changes_none ks cs (zero ∷ p) (NGInst g f) = nothing_made _ _ (changes_none ks cs p g)
  changes_none ks cs (suc zero ∷ p) (NGInst g f) = nothing_made _ _ (changes_none ks cs p f)
  changes_none ks cs (suc (suc i) ∷ p) (NGInst g f) = refl
  changes_none ks cs (zero ∷ p) (NGNth n g) = nothing_made _ _ (changes_none ks cs p g)
  changes_none ks cs (suc i ∷ p) (NGNth n g) = refl
  changes_none ks cs (zero ∷ p) (NGLeft g) = nothing_made _ _ (changes_none ks cs p g)
  changes_none ks cs (suc i ∷ p) (NGLeft g) = refl
  changes_none ks cs (zero ∷ p) (NGRight g) = nothing_made _ _ (changes_none ks cs p g)
  changes_none ks cs (suc i ∷ p) (NGRight g) = refl
  changes_none ks cs (zero ∷ p) (NGSub g) = nothing_made _ _ (changes_none ks cs p g)
  changes_none ks cs (suc i ∷ p) (NGSub g) = refl
  changes_none ks cs (i ∷ p) (NGAx n gs) = nothing_made _ _ (changes_none_of ks cs i p gs)
  changes_none ks cs (i ∷ p) (NGUniv t u) = refl

  changes_none_of : (ks : List Kind) (cs : List Ends) (i : ℕ) (p : List ℕ) (gs : NCos) → changed_coercions as_they_are ks cs i p gs ≡ None
  changes_none_of ks cs i p NoNCos = refl
  changes_none_of ks cs zero p (MoreNCos g rest) = nothing_made _ _ (changes_none ks cs p g)
  changes_none_of ks cs (suc i) p (MoreNCos g rest) = nothing_made _ _ (changes_none_of ks cs i p rest)

-- COUNTS

binds_counted : (bs : WBinds) → model.bind_count (bare_binds bs) ≡ bind_count bs
binds_counted NoBinds = refl
binds_counted (MoreBinds b rest) = ap (λ n. suc n) (binds_counted rest)

joins_counted : (js : WJoins) → model.join_count (bare_joins js) ≡ join_count js
joins_counted NoJoins = refl
joins_counted (MoreJoins j rest) = ap (λ n. suc n) (joins_counted rest)

binders_counted : (bs : List WBinder) → length (bare_binders bs) ≡ length bs
binders_counted [] = refl
binders_counted (b ∷ bs) = ap (λ n. suc n) (binders_counted bs)

-- A ROW AT A PLACE

module _ (row : Surroundings → NExpr → Option NExpr) (by : WExpr) where
  -- What is found at a place, what stands there and what the whole becomes with another there, and what the row makes of the whole: where a part is found,
  -- the row makes nothing of the whole if it makes nothing of the part, and if it makes the other of the part, then the whole with that.
  pub data IsMade {X Y : Type 0} (bare : Y → X) : Option Found → Exchanged ℕ Ref Word Y → Option X → Type 0 where
    nowhere : {ex : Exchanged ℕ Ref Word Y} {ch : Option X} → ch ≡ None → IsMade bare None ex ch
    there : (s : Surroundings) (old : WExpr) (new : Y) {ch : Option X} → (row s (bare_expr old) ≡ None → ch ≡ None)
        → (row s (bare_expr old) ≡ Some (bare_expr by) → ch ≡ Some (bare new)) → IsMade bare (Some (s, bare_expr old)) (Some (old, new)) ch

  -- a whole by its part
  within : {X X′ Y Y′ : Type 0} (bare : Y → X) (bare′ : Y′ → X′) (g : X → X′) (h : Y → Y′) → ((y : Y) → bare′ (h y) ≡ g (bare y))
      → (f : Option Found) (ex : Exchanged ℕ Ref Word Y) (ch : Option X) → IsMade bare f ex ch → IsMade bare′ f (around h ex) (made g ch)
  within bare bare′ g h same f ex ch (nowhere none) = nowhere (nothing_made g ch none)
  within bare bare′ g h same f ex ch (there s old new none some) =
      there s old (h new) (λ e. nothing_made g ch (none e)) (λ e. ap (made g) (some e) ∙ ap Some (sym (same new)))

  -- one of two, by the same test
  either : {X Y : Type 0} (bare : Y → X) (b c : Bool) → b ≡ c → (f k : Option Found) (ex ey : Exchanged ℕ Ref Word Y) (ch cj : Option X) → IsMade bare f ex ch → IsMade bare k ey cj
      → IsMade bare (if b then f else k) (if c then ex else ey) (if b then ch else cj)
  either bare true true is f k ex ey ch cj first second = first
  either bare true false is f k ex ey ch cj first second = cc
  either bare false true is f k ex ey ch cj first second = cc
  either bare false false is f k ex ey ch cj first second = second

  -- a whole by the right side of its part, where that is the one of the place
  chosen : {X X′ Y Y′ Y″ : Type 0} (bare : Y → X) (bare′ : Y″ → X′) (g : X → X′) (h : Y → Y′) (k : Y′ → Y″) → ((y : Y) → bare′ (k (h y)) ≡ g (bare y))
      → (b c : Bool) → b ≡ c → (f : Option Found) (ex : Exchanged ℕ Ref Word Y) (ch : Option X) → IsMade bare f ex ch
      → IsMade bare′ (if b then f else None) (around k (if c then around h ex else None)) (made g (if b then ch else None))
  chosen bare bare′ g h k same true true is f ex ch (nowhere none) = nowhere (nothing_made g ch none)
  chosen bare bare′ g h k same true true is f ex ch (there s old new none some) =
      there s old (k (h new)) (λ e. nothing_made g ch (none e)) (λ e. ap (made g) (some e) ∙ ap Some (sym (same new)))
  chosen bare bare′ g h k same true false is f ex ch m = cc
  chosen bare bare′ g h k same false true is f ex ch m = cc
  chosen bare bare′ g h k same false false is f ex ch m = nowhere refl

  -- a whole by a part that is one only where a test holds
  if_tested : {X X′ Y : Type 0} (bare : Y → X) (b : Bool) (g : X′ → X) (f : Option Found) (ex : Exchanged ℕ Ref Word Y) (ch : Option X′)
      → IsMade bare f ex (made g ch) → IsMade bare (if b then f else None) ex (made g (if b then ch else None))
  if_tested bare true g f ex ch m = m
  if_tested bare false g f ex ch m = nowhere refl

  mutual
    unfolding exchanged exchanged_in_bind exchanged_in_join exchanged_in_alt in_arg in_expr in_bind in_join in_alt

    pub made_at : (s : Surroundings) (p : List ℕ) (e : WExpr) → IsMade bare_expr (found s p (bare_expr e)) (exchanged by p e) (changed row as_they_are s p (bare_expr e))
    made_at s [] e = there s e by (λ h. h) (λ h. h)
    made_at s (i ∷ p) (EVar (ref.Local v)) = nowhere refl
    made_at s (i ∷ p) (EVar (ref.Top n)) = nowhere refl
    made_at s (i ∷ p) (ELit n) = nowhere refl
    made_at s (zero ∷ p) (EApp f a) = within bare_expr bare_expr _ _ (λ y. refl) _ _ _ (made_at (at_head (bare_arg a) s) p f)
    made_at s (suc zero ∷ p) (EApp f a) = within bare_arg bare_expr _ _ (λ y. refl) _ _ _ (made_in_arg (apart s) p a)
    made_at s (suc (suc i) ∷ p) (EApp f a) = nowhere refl
    made_at s (zero ∷ p) (ELam b e) = nowhere refl
    made_at s (suc zero ∷ p) (ELam b e) = within bare_expr bare_expr _ _ (λ y. refl) _ _ _ (made_at (behind_binder (bare_binder b) (apart s)) p e)
    made_at s (suc (suc i) ∷ p) (ELam b e) = nowhere refl
    made_at s (i ∷ p) (ELet r bs e) =
        either bare_expr (nat_eq i (model.bind_count (bare_binds bs))) (nat_eq i (bind_count bs)) (ap (nat_eq i) (binds_counted bs)) _ _ _ _ _ _
        (within bare_expr bare_expr _ _ (λ y. refl) _ _ _ (made_at (behind_binds r (bare_binds bs) s) p e))
        (within bare_binds bare_expr _ _ (λ y. refl) _ _ _ (made_in_binds (at_right_sides r (bare_binds bs) s) i p bs))
    made_at s (zero ∷ p) (ECase e x t u alts) = within bare_expr bare_expr _ _ (λ y. refl) _ _ _ (made_at (apart s) p e)
    made_at s (suc zero ∷ p) (ECase e x t u alts) = nowhere refl
    made_at s (suc (suc zero) ∷ p) (ECase e x t u alts) = nowhere refl
    made_at s (suc (suc (suc i)) ∷ p) (ECase e x t u alts) =
        rw (not_zero (suc (suc i)), not_below_three i, less_three i)
        (within bare_alts bare_expr (λ bs. NCase (bare_expr e) (bare_ty t) (bare_ty u) bs) (λ more. ECase e x t u more) (λ y. refl) _ _ _ (made_in_alts s (bare_expr e) (bare_ty t) (listed_heads (bare_alts alts)) i p alts))
    made_at s (zero ∷ p) (ECast e g) = within bare_expr bare_expr _ _ (λ y. refl) _ _ _ (made_at (apart s) p e)
    made_at s (suc zero ∷ p) (ECast e g) = nowhere (nothing_made _ _ (changes_none s.context.kinds s.context.coercions p (bare_co g)))
    made_at s (suc (suc i) ∷ p) (ECast e g) = nowhere refl
    made_at s (i ∷ p) (ECon n args) = within bare_args bare_expr _ _ (λ y. refl) _ _ _ (made_in_args (apart s) i p args)
    made_at s (i ∷ p) (EPrim op es) = within bare_exprs bare_expr _ _ (λ y. refl) _ _ _ (made_in_exprs (apart s) i p es)
    made_at s (i ∷ p) (EFail t) = nowhere refl
    made_at s (zero ∷ p) (EJoin r t js e) = nowhere refl
    made_at s (suc i ∷ p) (EJoin r t js e) =
        rw (not_zero i, less_one i) (either bare_expr (nat_eq i (model.join_count (bare_joins js))) (nat_eq i (join_count js)) (ap (nat_eq i) (joins_counted js)) _ _ _ _ _ _
        (within bare_expr bare_expr _ _ (λ y. refl) _ _ _ (made_at (behind_joins r (bare_ty t) (bare_joins js) s) p e))
        (within bare_joins bare_expr _ _ (λ y. refl) _ _ _ (made_in_joins (at_join_sides r (bare_ty t) (bare_joins js) s) i p js)))
    made_at s (i ∷ p) (EJump j args) = within bare_args bare_expr _ _ (λ y. refl) _ _ _ (made_in_args (apart s) i p args)

    made_in_arg : (s : Surroundings) (p : List ℕ) (a : WArg) → IsMade bare_arg (found_in_arg s p (bare_arg a)) (in_term (exchanged by p) a) (changed_arg row as_they_are s p (bare_arg a))
    made_in_arg s p (ATerm e) = within bare_expr bare_arg _ _ (λ y. refl) _ _ _ (made_at s p e)
    made_in_arg s p (AType t) = nowhere refl
    made_in_arg s p (ACo g) = nowhere (nothing_made _ _ (changes_none s.context.kinds s.context.coercions p (bare_co g)))

    made_in_args : (s : Surroundings) (i : ℕ) (p : List ℕ) (args : WArgs)
        → IsMade bare_args (found_in_args s i p (bare_args args)) (in_arg i (in_term (exchanged by p)) args) (changed_args row as_they_are s i p (bare_args args))
    made_in_args s i p NoArgs = nowhere refl
    made_in_args s zero p (MoreArgs a rest) = within bare_arg bare_args _ _ (λ y. refl) _ _ _ (made_in_arg s p a)
    made_in_args s (suc i) p (MoreArgs a rest) = within bare_args bare_args _ _ (λ y. refl) _ _ _ (made_in_args s i p rest)

    made_in_exprs : (s : Surroundings) (i : ℕ) (p : List ℕ) (es : WExprs)
        → IsMade bare_exprs (found_in_exprs s i p (bare_exprs es)) (in_expr i (exchanged by p) es) (changed_exprs row as_they_are s i p (bare_exprs es))
    made_in_exprs s i p NoExprs = nowhere refl
    made_in_exprs s zero p (MoreExprs e rest) = within bare_expr bare_exprs _ _ (λ y. refl) _ _ _ (made_at s p e)
    made_in_exprs s (suc i) p (MoreExprs e rest) = within bare_exprs bare_exprs _ _ (λ y. refl) _ _ _ (made_in_exprs s i p rest)

    made_in_binds : (s : Surroundings) (i : ℕ) (p : List ℕ) (bs : WBinds)
        → IsMade bare_binds (found_in_binds s i p (bare_binds bs)) (in_bind i (exchanged_in_bind by p) bs) (changed_binds row as_they_are s i p (bare_binds bs))
    made_in_binds s i p NoBinds = nowhere refl
    made_in_binds s zero [] (MoreBinds (Bound x t e) rest) = nowhere refl
    made_in_binds s zero (i ∷ p) (MoreBinds (Bound x t e) rest) =
        chosen bare_expr bare_binds _ (λ y. Bound x t y) (λ y. MoreBinds y rest) (λ y. refl) (nat_eq i 1) (nat_eq i 1) refl _ _ _ (made_at s p e)
    made_in_binds s (suc i) p (MoreBinds b rest) = within bare_binds bare_binds _ _ (λ y. refl) _ _ _ (made_in_binds s i p rest)

    made_in_joins : (s : Surroundings) (i : ℕ) (p : List ℕ) (js : WJoins)
        → IsMade bare_joins (found_in_joins s i p (bare_joins js)) (in_join i (exchanged_in_join by p) js) (changed_joins row as_they_are s i p (bare_joins js))
    made_in_joins s i p NoJoins = nowhere refl
    made_in_joins s zero [] (MoreJoins (Joined x ps e) rest) = nowhere refl
    made_in_joins s zero (i ∷ p) (MoreJoins (Joined x ps e) rest) =
        chosen bare_expr bare_joins _ (λ y. Joined x ps y) (λ y. MoreJoins y rest) (λ y. refl) (nat_eq i (length (bare_binders ps))) (nat_eq i (length ps)) (ap (nat_eq i) (binders_counted ps)) _ _ _
        (made_at (behind_binders (bare_binders ps) s) p e)
    made_in_joins s (suc i) p (MoreJoins j rest) = within bare_joins bare_joins _ _ (λ y. refl) _ _ _ (made_in_joins s i p rest)

    made_in_alts : (s : Surroundings) (e : NExpr) (t : NTy) (hs : List Head) (i : ℕ) (p : List ℕ) (alts : WAlts)
        → IsMade bare_alts (found_in_alts s e t hs i p (bare_alts alts)) (in_alt i (exchanged_in_alt by p) alts) (changed_alts row as_they_are s e t hs i p (bare_alts alts))
    made_in_alts s e t hs i p NoAlts = nowhere refl
    made_in_alts s e t hs zero [] (MoreAlts (Branch h bs b) rest) = if_tested bare_alts (head_binds h (bare_binders bs)) _ _ _ _ (nowhere refl)
    made_in_alts s e t hs zero (i ∷ p) (MoreAlts (Branch h bs b) rest) =
        if_tested bare_alts (head_binds h (bare_binders bs)) _ _ _ _
        (chosen bare_expr bare_alts _ (λ y. Branch h bs y) (λ y. MoreAlts y rest) (λ y. refl) (nat_eq i (length (bare_binders bs))) (nat_eq i (length bs)) (ap (nat_eq i) (binders_counted bs)) _ _ _
        (made_at (in_alternative e t hs h (bare_binders bs) s) p b))
    made_in_alts s e t hs (suc i) p (MoreAlts a rest) = within bare_alts bare_alts _ _ (λ y. refl) _ _ _ (made_in_alts s e t hs i p rest)
