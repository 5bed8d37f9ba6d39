-- The equations of the exchange at a place, what a call answers of a whole by what it answers of a part, and lists of parts of which one is exchanged.
use Rattle.std.proofs.Common.{◌≡◌, ◌≤◌, ℕ, zero, suc, Bool, nat_eq, List, [], ◌∷◌, Some, None, length, refl, sym, ap, ◌∙◌, arith, if◌then◌else◌, Result, Ok, Err}
use Rattle.std.specs.Prelude.{slice_get, slice_set}
use Rattle.fc_syntax.specs.GenericTree.{Word, Ty, Co, Binder, Expr, EApp, ELam, ELet, ECase, ECast, ECon, EPrim, EJoin, EJump, Arg, ATerm, Bind, Bound, JoinBind, Joined, Alt, Branch}
use Rattle.fc_syntax.specs.GenericTree.{Exprs, MoreExprs, Args, MoreArgs, Binds, MoreBinds, Joins, MoreJoins, Alts, MoreAlts}
use Rattle.fc_syntax.specs.View.{expr_of, exprs_of, arg_of, args_of, bind_of, binds_of, join_of, joins_of, alt_of, alts_of, binders_of}
use Rattle.fc_syntax.specs.declared.ty.Name.{Name}
use Rattle.fc_syntax.specs.declared.expr.Head.{Head}
use Rattle.fc_syntax.specs.declared.expr.PrimOp.{PrimOp}
use Rattle.fc_syntax.specs.declared.expr.Expr as E
use Rattle.fc_syntax.specs.declared.expr.Arg as A
use Rattle.fc_syntax.specs.declared.expr.Bind as RustBind
use Rattle.fc_syntax.specs.declared.expr.JoinBind as RustJoin
use Rattle.fc_syntax.specs.declared.expr.Alt as RustAlt
use Rattle.fc_syntax.specs.declared.expr.Binder as RustBinder
use Rattle.fc_places.specs.Places.{Exchanged, answered, around, bind_count, exchanged, exchanged_in_alt, exchanged_in_bind, exchanged_in_join, in_alt, in_arg, in_bind, in_expr, in_join, in_part, join_count}

-- what a call answers: what stood at the place, or what it was given
abbrev Answer : (L V : Type 0) → Type 0
Answer L V = Result (E.Expr L V) (E.Expr L V)

-- a whole by its part
answered_in : {L V X Y : Type 0} (f : X → Y) (r : Answer L V) (x : X) → answered r (f x) ≡ around f (answered r x)
answered_in f (Ok old) x = refl
answered_in f (Err given) x = refl

-- A LIST BY ONE OF ITS ITEMS

-- how a list is seen, and what is exchanged in the item of a number
record Seen {L V X T Ts : Type 0} (view : X → T) (out : List X → Ts) (more : T → Ts → Ts) (within : ℕ → (T → Exchanged L V Word T) → Ts → Exchanged L V Word Ts) : Type 0 where
  cons : (x : X) (xs : List X) → out (x ∷ xs) ≡ more (view x) (out xs)
  none : (n : ℕ) (f : T → Exchanged L V Word T) → within n f (out []) ≡ None
  first : (f : T → Exchanged L V Word T) (a : T) (rest : Ts) → within zero f (more a rest) ≡ around (λ v. more v rest) (f a)
  further : (n : ℕ) (f : T → Exchanged L V Word T) (a : T) (rest : Ts) → within (suc n) f (more a rest) ≡ around (λ v. more a v) (within n f rest)

module _ {L V X T Ts : Type 0} {view : X → T} {out : List X → Ts} {more : T → Ts → Ts} {within : ℕ → (T → Exchanged L V Word T) → Ts → Exchanged L V Word Ts} (seen : Seen view out more within) where
  item_set : (n : ℕ) (f : T → Exchanged L V Word T) (xs : List X) (x y : X) (r : Answer L V) → slice_get xs n ≡ Some x → answered r (view y) ≡ f (view x)
      → answered r (out (slice_set xs n y)) ≡ within n f (out xs)
  item_set n f [] x y r is to = cc
  item_set zero f (z ∷ xs) x y r is to =
      let same : z ≡ x = cc in
      ap (answered r) (seen.cons y xs) ∙ answered_in (λ v. more v (out xs)) r (view y) ∙ ap (around (λ v. more v (out xs))) (to ∙ ap (λ w. f (view w)) (sym same))
      ∙ sym (ap (within zero f) (seen.cons z xs) ∙ seen.first f (view z) (out xs))
  item_set (suc n) f (z ∷ xs) x y r is to =
      ap (answered r) (seen.cons z (slice_set xs n y)) ∙ answered_in (λ v. more (view z) v) r (out (slice_set xs n y)) ∙ ap (around (λ v. more (view z) v)) (item_set n f xs x y r is to)
      ∙ sym (ap (within (suc n) f) (seen.cons z xs) ∙ seen.further n f (view z) (out xs))

  item_past : (n : ℕ) (f : T → Exchanged L V Word T) (xs : List X) → length xs ≤ n → within n f (out xs) ≡ None
  item_past n f [] is = seen.none n f
  item_past zero f (z ∷ xs) is = absurd (omega (arith, is))
  item_past (suc n) f (z ∷ xs) is =
      ap (within (suc n) f) (seen.cons z xs) ∙ seen.further n f (view z) (out xs) ∙ ap (around (λ v. more (view z) v)) (item_past n f xs (omega (arith, is)))

  item_same : (n : ℕ) (xs : List X) (x y : X) → slice_get xs n ≡ Some x → view y ≡ view x → out (slice_set xs n y) ≡ out xs
  item_same n [] x y is to = refl
  item_same zero (z ∷ xs) x y is to =
      let same : z ≡ x = cc in
      seen.cons y xs ∙ ap (λ w. more w (out xs)) (to ∙ ap view (sym same)) ∙ sym (seen.cons z xs)
  item_same (suc n) (z ∷ xs) x y is to = seen.cons z (slice_set xs n y) ∙ ap (λ rest. more (view z) rest) (item_same n xs x y is to) ∙ sym (seen.cons z xs)

module _ {L V : Type 0} where
  -- PLACES

  pub exchanged_nil : (by e : Expr L V Word) (p : List ℕ) → length p ≡ 0 → exchanged by p e ≡ Some (e, by)
  unfolding exchanged
  exchanged_nil by e [] is = refl
  exchanged_nil by e (i ∷ p) is = absurd (omega (arith, is))

  pub exchanged_cons : (by : Expr L V Word) (i : ℕ) (p : List ℕ) (e : Expr L V Word)
      → exchanged by (i ∷ p) e ≡ in_part i (exchanged by p) (exchanged_in_bind by p) (exchanged_in_join by p) (exchanged_in_alt by p) e
  unfolding exchanged
  exchanged_cons by i p e = refl

  pub bind_nil : (by : Expr L V Word) (b : Bind L V Word) (p : List ℕ) → length p ≡ 0 → exchanged_in_bind by p b ≡ None
  unfolding exchanged_in_bind
  bind_nil by b [] is = refl
  bind_nil by b (i ∷ p) is = absurd (omega (arith, is))

  pub bind_cons : (by : Expr L V Word) (i : ℕ) (p : List ℕ) (x : Word) (t : Ty L Word) (e : Expr L V Word)
      → exchanged_in_bind by (i ∷ p) (Bound x t e) ≡ (if nat_eq i 1 then around (λ y. Bound x t y) (exchanged by p e) else None)
  unfolding exchanged_in_bind
  bind_cons by i p x t e = refl

  pub join_nil : (by : Expr L V Word) (j : JoinBind L V Word) (p : List ℕ) → length p ≡ 0 → exchanged_in_join by p j ≡ None
  unfolding exchanged_in_join
  join_nil by j [] is = refl
  join_nil by j (i ∷ p) is = absurd (omega (arith, is))

  pub join_cons : (by : Expr L V Word) (i : ℕ) (p : List ℕ) (x : Word) (ps : List (Binder L Word)) (e : Expr L V Word)
      → exchanged_in_join by (i ∷ p) (Joined x ps e) ≡ (if nat_eq i (length ps) then around (λ y. Joined x ps y) (exchanged by p e) else None)
  unfolding exchanged_in_join
  join_cons by i p x ps e = refl

  pub alt_nil : (by : Expr L V Word) (a : Alt L V Word) (p : List ℕ) → length p ≡ 0 → exchanged_in_alt by p a ≡ None
  unfolding exchanged_in_alt
  alt_nil by a [] is = refl
  alt_nil by a (i ∷ p) is = absurd (omega (arith, is))

  pub alt_cons : (by : Expr L V Word) (i : ℕ) (p : List ℕ) (h : Head) (bs : List (Binder L Word)) (e : Expr L V Word)
      → exchanged_in_alt by (i ∷ p) (Branch h bs e) ≡ (if nat_eq i (length bs) then around (λ y. Branch h bs y) (exchanged by p e) else None)
  unfolding exchanged_in_alt
  alt_cons by i p h bs e = refl

  -- A WHOLE BY ITS PART

  pub answered_in_head : (r : Answer L V) (x : Expr L V Word) (a : Arg L V Word) → answered r (EApp x a) ≡ around (λ y. EApp y a) (answered r x)
  answered_in_head r x a = answered_in (λ y. EApp y a) r x

  pub answered_in_argument : (r : Answer L V) (f : Expr L V Word) (x : Arg L V Word) → answered r (EApp f x) ≡ around (λ y. EApp f y) (answered r x)
  answered_in_argument r f x = answered_in (λ y. EApp f y) r x

  pub answered_in_body : (r : Answer L V) (b : Binder L Word) (x : Expr L V Word) → answered r (ELam b x) ≡ around (λ y. ELam b y) (answered r x)
  answered_in_body r b x = answered_in (λ y. ELam b y) r x

  pub answered_in_binds : (r : Answer L V) (o : Bool) (x : Binds L V Word) (e : Expr L V Word) → answered r (ELet o x e) ≡ around (λ y. ELet o y e) (answered r x)
  answered_in_binds r o x e = answered_in (λ y. ELet o y e) r x

  pub answered_in_let : (r : Answer L V) (o : Bool) (bs : Binds L V Word) (x : Expr L V Word) → answered r (ELet o bs x) ≡ around (λ y. ELet o bs y) (answered r x)
  answered_in_let r o bs x = answered_in (λ y. ELet o bs y) r x

  pub answered_in_scrutinee : (r : Answer L V) (x : Expr L V Word) (w : Word) (t u : Ty L Word) (alts : Alts L V Word) → answered r (ECase x w t u alts) ≡ around (λ y. ECase y w t u alts) (answered r x)
  answered_in_scrutinee r x w t u alts = answered_in (λ y. ECase y w t u alts) r x

  pub answered_in_alts : (r : Answer L V) (e : Expr L V Word) (w : Word) (t u : Ty L Word) (x : Alts L V Word) → answered r (ECase e w t u x) ≡ around (λ y. ECase e w t u y) (answered r x)
  answered_in_alts r e w t u x = answered_in (λ y. ECase e w t u y) r x

  pub answered_in_cast : (r : Answer L V) (x : Expr L V Word) (g : Co L Word) → answered r (ECast x g) ≡ around (λ y. ECast y g) (answered r x)
  answered_in_cast r x g = answered_in (λ y. ECast y g) r x

  pub answered_in_con : (r : Answer L V) (n : Name) (x : Args L V Word) → answered r (ECon n x) ≡ around (λ y. ECon n y) (answered r x)
  answered_in_con r n x = answered_in (λ y. ECon n y) r x

  pub answered_in_prim : (r : Answer L V) (op : PrimOp) (x : Exprs L V Word) → answered r (EPrim op x) ≡ around (λ y. EPrim op y) (answered r x)
  answered_in_prim r op x = answered_in (λ y. EPrim op y) r x

  pub answered_in_joins : (r : Answer L V) (o : Bool) (t : Ty L Word) (x : Joins L V Word) (e : Expr L V Word) → answered r (EJoin o t x e) ≡ around (λ y. EJoin o t y e) (answered r x)
  answered_in_joins r o t x e = answered_in (λ y. EJoin o t y e) r x

  pub answered_in_join_body : (r : Answer L V) (o : Bool) (t : Ty L Word) (js : Joins L V Word) (x : Expr L V Word) → answered r (EJoin o t js x) ≡ around (λ y. EJoin o t js y) (answered r x)
  answered_in_join_body r o t js x = answered_in (λ y. EJoin o t js y) r x

  pub answered_in_jump : (r : Answer L V) (n : L) (x : Args L V Word) → answered r (EJump n x) ≡ around (λ y. EJump n y) (answered r x)
  answered_in_jump r n x = answered_in (λ y. EJump n y) r x

  pub answered_as_term : (r : Answer L V) (x : Expr L V Word) → answered r (ATerm x) ≡ around ATerm (answered r x)
  answered_as_term r x = answered_in ATerm r x

  pub answered_in_right_side : (r : Answer L V) (w : Word) (t : Ty L Word) (x : Expr L V Word) → answered r (Bound w t x) ≡ around (λ y. Bound w t y) (answered r x)
  answered_in_right_side r w t x = answered_in (λ y. Bound w t y) r x

  pub answered_in_join_side : (r : Answer L V) (w : Word) (ps : List (Binder L Word)) (x : Expr L V Word) → answered r (Joined w ps x) ≡ around (λ y. Joined w ps y) (answered r x)
  answered_in_join_side r w ps x = answered_in (λ y. Joined w ps y) r x

  pub answered_in_branch : (r : Answer L V) (h : Head) (bs : List (Binder L Word)) (x : Expr L V Word) → answered r (Branch h bs x) ≡ around (λ y. Branch h bs y) (answered r x)
  answered_in_branch r h bs x = answered_in (λ y. Branch h bs y) r x

  -- LISTS

  exprs_seen : Seen {L = L} {V = V} expr_of exprs_of MoreExprs in_expr
  unfolding in_expr
  exprs_seen = record { cons = λ x xs. refl; none = λ n f. refl; first = λ f a rest. refl; further = λ n f a rest. refl }

  pub expr_set : (n : ℕ) (f : Expr L V Word → Exchanged L V Word (Expr L V Word)) (xs : List (E.Expr L V)) (x y : E.Expr L V) (r : Answer L V) → slice_get xs n ≡ Some x
      → answered r (expr_of y) ≡ f (expr_of x) → answered r (exprs_of (slice_set xs n y)) ≡ in_expr n f (exprs_of xs)
  expr_set = item_set exprs_seen

  pub expr_past : (n : ℕ) (f : Expr L V Word → Exchanged L V Word (Expr L V Word)) (xs : List (E.Expr L V)) → length xs ≤ n → in_expr n f (exprs_of xs) ≡ None
  expr_past = item_past exprs_seen

  pub expr_same : (n : ℕ) (xs : List (E.Expr L V)) (x y : E.Expr L V) → slice_get xs n ≡ Some x → expr_of y ≡ expr_of x → exprs_of (slice_set xs n y) ≡ exprs_of xs
  expr_same = item_same exprs_seen

  args_seen : Seen {L = L} {V = V} arg_of args_of MoreArgs in_arg
  unfolding in_arg
  args_seen = record { cons = λ x xs. refl; none = λ n f. refl; first = λ f a rest. refl; further = λ n f a rest. refl }

  pub arg_set : (n : ℕ) (f : Arg L V Word → Exchanged L V Word (Arg L V Word)) (xs : List (A.Arg L V)) (x y : A.Arg L V) (r : Answer L V) → slice_get xs n ≡ Some x
      → answered r (arg_of y) ≡ f (arg_of x) → answered r (args_of (slice_set xs n y)) ≡ in_arg n f (args_of xs)
  arg_set = item_set args_seen

  pub arg_past : (n : ℕ) (f : Arg L V Word → Exchanged L V Word (Arg L V Word)) (xs : List (A.Arg L V)) → length xs ≤ n → in_arg n f (args_of xs) ≡ None
  arg_past = item_past args_seen

  pub arg_same : (n : ℕ) (xs : List (A.Arg L V)) (x y : A.Arg L V) → slice_get xs n ≡ Some x → arg_of y ≡ arg_of x → args_of (slice_set xs n y) ≡ args_of xs
  arg_same = item_same args_seen

  binds_seen : Seen {L = L} {V = V} bind_of binds_of MoreBinds in_bind
  unfolding in_bind
  binds_seen = record { cons = λ x xs. refl; none = λ n f. refl; first = λ f a rest. refl; further = λ n f a rest. refl }

  pub bind_set : (n : ℕ) (f : Bind L V Word → Exchanged L V Word (Bind L V Word)) (xs : List (RustBind.Bind L V)) (x y : RustBind.Bind L V) (r : Answer L V) → slice_get xs n ≡ Some x
      → answered r (bind_of y) ≡ f (bind_of x) → answered r (binds_of (slice_set xs n y)) ≡ in_bind n f (binds_of xs)
  bind_set = item_set binds_seen

  pub bind_past : (n : ℕ) (f : Bind L V Word → Exchanged L V Word (Bind L V Word)) (xs : List (RustBind.Bind L V)) → length xs ≤ n → in_bind n f (binds_of xs) ≡ None
  bind_past = item_past binds_seen

  pub bind_same : (n : ℕ) (xs : List (RustBind.Bind L V)) (x y : RustBind.Bind L V) → slice_get xs n ≡ Some x → bind_of y ≡ bind_of x → binds_of (slice_set xs n y) ≡ binds_of xs
  bind_same = item_same binds_seen

  joins_seen : Seen {L = L} {V = V} join_of joins_of MoreJoins in_join
  unfolding in_join
  joins_seen = record { cons = λ x xs. refl; none = λ n f. refl; first = λ f a rest. refl; further = λ n f a rest. refl }

  pub join_set : (n : ℕ) (f : JoinBind L V Word → Exchanged L V Word (JoinBind L V Word)) (xs : List (RustJoin.JoinBind L V)) (x y : RustJoin.JoinBind L V) (r : Answer L V) → slice_get xs n ≡ Some x
      → answered r (join_of y) ≡ f (join_of x) → answered r (joins_of (slice_set xs n y)) ≡ in_join n f (joins_of xs)
  join_set = item_set joins_seen

  pub join_past : (n : ℕ) (f : JoinBind L V Word → Exchanged L V Word (JoinBind L V Word)) (xs : List (RustJoin.JoinBind L V)) → length xs ≤ n → in_join n f (joins_of xs) ≡ None
  join_past = item_past joins_seen

  pub join_same : (n : ℕ) (xs : List (RustJoin.JoinBind L V)) (x y : RustJoin.JoinBind L V) → slice_get xs n ≡ Some x → join_of y ≡ join_of x → joins_of (slice_set xs n y) ≡ joins_of xs
  join_same = item_same joins_seen

  alts_seen : Seen {L = L} {V = V} alt_of alts_of MoreAlts in_alt
  unfolding in_alt
  alts_seen = record { cons = λ x xs. refl; none = λ n f. refl; first = λ f a rest. refl; further = λ n f a rest. refl }

  pub alt_set : (n : ℕ) (f : Alt L V Word → Exchanged L V Word (Alt L V Word)) (xs : List (RustAlt.Alt L V)) (x y : RustAlt.Alt L V) (r : Answer L V) → slice_get xs n ≡ Some x
      → answered r (alt_of y) ≡ f (alt_of x) → answered r (alts_of (slice_set xs n y)) ≡ in_alt n f (alts_of xs)
  alt_set = item_set alts_seen

  pub alt_past : (n : ℕ) (f : Alt L V Word → Exchanged L V Word (Alt L V Word)) (xs : List (RustAlt.Alt L V)) → length xs ≤ n → in_alt n f (alts_of xs) ≡ None
  alt_past = item_past alts_seen

  pub alt_same : (n : ℕ) (xs : List (RustAlt.Alt L V)) (x y : RustAlt.Alt L V) → slice_get xs n ≡ Some x → alt_of y ≡ alt_of x → alts_of (slice_set xs n y) ≡ alts_of xs
  alt_same = item_same alts_seen

  pub binds_counted : (bs : List (RustBind.Bind L V)) → bind_count (binds_of bs) ≡ length bs
  binds_counted [] = refl
  binds_counted (b ∷ bs) = ap (λ n. suc n) (binds_counted bs)

  pub joins_counted : (js : List (RustJoin.JoinBind L V)) → join_count (joins_of js) ≡ length js
  joins_counted [] = refl
  joins_counted (j ∷ js) = ap (λ n. suc n) (joins_counted js)

pub binders_counted : {L : Type 0} (bs : List (RustBinder.Binder L)) → length (binders_of bs) ≡ length bs
binders_counted [] = refl
binders_counted (b ∷ bs) = ap (λ n. suc n) (binders_counted bs)

pub ruleset exchange_rules = (exchanged_nil, exchanged_cons, bind_nil, bind_cons, join_nil, join_cons, alt_nil, alt_cons, answered_in_head, answered_in_argument, answered_in_body, answered_in_binds, answered_in_let, answered_in_scrutinee, answered_in_alts, answered_in_cast, answered_in_con, answered_in_prim, answered_in_joins, answered_in_join_body, answered_in_jump, answered_as_term, answered_in_right_side, answered_in_join_side, answered_in_branch, expr_set, expr_past, expr_same, arg_set, arg_past, arg_same, bind_set, bind_past, bind_same, join_set, join_past, join_same, alt_set, alt_past, alt_same, binds_counted, joins_counted, binders_counted)
