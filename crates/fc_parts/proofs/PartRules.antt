-- The equations of what is asked at a place, and of lists of parts by one of their items.
use Rattle.std.proofs.Common.{◌≡◌, ℕ, ℤ, zero, suc, ◌≤◌, Bool, true, false, nat_eq, List, [], ◌∷◌, Option, Some, None, length, refl, ap, ◌∙◌, arith, if◌then◌else◌}
use Rattle.std.specs.Prelude.{◌↔◌, IsTrue, slice_get}
use Rattle.fc_syntax.specs.declared.ty.Ref.{Ref}
use Rattle.fc_syntax.specs.declared.expr.Expr as E
use Rattle.fc_syntax.specs.declared.expr.Arg as A
use Rattle.fc_syntax.specs.declared.expr.Bind as RustBind
use Rattle.fc_syntax.specs.declared.expr.JoinBind as RustJoin
use Rattle.fc_syntax.specs.declared.expr.Alt as RustAlt
use Rattle.fc_syntax.specs.declared.expr.Binder as RustBinder
use Rattle.fc_syntax.specs.declared.expr.Head.{Head}
use Rattle.fc_syntax.specs.declared.expr.Head.TheVariants as head
use Rattle.fc_model.specs.Nameless.{NTy, NBinder, NExpr, NArg, NBind, NBound, NJoinBind, NJoined, NAlt, NBranch, MoreNExprs, MoreNArgs, MoreNBinds, MoreNJoins, MoreNAlts}
use Rattle.fc_model.specs.NamelessView.{nalt_of, nalts_of, narg_of, nargs_of, nbind_of, nbinders_of, nbinds_of, nexpr_of, nexprs_of, njoin_of, njoins_of}
pub use Rattle.fc_numbers.proofs.Counted.{binds_counted, joins_counted}
use Rattle.fc_rows.specs.Surroundings.{Surroundings, behind_binders, head_binds, in_alternative}
use Rattle.fc_parts.specs.PartsAt.{at_place, at_place_of_alt, at_place_of_bind, at_place_of_join, of_alt, of_arg, of_bind, of_expr, of_join, of_part}

-- PLACES

module _ {X : Type 0} (ask : Surroundings → NExpr → Option X) where
  pub place_nil : (s : Surroundings) (e : NExpr) (p : List ℕ) → length p ≡ 0 → at_place ask p s e ≡ ask s e
  unfolding at_place
  place_nil s e [] is = refl
  place_nil s e (i ∷ p) is = absurd (omega (arith, is))

  pub place_cons : (i : ℕ) (p : List ℕ) (s : Surroundings) (e : NExpr)
      → at_place ask (i ∷ p) s e ≡ of_part i (at_place ask p) (at_place_of_bind ask p) (at_place_of_join ask p) (at_place_of_alt ask p) s e
  unfolding at_place
  place_cons i p s e = refl

  pub bind_nil : (s : Surroundings) (b : NBind) (p : List ℕ) → length p ≡ 0 → at_place_of_bind ask p s b ≡ None
  unfolding at_place_of_bind
  bind_nil s b [] is = refl
  bind_nil s b (i ∷ p) is = absurd (omega (arith, is))

  pub bind_cons : (i : ℕ) (p : List ℕ) (s : Surroundings) (t : NTy) (e : NExpr) → at_place_of_bind ask (i ∷ p) s (NBound t e) ≡ (if nat_eq i 1 then at_place ask p s e else None)
  unfolding at_place_of_bind
  bind_cons i p s t e = refl

  pub join_nil : (s : Surroundings) (j : NJoinBind) (p : List ℕ) → length p ≡ 0 → at_place_of_join ask p s j ≡ None
  unfolding at_place_of_join
  join_nil s j [] is = refl
  join_nil s j (i ∷ p) is = absurd (omega (arith, is))

  pub join_cons : (i : ℕ) (p : List ℕ) (s : Surroundings) (ps : List NBinder) (e : NExpr)
      → at_place_of_join ask (i ∷ p) s (NJoined ps e) ≡ (if nat_eq i (length ps) then at_place ask p (behind_binders ps s) e else None)
  unfolding at_place_of_join
  join_cons i p s ps e = refl

  pub alt_nil : (x : NExpr) (t : NTy) (hs : List Head) (s : Surroundings) (a : NAlt) (p : List ℕ) → length p ≡ 0 → at_place_of_alt ask p x t hs s a ≡ None
  unfolding at_place_of_alt
  alt_nil x t hs s a [] is = refl
  alt_nil x t hs s a (i ∷ p) is = absurd (omega (arith, is))

  pub alt_cons : (i : ℕ) (p : List ℕ) (x : NExpr) (t : NTy) (hs : List Head) (s : Surroundings) (h : Head) (bs : List NBinder) (e : NExpr)
      → at_place_of_alt ask (i ∷ p) x t hs s (NBranch h bs e) ≡ (if head_binds h bs then (if nat_eq i (length bs) then at_place ask p (in_alternative x t hs h bs s) e else None) else None)
  unfolding at_place_of_alt
  alt_cons i p x t hs s h bs e = refl

-- LISTS

-- how a list is seen, and what is made of the item of a number
record Seen {X A As Y : Type 0} (view : X → A) (out : List X → As) (more : A → As → As) (one : ℕ → (A → Option Y) → As → Option Y) : Type 0 where
  cons : (x : X) (xs : List X) → out (x ∷ xs) ≡ more (view x) (out xs)
  none : (n : ℕ) (f : A → Option Y) → one n f (out []) ≡ None
  first : (f : A → Option Y) (a : A) (rest : As) → one zero f (more a rest) ≡ f a
  further : (n : ℕ) (f : A → Option Y) (a : A) (rest : As) → one (suc n) f (more a rest) ≡ one n f rest

module _ {X A As Y : Type 0} {view : X → A} {out : List X → As} {more : A → As → As} {one : ℕ → (A → Option Y) → As → Option Y} (seen : Seen view out more one) where
  item_there : (n : ℕ) (f : A → Option Y) (xs : List X) (x : X) → slice_get xs n ≡ Some x → one n f (out xs) ≡ f (view x)
  item_there n f [] x is = cc
  item_there zero f (z ∷ xs) x is =
      let same : z ≡ x = cc in
      ap (one zero f) (seen.cons z xs) ∙ seen.first f (view z) (out xs) ∙ ap (λ w. f (view w)) same
  item_there (suc n) f (z ∷ xs) x is = ap (one (suc n) f) (seen.cons z xs) ∙ seen.further n f (view z) (out xs) ∙ item_there n f xs x is

  item_past : (n : ℕ) (f : A → Option Y) (xs : List X) → length xs ≤ n → one n f (out xs) ≡ None
  item_past n f [] is = seen.none n f
  item_past zero f (z ∷ xs) is = absurd (omega (arith, is))
  item_past (suc n) f (z ∷ xs) is = ap (one (suc n) f) (seen.cons z xs) ∙ seen.further n f (view z) (out xs) ∙ item_past n f xs (omega (arith, is))

module _ {Y : Type 0} where
  args_seen : Seen {Y = Y} narg_of nargs_of MoreNArgs of_arg
  unfolding of_arg
  args_seen = record { cons = λ x xs. refl; none = λ n f. refl; first = λ f a rest. refl; further = λ n f a rest. refl }

  pub arg_there : (n : ℕ) (f : NArg → Option Y) (xs : List (A.Arg ℕ Ref)) (x : A.Arg ℕ Ref) → slice_get xs n ≡ Some x → of_arg n f (nargs_of xs) ≡ f (narg_of x)
  arg_there = item_there args_seen

  pub arg_past : (n : ℕ) (f : NArg → Option Y) (xs : List (A.Arg ℕ Ref)) → length xs ≤ n → of_arg n f (nargs_of xs) ≡ None
  arg_past = item_past args_seen

  exprs_seen : Seen {Y = Y} nexpr_of nexprs_of MoreNExprs of_expr
  unfolding of_expr
  exprs_seen = record { cons = λ x xs. refl; none = λ n f. refl; first = λ f a rest. refl; further = λ n f a rest. refl }

  pub expr_there : (n : ℕ) (f : NExpr → Option Y) (xs : List (E.Expr ℕ Ref)) (x : E.Expr ℕ Ref) → slice_get xs n ≡ Some x → of_expr n f (nexprs_of xs) ≡ f (nexpr_of x)
  expr_there = item_there exprs_seen

  pub expr_past : (n : ℕ) (f : NExpr → Option Y) (xs : List (E.Expr ℕ Ref)) → length xs ≤ n → of_expr n f (nexprs_of xs) ≡ None
  expr_past = item_past exprs_seen

  binds_seen : Seen {Y = Y} nbind_of nbinds_of MoreNBinds of_bind
  unfolding of_bind
  binds_seen = record { cons = λ x xs. refl; none = λ n f. refl; first = λ f a rest. refl; further = λ n f a rest. refl }

  pub bind_there : (n : ℕ) (f : NBind → Option Y) (xs : List (RustBind.Bind ℕ Ref)) (x : RustBind.Bind ℕ Ref) → slice_get xs n ≡ Some x → of_bind n f (nbinds_of xs) ≡ f (nbind_of x)
  bind_there = item_there binds_seen

  pub bind_past : (n : ℕ) (f : NBind → Option Y) (xs : List (RustBind.Bind ℕ Ref)) → length xs ≤ n → of_bind n f (nbinds_of xs) ≡ None
  bind_past = item_past binds_seen

  joins_seen : Seen {Y = Y} njoin_of njoins_of MoreNJoins of_join
  unfolding of_join
  joins_seen = record { cons = λ x xs. refl; none = λ n f. refl; first = λ f a rest. refl; further = λ n f a rest. refl }

  pub join_there : (n : ℕ) (f : NJoinBind → Option Y) (xs : List (RustJoin.JoinBind ℕ Ref)) (x : RustJoin.JoinBind ℕ Ref) → slice_get xs n ≡ Some x → of_join n f (njoins_of xs) ≡ f (njoin_of x)
  join_there = item_there joins_seen

  pub join_past : (n : ℕ) (f : NJoinBind → Option Y) (xs : List (RustJoin.JoinBind ℕ Ref)) → length xs ≤ n → of_join n f (njoins_of xs) ≡ None
  join_past = item_past joins_seen

  alts_seen : Seen {Y = Y} nalt_of nalts_of MoreNAlts of_alt
  unfolding of_alt
  alts_seen = record { cons = λ x xs. refl; none = λ n f. refl; first = λ f a rest. refl; further = λ n f a rest. refl }

  pub alt_there : (n : ℕ) (f : NAlt → Option Y) (xs : List (RustAlt.Alt ℕ Ref)) (x : RustAlt.Alt ℕ Ref) → slice_get xs n ≡ Some x → of_alt n f (nalts_of xs) ≡ f (nalt_of x)
  alt_there = item_there alts_seen

  pub alt_past : (n : ℕ) (f : NAlt → Option Y) (xs : List (RustAlt.Alt ℕ Ref)) → length xs ≤ n → of_alt n f (nalts_of xs) ≡ None
  alt_past = item_past alts_seen

-- HEADS

pub default_binds : (bs : List (RustBinder.Binder ℕ)) (b : Bool) → IsTrue b ↔ (bs ≡ []) → b ≡ head_binds head.Default (nbinders_of bs)
default_binds [] b is = is.1 refl
default_binds (x ∷ bs) true is = let e : (x ∷ bs) ≡ [] = is.0 refl in cc
default_binds (x ∷ bs) false is = refl

pub literal_binds : (n : ℤ) (bs : List (RustBinder.Binder ℕ)) (b : Bool) → IsTrue b ↔ (bs ≡ []) → b ≡ head_binds (head.Lit n) (nbinders_of bs)
literal_binds n [] b is = is.1 refl
literal_binds n (x ∷ bs) true is = let e : (x ∷ bs) ≡ [] = is.0 refl in cc
literal_binds n (x ∷ bs) false is = refl

-- HOW MANY

pub binders_counted : (bs : List (RustBinder.Binder ℕ)) → length (nbinders_of bs) ≡ length bs
binders_counted [] = refl
binders_counted (b ∷ bs) = ap (λ n. suc n) (binders_counted bs)

pub ruleset part_rules = (place_nil, place_cons, bind_nil, bind_cons, join_nil, join_cons, alt_nil, alt_cons, arg_there, arg_past, expr_there, expr_past, bind_there, bind_past, join_there, join_past, alt_there, alt_past, binds_counted, joins_counted, binders_counted)
