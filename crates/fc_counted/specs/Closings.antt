-- Closing substitutions at a place of two terms: what they put in for the binders above it, on each side and on both.
use Rattle.std.specs.Prelude.{◌≡◌, ℕ, ◌≤◌, List, [], ◌∷◌, true, Some, ℤ}
use Rattle.fc_syntax.specs.declared.ty.Name.{Name}
use Rattle.fc_model.specs.Stepping.{Program, Reaches, Key, LitKey, ConKey, LamKey, matches, wrap}
use Rattle.fc_model.specs.Terms.{Sort, Head, Default, OfLit, OfCon, Term, Lit, Lam, Con, Terms, Nil, Cons, binders, count, sub, sub_terms, push, pushes, ups, sort_at, IsSorted}
use Rattle.fc_counted.specs.Changes.{PartRelation}
use Rattle.fc_counted.specs.CountedRelation.{Counted, Fit, Under}
use Rattle.fc_counted.specs.Places.{AllMiss, Side, Nothing, BelowLambda, BelowLet, BelowGroup, InAlternative, Place, side_on_left, side_on_right, sorts_in}

-- a closing substitution: terms for all variables
abbrev pub Closing : Type 0
Closing = ℕ → Term

-- terms that fit, for the variables of these sorts
abbrev pub Closes : Counted → ℕ → List Sort → Closing → Closing → Type 0
Closes R k g p q = (n : ℕ) (s : Sort) → sort_at g n ≡ Some s → Fit R k s (p n) (q n)

-- fields that fit, each at its sort
abbrev pub FieldsFit : Counted → ℕ → List Sort → Terms → Terms → Type 0
FieldsFit R k [] Nil Nil = Unit {0}
FieldsFit R k (s ∷ ss) (Cons t ts) (Cons u us) = Fit R k s t u × FieldsFit R k ss ts us
FieldsFit R k [] Nil (Cons u us) = ⊥
FieldsFit R k [] (Cons t ts) us = ⊥
FieldsFit R k (s ∷ ss) Nil us = ⊥
FieldsFit R k (s ∷ ss) (Cons t ts) Nil = ⊥

-- ALTERNATIVES

-- a head, what a case looks for at it, and its fields
pub data HeadShape : Key → Term → List Sort → Terms → Type 0 where
  literal_shape : {z : ℤ} → HeadShape (LitKey z) (Lit z) [] Nil
  constructor_shape : {c : Name} {ss : List Sort} {ts : Terms} → HeadShape (ConKey c) (Con c ss ts) ss ts
  lambda_shape : {s : Sort} {b : Term} → HeadShape LamKey (Lam s b) [] Nil

-- the alternative of this head is the one that is taken, among alternatives of these heads
abbrev pub TakesHead : Key → List Head → Head → Type 0
TakesHead k hs Default = AllMiss k hs
TakesHead k hs (OfLit z) = matches k (OfLit z) ≡ true
TakesHead k hs (OfCon c ss) = matches k (OfCon c ss) ≡ true

-- a constructor's alternative is taken with the sorts of its binders alone
abbrev pub SameSorts : Head → List Sort → Type 0
SameSorts Default ss = Unit {0}
SameSorts (OfLit z) ss = Unit {0}
SameSorts (OfCon c rs) ss = rs ≡ ss

-- the terms for the binders of an alternative beside that of the case
unfoldable pub own_fields : Head → Terms → Terms
own_fields Default ts = Nil
own_fields (OfLit z) ts = Nil
own_fields (OfCon c ss) ts = ts

-- ONE SIDE

-- a group's right sides, each below the group
abbrev pub unrolled : Closing → Terms → Terms
unrolled p ts = wrap (sub_terms (ups (count ts) p) ts) (sub_terms (ups (count ts) p) ts)

-- below an alternative that was taken: the scrutinee has come to x
pub record EntersAlternative (P : Program) (E : Closing → Type 0) (t : Term) (hs : List Head) (h : Head) (p : Closing) : Type 0 where
  pub outer : Closing
  pub x : Term
  pub key : Key
  pub ss : List Sort
  pub xs : Terms
  pub steps : ℕ
  pub whole : p ≡ pushes (own_fields h xs) (push x outer)
  pub shape : HeadShape key x ss xs
  pub takes : TakesHead key hs h
  pub same_sorts : SameSorts h ss
  pub counts : binders h ≡ count (own_fields h xs)
  pub from : Reaches P (sub outer t) steps x
  pub rest : E outer

-- what a closing substitution puts in for the binders of one side
abbrev pub ClosesSide : Program → Side → Closing → Type 0
ClosesSide P Nothing p = Unit {0}
ClosesSide P (BelowLambda s c) p = (q : Closing) × (x : Term) × (p ≡ push x q) × ClosesSide P c q
ClosesSide P (BelowLet s a c) p = (q : Closing) × (p ≡ push (sub q a) q) × ClosesSide P c q
ClosesSide P (BelowGroup ts c) p = (q : Closing) × (p ≡ pushes (unrolled q ts) q) × ClosesSide P c q
ClosesSide P (InAlternative s t hs h c) p = EntersAlternative P (ClosesSide P c) t hs h p

-- BOTH SIDES

-- two substitutions close a place: what they put in fits at a count, and is on each side what the binders above the place stand for
pub record AreClosing (P Q : Program) (i : ℕ) (c : Place) (p q : Closing) : Type 0 where
  pub closes : Closes (Under P Q) i (sorts_in c) p q
  pub on_left : ClosesSide P (side_on_left c) p
  pub on_right : ClosesSide Q (side_on_right c) q

-- THE OPEN EXTENSION

-- all instances are under one another at each count up to k
abbrev pub OpenUnder : Program → Program → ℕ → Place → Term → Term → Type 0
OpenUnder P Q k c t u = (i : ℕ) → i ≤ k → (p q : Closing) → AreClosing P Q i c p q → Under P Q i (sub p t) (sub q u)

-- so are the members of a group
abbrev pub AllOpenUnder : Program → Program → ℕ → Place → Terms → Terms → Type 0
AllOpenUnder P Q k c Nil Nil = Unit {0}
AllOpenUnder P Q k c (Cons t ts) (Cons u us) = OpenUnder P Q k c t u × AllOpenUnder P Q k c ts us
AllOpenUnder P Q k c Nil (Cons u us) = ⊥
AllOpenUnder P Q k c (Cons t ts) Nil = ⊥

-- sorted parts that are related are under one another, each at its place
abbrev pub PartsUnder : Program → Program → PartRelation → ℕ → Type 0
PartsUnder P Q R k = (c : Place) (t u : Term) → R c t u → IsSorted (sorts_in c) t → IsSorted (sorts_in c) u → OpenUnder P Q k c t u
