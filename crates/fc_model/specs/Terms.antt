-- Erased terms. They have no types and no names of local variables: a local variable is the distance to its binder, and the
-- innermost binder is 0. An application, a lambda, a let, a field and the binder of a case keep a sort. Where several binders
-- stand together, as in a recursive group or an alternative, the last is the innermost, and all lists are the outermost first.
use Rattle.std.specs.Prelude.{◌≡◌, ℕ, zero, suc, ℤ, List, [], ◌∷◌, length, Option, Some, None, FitsSigned}
use mir.Syntax.{w64}
use Rattle.fc_syntax.specs.declared.ty.Name.{Name}
use Rattle.fc_syntax.specs.declared.expr.PrimOp.{PrimOp}

-- a lifted place takes any term, an unlifted one a machine integer
pub data Sort : Type 0 where
  Lifted : Sort
  Unlifted : Sort

-- what an alternative is for; a constructor's has the sorts of its binders
pub data Head : Type 0 where
  Default : Head
  OfLit : ℤ → Head
  OfCon : Name → List Sort → Head

mutual
  -- the right sides of a group stand under all its binders, the body of an alternative under the binder of the case and its own
  pub data Term : Type 0 where
    Lit : ℤ → Term
    Var : ℕ → Term
    Global : Name → Term
    Fail : Term
    App : Sort → Term → Term → Term
    Lam : Sort → Term → Term
    Let : Sort → Term → Term → Term
    Rec : Terms → Term → Term
    Case : Sort → Term → Alts → Term
    Con : Name → List Sort → Terms → Term
    Prim : PrimOp → Term → Term → Term

  -- the fields of a constructor, or the right sides of a group
  pub data Terms : Type 0 where
    Nil : Terms
    Cons : Term → Terms → Terms

  pub data Alts : Type 0 where
    NoAlt : Alts
    Alt : Head → Term → Alts → Alts

-- RENAMING AND SUBSTITUTION

-- a renaming under one binder
unfoldable pub upr : (ℕ → ℕ) → ℕ → ℕ
upr r zero = zero
upr r (suc n) = suc (r n)

-- and under as many
unfoldable pub uprs : ℕ → (ℕ → ℕ) → ℕ → ℕ
uprs zero r = r
uprs (suc k) r = uprs k (upr r)

unfoldable pub count : Terms → ℕ
count Nil = zero
count (Cons t ts) = suc (count ts)

-- the binders of an alternative beside that of the case
unfoldable pub binders : Head → ℕ
binders Default = zero
binders (OfLit z) = zero
binders (OfCon c ss) = length ss

unfoldable mutual
  unfolding upr uprs count binders

  pub ren : (ℕ → ℕ) → Term → Term
  ren r (Lit z) = Lit z
  ren r (Var n) = Var (r n)
  ren r (Global x) = Global x
  ren r Fail = Fail
  ren r (App s f a) = App s (ren r f) (ren r a)
  ren r (Lam s b) = Lam s (ren (upr r) b)
  ren r (Let s e b) = Let s (ren r e) (ren (upr r) b)
  ren r (Rec ts b) = Rec (ren_terms (uprs (count ts) r) ts) (ren (uprs (count ts) r) b)
  ren r (Case s e alts) = Case s (ren r e) (ren_alts r alts)
  ren r (Con c ss ts) = Con c ss (ren_terms r ts)
  ren r (Prim o a b) = Prim o (ren r a) (ren r b)

  pub ren_terms : (ℕ → ℕ) → Terms → Terms
  ren_terms r Nil = Nil
  ren_terms r (Cons t ts) = Cons (ren r t) (ren_terms r ts)

  pub ren_alts : (ℕ → ℕ) → Alts → Alts
  ren_alts r NoAlt = NoAlt
  ren_alts r (Alt h b alts) = Alt h (ren (uprs (binders h) (upr r)) b) (ren_alts r alts)

unfoldable pub shift : Term → Term
unfolding ren
shift t = ren suc t

-- a substitution under one binder
unfoldable pub up : (ℕ → Term) → ℕ → Term
unfolding shift
up s zero = Var zero
up s (suc n) = shift (s n)

-- and under as many
unfoldable pub ups : ℕ → (ℕ → Term) → ℕ → Term
unfolding up
ups zero s = s
ups (suc k) s = ups k (up s)

unfoldable mutual
  unfolding up ups count binders

  -- all variables at once, each by its term
  pub sub : (ℕ → Term) → Term → Term
  sub r (Lit z) = Lit z
  sub r (Var n) = r n
  sub r (Global x) = Global x
  sub r Fail = Fail
  sub r (App s f a) = App s (sub r f) (sub r a)
  sub r (Lam s b) = Lam s (sub (up r) b)
  sub r (Let s e b) = Let s (sub r e) (sub (up r) b)
  sub r (Rec ts b) = Rec (sub_terms (ups (count ts) r) ts) (sub (ups (count ts) r) b)
  sub r (Case s e alts) = Case s (sub r e) (sub_alts r alts)
  sub r (Con c ss ts) = Con c ss (sub_terms r ts)
  sub r (Prim o a b) = Prim o (sub r a) (sub r b)

  pub sub_terms : (ℕ → Term) → Terms → Terms
  sub_terms r Nil = Nil
  sub_terms r (Cons t ts) = Cons (sub r t) (sub_terms r ts)

  pub sub_alts : (ℕ → Term) → Alts → Alts
  sub_alts r NoAlt = NoAlt
  sub_alts r (Alt h b alts) = Alt h (sub (ups (binders h) (up r)) b) (sub_alts r alts)

-- a term for the innermost binder, and the others by s
unfoldable pub push : Term → (ℕ → Term) → ℕ → Term
push t s zero = t
push t s (suc n) = s n

-- terms for as many binders, the outermost first
unfoldable pub pushes : Terms → (ℕ → Term) → ℕ → Term
unfolding push
pushes Nil s = s
pushes (Cons t ts) s = pushes ts (push t s)

-- SORTED TERMS

-- the sort of a variable, among those in scope, the innermost first
unfoldable pub sort_at : List Sort → ℕ → Option Sort
sort_at [] n = None
sort_at (s ∷ ss) zero = Some s
sort_at (s ∷ ss) (suc n) = sort_at ss n

-- the sorts in scope below further binders
unfoldable pub enters : List Sort → List Sort → List Sort
enters [] g = g
enters (s ∷ ss) g = enters ss (s ∷ g)

-- the binders of a group are lifted
unfoldable pub lifteds : Terms → List Sort
lifteds Nil = []
lifteds (Cons t ts) = Lifted ∷ lifteds ts

unfoldable pub head_sorts : Head → List Sort
head_sorts Default = []
head_sorts (OfLit z) = []
head_sorts (OfCon c ss) = ss

-- from -2^63 to 2^63 - 1
abbrev pub InRange : ℤ → Type 0
InRange z = FitsSigned w64 z

-- an unlifted place holds a literal or a variable with an unlifted binder
abbrev pub IsAtom : List Sort → Sort → Term → Type 0
IsAtom g Lifted t = Unit {0}
IsAtom g Unlifted (Lit z) = Unit {0}
IsAtom g Unlifted (Var n) = sort_at g n ≡ Some Unlifted
IsAtom g Unlifted _ = ⊥

-- as many fields as sorts, and an atom at each unlifted one
abbrev pub HasSorts : List Sort → List Sort → Terms → Type 0
HasSorts g [] Nil = Unit {0}
HasSorts g [] (Cons t ts) = ⊥
HasSorts g (s ∷ ss) Nil = ⊥
HasSorts g (s ∷ ss) (Cons t ts) = IsAtom g s t × HasSorts g ss ts

abbrev mutual
  -- each variable has a binder among those of these sorts, each unlifted argument, field, right side of a let and operand is an
  -- atom, and each literal is in range
  pub IsSorted : List Sort → Term → Type 0
  IsSorted g (Lit z) = InRange z
  IsSorted g (Var n) = (s : Sort) × (sort_at g n ≡ Some s)
  IsSorted g (Global x) = Unit {0}
  IsSorted g Fail = Unit {0}
  IsSorted g (App s f a) = IsSorted g f × IsSorted g a × IsAtom g s a
  IsSorted g (Lam s b) = IsSorted (s ∷ g) b
  IsSorted g (Let s e b) = IsSorted g e × IsAtom g s e × IsSorted (s ∷ g) b
  IsSorted g (Rec ts b) = AreSorted (enters (lifteds ts) g) ts × IsSorted (enters (lifteds ts) g) b
  IsSorted g (Case s e alts) = IsSorted g e × AltsAreSorted (s ∷ g) alts
  IsSorted g (Con c ss ts) = AreSorted g ts × HasSorts g ss ts
  IsSorted g (Prim o a b) = IsSorted g a × IsAtom g Unlifted a × IsSorted g b × IsAtom g Unlifted b

  pub AreSorted : List Sort → Terms → Type 0
  AreSorted g Nil = Unit {0}
  AreSorted g (Cons t ts) = IsSorted g t × AreSorted g ts

  pub AltsAreSorted : List Sort → Alts → Type 0
  AltsAreSorted g NoAlt = Unit {0}
  AltsAreSorted g (Alt h b alts) = IsSorted (enters (head_sorts h) g) b × AltsAreSorted g alts
