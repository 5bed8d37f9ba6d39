-- Evaluation: call by name, with substitution.
use Rattle.std.specs.Prelude.{◌≡◌, ℕ, zero, suc, List, [], ◌∷◌, Bool, true, false, cond, ℤ, Option, Some, None, option_map}
use Rattle.std.specs.Ordering.{int_eq}
use Rattle.fc_syntax.specs.declared.ty.Name.{Name}
use Rattle.fc_syntax.specs.declared.expr.PrimOp.{PrimOp}
use Rattle.fc_syntax.specs.Primitives.{primitive_value}
use Rattle.fc_model.specs.Kinding.{same_name}
use Rattle.fc_model.specs.Terms.{Sort, Lifted, Unlifted, Head, Default, OfLit, OfCon, Term, Lit, Var, Global, App, Lam, Let, Rec, Case, Con, Prim, Terms, Nil, Cons, Alts, NoAlt, Alt, sub, push, pushes}

-- the right side of each top-level name
abbrev pub Program : Type 0
Program = Name → Option Term

unfoldable pub same_sort : Sort → Sort → Bool
same_sort Lifted Lifted = true
same_sort Unlifted Unlifted = true
same_sort _ _ = false

unfoldable pub same_sorts : List Sort → List Sort → Bool
unfolding same_sort
same_sorts [] [] = true
same_sorts (s ∷ ss) (r ∷ rs) = cond (same_sort s r) (same_sorts ss rs) false
same_sorts _ _ = false

-- HEADS AND ALTERNATIVES

-- what a case looks for: a literal, a constructor, or a lambda, which has no alternative of its own
pub data Key : Type 0 where
  LitKey : ℤ → Key
  ConKey : Name → Key
  LamKey : Key

-- what it finds: nothing, a body below the case's binder alone, or one below binders of these sorts too
pub data Found : Type 0 where
  Missing : Found
  Bare : Term → Found
  Fielded : List Sort → Term → Found

unfoldable pub matches : Key → Head → Bool
matches (LitKey z) (OfLit y) = int_eq z y
matches (ConKey c) (OfCon d ss) = same_name c d
matches _ _ = false

unfoldable pub found : Head → Term → Found
found Default b = Bare b
found (OfLit z) b = Bare b
found (OfCon c ss) b = Fielded ss b

unfoldable pub default_of : Alts → Found
default_of NoAlt = Missing
default_of (Alt Default b alts) = Bare b
default_of (Alt (OfLit z) b alts) = default_of alts
default_of (Alt (OfCon c ss) b alts) = default_of alts

-- the first alternative of the head's own, else d
unfoldable pub own : Key → Alts → Found → Found
unfolding matches found
own k NoAlt d = d
own k (Alt h b alts) d = cond (matches k h) (found h b) (own k alts d)

-- the alternative of the head's own, else the default
unfoldable pub choose : Key → Alts → Found
unfolding own default_of
choose k alts = own k alts (default_of alts)

-- the body of an alternative, with the head for the case's binder and the fields for its own, which must agree in number and sorts
unfoldable pub enter : Term → List Sort → Terms → Found → Option Term
unfolding sub push pushes same_sorts
enter h ss ts Missing = None
enter h ss ts (Bare b) = Some (sub (push h Var) b)
enter h ss ts (Fielded rs b) = cond (same_sorts rs ss) (Some (sub (pushes ts (push h Var)) b)) None

-- ONE STEP

-- the two places in which a term steps inside another: as the function of an application, and as what a case looks at
pub data Frame : Type 0 where
  AppTo : Sort → Term → Frame
  CaseOf : Sort → Alts → Frame

unfoldable pub plug : Frame → Term → Term
plug (AppTo s a) t = App s t a
plug (CaseOf s alts) t = Case s t alts

-- the step of a frame around a head: a lambda takes an argument of its own sort, and a case whose binder is unlifted a literal alone
unfoldable pub fire : Frame → Term → Option Term
unfolding sub push same_sort choose enter
fire (AppTo s a) (Lam r b) = cond (same_sort s r) (Some (sub (push a Var) b)) None
fire (CaseOf s alts) (Lit z) = enter (Lit z) [] Nil (choose (LitKey z) alts)
fire (CaseOf Lifted alts) (Lam r b) = enter (Lam r b) [] Nil (choose LamKey alts)
fire (CaseOf Lifted alts) (Con c ss ts) = enter (Con c ss ts) ss ts (choose (ConKey c) alts)
fire _ _ = None

-- the step of a frame around a term that steps so, or not at all
unfoldable pub through : Frame → Term → Option Term → Option Term
unfolding fire plug
through f t None = fire f t
through f t (Some u) = Some (plug f u)

-- each right side of a group below the same group
unfoldable pub wrap : Terms → Terms → Terms
wrap g Nil = Nil
wrap g (Cons t ts) = Cons (Rec g t) (wrap g ts)

unfoldable pub on_literals : PrimOp → Term → Term → Option Term
on_literals o (Lit a) (Lit b) = option_map Lit (primitive_value o a b)
on_literals o _ _ = None

-- the one step of a term
unfoldable pub next : Program → Term → Option Term
unfolding through sub push pushes wrap on_literals
next p (App s f a) = through (AppTo s a) f (next p f)
next p (Let s e b) = Some (sub (push e Var) b)
next p (Rec ts b) = Some (sub (pushes (wrap ts ts) Var) b)
next p (Case s e alts) = through (CaseOf s alts) e (next p e)
next p (Prim o a b) = on_literals o a b
next p (Global x) = p x
next p _ = None

abbrev pub IsHead : Term → Type 0
IsHead (Lit z) = Unit {0}
IsHead (Lam s b) = Unit {0}
IsHead (Con c ss ts) = Unit {0}
IsHead _ = ⊥

-- t comes to the head h in exactly k steps
abbrev pub Reaches : Program → Term → ℕ → Term → Type 0
Reaches p t zero h = (t ≡ h) × IsHead t
Reaches p t (suc k) h = (u : Term) × (next p t ≡ Some u) × Reaches p u k h
