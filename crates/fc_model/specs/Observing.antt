-- What a term shows.
use Rattle.std.specs.Prelude.{ℕ, ℤ, List}
use Rattle.fc_syntax.specs.declared.ty.Name.{Name}
use Rattle.fc_model.specs.Stepping.{Program, Reaches}
use Rattle.fc_model.specs.Terms.{Sort, Term, Lit, Lam, Con, Terms, Nil, Cons}

mutual
  -- nothing is asked, a number, some function, or a constructor with an observation of each field
  pub data Observation : Type 0 where
    Anything : Observation
    Number : ℤ → Observation
    Function : Observation
    Built : Name → Observations → Observation

  pub data Observations : Type 0 where
    NoneMore : Observations
    OneMore : Observation → Observations → Observations

abbrev mutual
  -- in some number of steps. What goes on for ever, and what can go no further and is no head, shows only that nothing is asked
  pub Sees : Program → Term → Observation → Type 0
  Sees p t Anything = Unit {0}
  Sees p t (Number z) = (k : ℕ) × Reaches p t k (Lit z)
  Sees p t Function = (k : ℕ) × (s : Sort) × (b : Term) × Reaches p t k (Lam s b)
  Sees p t (Built c os) = (k : ℕ) × (ss : List Sort) × (ts : Terms) × Reaches p t k (Con c ss ts) × SeeAll p ts os

  -- as many fields, and each shows its part
  pub SeeAll : Program → Terms → Observations → Type 0
  SeeAll p Nil NoneMore = Unit {0}
  SeeAll p (Cons t ts) (OneMore o os) = Sees p t o × SeeAll p ts os
  SeeAll p _ _ = ⊥
