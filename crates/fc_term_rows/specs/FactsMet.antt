-- What it means of a closing substitution that a fact of a term holds.
use Rattle.std.specs.Prelude.{◌≡◌, ℕ, List, Some}
use Rattle.fc_syntax.specs.declared.ty.Name.{Name}
use Rattle.fc_model.specs.Stepping.{Key, Program, Reaches}
use Rattle.fc_model.specs.Terms.{Con, Global, Head, Lit, Sort, Term, Terms, sub, sub_terms}
use Rattle.fc_counted.specs.Closings.{Closing, HeadShape}
use Rattle.fc_counted.specs.Places.{AllMiss}
use Rattle.fc_term_rows.specs.Facts.{Fact, FactCon, FactNumber, FactNoneOf, Known}

-- t comes to a head that none of these alternatives is for
pub record NoneTakes (P : Program) (t : Term) (hs : List Head) : Type 0 where
  pub steps : ℕ
  pub head : Term
  pub key : Key
  pub ss : List Sort
  pub ts : Terms
  pub there : Reaches P t steps head
  pub shape : HeadShape key head ss ts
  pub misses : AllMiss key hs

-- the instance of a term under p is what the fact says
abbrev pub Meets : Program → Closing → Term → Fact → Type 0
Meets P p t (FactCon d ss ts) = (l : ℕ) × Reaches P (sub p t) l (Con d ss (sub_terms p ts))
Meets P p t (FactNumber z) = (l : ℕ) × Reaches P (sub p t) l (Lit z)
Meets P p t (FactNoneOf hs) = NoneTakes P (sub p t) hs

-- what is known of top-level names holds of them, whatever is put in
abbrev pub GlobalsMeet : Program → Known → Type 0
GlobalsMeet P G = (x : Name) (f : Fact) → G x f → (p : Closing) → Meets P p (Global x) f

-- the definitions that may be put in are those of the program
abbrev pub DefinesAll : Program → (Name → Term → Type 0) → Type 0
DefinesAll P D = (x : Name) (d : Term) → D x d → P x ≡ Some d
